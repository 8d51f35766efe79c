-- The operand stack, over any sort of cell that tells its slots. Assumes nothing.
use Rattle.std.specs.Prelude.{◌≡◌, ℕ, ◌+◌, ◌<◌, ◌≤◌, max, Bool, cond, ◌&&◌, List, [], ◌∷◌, ◌++◌, reverse, length, take, drop, Some, None, sum_by, Option, option_map, ◌==◌, codes}
use Rattle.operands.specs.declared.stack.StackError.{StackError}
use Rattle.operands.specs.declared.stack.StackError.TheVariants.{Unfit, NoRoom}
use Rattle.operands.specs.declared.stack.StackOp.{StackOp}
use Rattle.operands.specs.declared.stack.StackOp.TheVariants.{Dup, Dup2, Pop, Pop2, Swap}

-- A stack is the list of its cells, the top first. In a lent slice it lies the other way round: of the first `used`
-- cells the last is the top. A count past the slice's end means all of it.
abbrev pub stacked : {C : Type 0} → List C → ℕ → List C
stacked cells used = reverse (take used cells)

-- How many slots the cells of a stack take together.
abbrev pub slots_of : {C : Type 0} → (C → ℕ) → List C → ℕ
slots_of size stack = sum_by size stack

-- The top of a stack; none where it is empty.
abbrev pub top_of : {C : Type 0} → List C → Option C
top_of [] = None
top_of (x ∷ s) = Some x

-- `Pops cells used r`: r is the top of the stack of the first `used` cells with how many cells lie below it; none where
-- the stack is empty.
abbrev pub Pops : {C : Type 0} → List C → ℕ → Option (C × ℕ) → Type 0
Pops cells used (Some p) = (stacked cells used ≡ p.0 ∷ stacked cells p.1) × ((p.1 < used) × (p.1 < length cells))
Pops cells used None = stacked cells used ≡ []

abbrev pub when : {X : Type 0} → Bool → X → Option X
when b x = cond b (Some x) None

-- What an instruction that rearranges the stack is written as.
abbrev pub op_text : StackOp → List ℕ
op_text Dup = codes "dup"
op_text Dup2 = codes "dup2"
op_text Pop = codes "pop"
op_text Pop2 = codes "pop2"
op_text Swap = codes "swap"

-- What an error is printed as.
abbrev pub error_text : StackError → List ℕ
error_text Unfit = codes "the instruction does not fit the stack"
error_text NoRoom = codes "the stack has no room"

-- What the instructions that rearrange the stack make of it; none where they do not fit what lies there. `dup`, `pop`
-- and `swap` act on cells of one slot; `dup2` and `pop2` on one cell of two slots or on two cells of one slot.
abbrev pub rearranged : {C : Type 0} → (C → ℕ) → StackOp → List C → Option (List C)
rearranged size Dup [] = None
rearranged size Dup (x ∷ s) = when (size x == 1) (x ∷ x ∷ s)
rearranged size Dup2 [] = None
rearranged size Dup2 (x ∷ []) = when (size x == 2) (x ∷ x ∷ [])
rearranged size Dup2 (x ∷ y ∷ s) = cond (size x == 2) (Some (x ∷ x ∷ y ∷ s)) (when (size x == 1 && size y == 1) (x ∷ y ∷ x ∷ y ∷ s))
rearranged size Pop [] = None
rearranged size Pop (x ∷ s) = when (size x == 1) s
rearranged size Pop2 [] = None
rearranged size Pop2 (x ∷ []) = when (size x == 2) []
rearranged size Pop2 (x ∷ y ∷ s) = cond (size x == 2) (Some (y ∷ s)) (when (size x == 1 && size y == 1) s)
rearranged size Swap [] = None
rearranged size Swap (x ∷ []) = None
rearranged size Swap (x ∷ y ∷ s) = when (size x == 1 && size y == 1) (y ∷ x ∷ s)

-- How many cells on top take n slots together, where one or two do.
abbrev pub top_group : {C : Type 0} → (C → ℕ) → ℕ → List C → Option ℕ
top_group size n [] = None
top_group size n (x ∷ []) = when (size x == n) 1
top_group size n (x ∷ y ∷ s) = cond (size x == n) (Some 1) (when (size y + size x == n) 2)

-- The stack with those cells copied, or taken away.
abbrev pub copied : {C : Type 0} → (C → ℕ) → ℕ → List C → Option (List C)
copied size n s = option_map (λ k. take k s ++ s) (top_group size n s)

abbrev pub taken : {C : Type 0} → (C → ℕ) → ℕ → List C → Option (List C)
taken size n s = option_map (λ k. drop k s) (top_group size n s)

-- A stack has room in a slice of n cells: it takes at most 16 slots, and no more cells than there are.
-- (Of 16 cells there are always enough, since each takes a slot at least.)
abbrev pub Room : {C : Type 0} → (C → ℕ) → ℕ → List C → Type 0
Room size n stack = (slots_of size stack ≤ 16) × (length stack ≤ n)

-- A stack of at most 16 slots has at most 16 cells.
abbrev pub FewCells : {C : Type 0} → (C → ℕ) → Type 0
FewCells size = (stack : List _) → slots_of size stack ≤ 16 → length stack ≤ 16

-- `Becomes size wanted cells used r after`: the stack of the first `used` cells is to become the stack `wanted`. Where
-- r is a count it has become that, and the cells past both are as they were; where r is none, nothing is wanted or it
-- has no room, and nothing is altered.
abbrev pub Becomes : {C : Type 0} → (C → ℕ) → Option (List C) → List C → ℕ → Option ℕ → List C → Type 0
Becomes size wanted cells used (Some m) after =
    (wanted ≡ Some (stacked after m)) × (Room size (length cells) (stacked after m) × ((m ≤ length after) × (drop (max used m) after ≡ drop (max used m) cells)))
Becomes size wanted cells used None after = (after ≡ cells) × ((stack : List _) → wanted ≡ Some stack → Room size (length cells) stack → ⊥)
