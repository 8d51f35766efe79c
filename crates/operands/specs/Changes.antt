-- What a method makes of an operand stack. Assumes nothing.
use Rattle.std.specs.Prelude.{◌≡◌, ℕ, ◌+◌, ◌≤◌, max, List, [], ◌∷◌, length, drop, Some, None, Option, Ok, Err, Result}
use Rattle.operands.specs.Stacks.{Room, slots_of, stacked}
use Rattle.operands.specs.declared.stack.Stack.{Stack}
use Rattle.operands.specs.declared.stack.StackError.{StackError}
use Rattle.operands.specs.declared.stack.StackError.TheVariants.{Unfit, NoRoom}

-- The stack that a `Stack` holds, the top first.
abbrev pub held : {C : Type 0} → Stack C → List C
held s = stacked s.cells.now s.used

-- Room for so many cells more, which take so many slots.
abbrev pub HasRoom : {C : Type 0} → (C → ℕ) → Stack C → ℕ → ℕ → Type 0
HasRoom size s cells slots =
    (s.used + cells ≤ length s.cells.now) × (slots_of size (held s) + slots ≤ 16)

-- The same cells are lent, which hold what they held, and as many are in use.
abbrev pub AltersNothing : {C : Type 0} → Stack C → Stack C → Type 0
AltersNothing before after = (after.cells ≡ before.cells) × (after.used ≡ before.used)

-- `Pops before r after`: r is the top, and what lay below it is the stack then; none where the stack is empty. The same
-- cells are lent, which hold what they held.
abbrev pub Pops : {C : Type 0} → Stack C → Option C → Stack C → Type 0
Pops before (Some x) after =
    (held before ≡ x ∷ held after) × ((after.cells ≡ before.cells) × (after.used + 1 ≡ before.used))
Pops before None after = (held before ≡ []) × AltersNothing before after

-- Why the stack `wanted` is refused where n cells were lent: the instruction does not fit, so that nothing is wanted; or
-- what is wanted has no room.
abbrev pub Refuses : {C : Type 0} → (C → ℕ) → Option (List C) → ℕ → StackError → Type 0
Refuses size wanted n Unfit = wanted ≡ None
Refuses size wanted n NoRoom = (stack : List _) × ((wanted ≡ Some stack) × (Room size n stack → ⊥))

-- The same cells are lent, as many as before, and those past both stacks are as they were.
abbrev pub SameBeyond : {C : Type 0} → Stack C → Stack C → Type 0
SameBeyond before after =
    (after.cells.ghost_name ≡ before.cells.ghost_name)
    × ((length after.cells.now ≡ length before.cells.now)
    × (drop (max before.used after.used) after.cells.now ≡ drop (max before.used after.used) before.cells.now))

-- `Becomes size wanted before r after`: the stack is to become the stack `wanted`. Where r is ok it has become that, and
-- the cells beyond are as they were; where r is an error it says why, and nothing is altered.
abbrev pub Becomes : {A C : Type 0} → (C → ℕ) → Option (List C) → Stack C → Result A StackError → Stack C → Type 0
Becomes size wanted before (Ok _) after =
    (wanted ≡ Some (held after)) × (Room size (length before.cells.now) (held after) × SameBeyond before after)
Becomes size wanted before (Err e) after =
    AltersNothing before after × Refuses size wanted (length before.cells.now) e
