-- What a rearrangement makes of the cells is what it makes of the stack. Assumes nothing.
use Rattle.std.proofs.Common.{◌≡◌, ℕ, ◌+◌, ◌-◌, ◌<◌, ◌≤◌, max, List, ◌∷◌, ◌++◌, length, get_or, take, drop, reverse, Some, Option, option_map, sym, refl, ap, ◌∙◌, subst, arith}
use Rattle.std.specs.List.{copy_within, swap}
use lib.Seq.{paste}
use Rattle.std.proofs.lemmas.List.{get_or-take, length-drop, length-take-le, take-take}
use Rattle.std.proofs.lemmas.List.Edits.{drop-paste, length-paste, length-swap}
use Rattle.std.proofs.lemmas.Bool.{and_from, cond-true, eq-eqb}
use Rattle.std.proofs.lemmas.List.Sums.{sum_by-append, sum_by-cons}
use Rattle.operands.specs.Stacks.{Room, copied, rearranged, slots_of, stacked, taken, top_group}
use Rattle.operands.specs.declared.stack.StackOp.TheVariants.{Swap}
use Rattle.operands.proofs.Grouping.{group_slots}
use Rattle.operands.proofs.Stacking.{length-stacked-le, stacked-copied, stacked-drop, stacked-swapped, stacked_two, swap_past}

-- the group of a stack, as it is read in a slice
pub group_read : {C : Type 0} (size : C → ℕ) (n k : ℕ) (read : Option ℕ) (s r : List C) → s ≡ reverse r → read ≡ top_group size n (reverse r) → read ≡ Some k → top_group size n s ≡ Some k
group_read size n k read s r same is some = ap (top_group size n) same ∙ sym is ∙ some

-- a cell of the stack, counted from the top, as it is read in a slice
pub cell_read : {C : Type 0} (cells r : List C) (used k : ℕ) (x : C) → used ≤ length cells → r ≡ take used cells → 1 ≤ k → k ≤ length r → x ≡ get_or r (length r - k) x → x ≡ get_or cells (used - k) x
cell_read cells r used k x within same some enough read =
    let long : length r ≡ used = ap length same ∙ length-take-le used cells within in
    read
    ∙ ap (λ l. get_or l (length r - k) x) same
    ∙ ap (λ n. get_or (take used cells) (n - k) x) long
    ∙ get_or-take used cells (used - k) x (omega arith)

-- the slots of the cells below the top
pub slots_below : {C : Type 0} (size : C → ℕ) (cells r : List C) (used left : ℕ) → left ≤ used → r ≡ take used cells → slots_of size (reverse (take left r)) ≡ slots_of size (stacked cells left)
slots_below size cells r used left h e =
    ap (λ l. slots_of size (reverse (take left l))) e ∙ ap (λ l. slots_of size (reverse l)) (take-take left used cells h)

-- the two cells on top are exchanged
pub exchanged : {C : Type 0} (size : C → ℕ) (s t : List C) (x y : C) → s ≡ x ∷ y ∷ t → size x ≡ 1 → size y ≡ 1 → rearranged size Swap s ≡ Some (y ∷ x ∷ t)
exchanged size s t x y e one-x one-y =
    ap (rearranged size Swap) e ∙ cond-true _ _ _ (and_from _ _ (eq-eqb (size x) 1 one-x) (eq-eqb (size y) 1 one-y))

module _ {C : Type 0} (size : C → ℕ) (cells : List C) (used : ℕ) (within : used ≤ length cells) where
  -- the wanted stack lies in the first m cells afterwards
  abbrev pub Made : Option (List C) → List C → ℕ → Type 0
  Made wanted after m =
      (wanted ≡ Some (stacked after m))
      × (Room size (length cells) (stacked after m)
      × ((length after ≡ length cells) × (drop (max used m) after ≡ drop (max used m) cells)))

  made : (wanted : Option (List C)) (w after : List C) (m : ℕ) → wanted ≡ Some w → stacked after m ≡ w → slots_of size w ≤ 16 → m ≤ length cells → length after ≡ length cells → drop (max used m) after ≡ drop (max used m) cells → Made wanted after m
  made wanted w after m e lies few short long rest =
      (e ∙ ap Some (sym lies), ((subst (λ s. slots_of size s ≤ 16) (sym lies) few, omega (arith, length-stacked-le after m (omega arith))), (long, rest)))

  module _ (slots k : ℕ) (group : top_group size slots (stacked cells used) ≡ Some k) where
    few : k ≤ used
    few = omega (arith, length-stacked-le cells used within, (group_slots size slots k (stacked cells used) group).0)

    copied_slots : slots_of size (take k (stacked cells used) ++ stacked cells used) ≡ slots + slots_of size (stacked cells used)
    copied_slots =
        sum_by-append size (take k (stacked cells used)) (stacked cells used)
        ∙ omega (arith, (group_slots size slots k (stacked cells used) group).1)

    pub copied_made : (after : List C) (m : ℕ) → m ≡ used + k → used + k ≤ length cells → slots_of size (stacked cells used) + slots ≤ 16 → after ≡ copy_within cells (used - k) used used → Made (copied size slots (stacked cells used)) after m
    copied_made after m count room sixteen is =
        let stack = stacked cells used in
        let n : used - (used - k) ≡ k = omega (arith, few) in
        let s = drop (used - k) cells in
        let enough : k ≤ length s = omega (arith, few, length-drop (used - k) cells) in
        let pasted : after ≡ paste cells used s k = is ∙ ap (λ j. paste cells used s j) n in
        let far : max used (used + k) ≡ used + k = omega arith in
        subst (λ (j : ℕ). Made (copied size slots stack) after j) (sym count)
        (made (copied size slots stack) (take k stack ++ stack) after (used + k)
        (ap (option_map (λ j. take j stack ++ stack)) group)
        (ap (λ l. stacked l (used + k)) is ∙ stacked-copied cells used k few within)
        (omega (arith, copied_slots))
        room
        (ap length pasted ∙ length-paste cells used s k room enough)
        (ap (λ m. drop m after) far ∙ ap (drop (used + k)) pasted ∙ drop-paste cells used s k within enough ∙ ap (λ m. drop m cells) (sym far)))

    left_is : taken size slots (stacked cells used) ≡ Some (stacked cells (used - k))
    left_is =
        ap (option_map (λ j. drop j (stacked cells used))) group ∙ ap Some (stacked-drop cells used k few within)

    pub taken_made : (m : ℕ) → m ≡ used - k → slots_of size (stacked cells (used - k)) ≤ 16 → Made (taken size slots (stacked cells used)) cells m
    taken_made m count sixteen =
        subst (λ (j : ℕ). Made (taken size slots (stacked cells used)) cells j) (sym count)
        (made (taken size slots (stacked cells used)) (stacked cells (used - k)) cells (used - k) left_is refl sixteen (omega (arith, within)) refl refl)

    pub taken_refused : 16 < slots_of size (stacked cells (used - k)) → (stack : List C) × ((taken size slots (stacked cells used) ≡ Some stack) × (Room size (length cells) stack → ⊥))
    taken_refused many = (stacked cells (used - k), (left_is, λ room. omega (arith, room.0)))

  pub swapped_made : (x y : C) → 2 ≤ used → x ≡ get_or cells (used - 1) x → y ≡ get_or cells (used - 2) y → size x ≡ 1 → size y ≡ 1 → slots_of size (stacked cells used) ≤ 16 → (after : List C) (i j : ℕ) → i ≡ used - 2 → j ≡ used - 1 → after ≡ swap cells i j → Made (rearranged size Swap (stacked cells used)) after used
  swapped_made x y two top second one-x one-y sixteen after i j low high is =
      let n = used - 2 in
      let last : used - 1 ≡ n + 1 = omega arith in
      let all : n + 2 ≡ used = omega arith in
      let t = stacked cells n in
      let top_at : x ≡ get_or cells (n + 1) x = top ∙ ap (λ m. get_or cells m x) last in
      let before : stacked cells used ≡ x ∷ y ∷ t =
      ap (stacked cells) (sym all) ∙ stacked_two cells n x y (omega (arith, within)) second top_at in
      let changed : after ≡ swap cells n (n + 1) =
      is ∙ ap (λ m. swap cells m j) low ∙ ap (swap cells n) (high ∙ last) in
      let lies : stacked after used ≡ y ∷ x ∷ t =
      ap (stacked after) (sym all) ∙ ap (λ l. stacked l (n + 2)) changed ∙ stacked-swapped cells n x y (omega (arith, within)) second top_at in
      let slots : slots_of size (y ∷ x ∷ t) ≡ slots_of size (stacked cells used) =
      omega (arith, ap (slots_of size) before, sum_by-cons size x (y ∷ t), sum_by-cons size y t, sum_by-cons size y (x ∷ t), sum_by-cons size x t) in
      let same : max used used ≡ used = omega arith in
      made (rearranged size Swap (stacked cells used)) (y ∷ x ∷ t) after used
      (exchanged size (stacked cells used) t x y before one-x one-y)
      lies
      (omega (arith, slots))
      within
      (ap length changed ∙ length-swap cells n (n + 1))
      (ap (λ m. drop m after) same ∙ ap (drop used) changed ∙ swap_past cells n used (omega arith) ∙ ap (λ m. drop m cells) (sym same))
