-- What the cells on top that take one slot or two make of a rearrangement. Assumes nothing.
use Rattle.std.proofs.Common.{◌≡◌, ℕ, ◌+◌, ◌≤◌, List, [], ◌∷◌, length, take, Some, ◌==◌, sym, ap, ◌∙◌, ⊎_elim, arith}
use Rattle.std.proofs.lemmas.Bool.{cases_Bool, cond-true, cond-false, eqb-true}
use Rattle.std.proofs.lemmas.List.Sums.{sum_by-cons}
use Rattle.operands.specs.Stacks.{slots_of, top_group}
use Rattle.operands.proofs.Storing.{when_some}

module _ {C : Type 0} (size : C → ℕ) where
  pub group_slots : (n k : ℕ) (s : List C) → top_group size n s ≡ Some k → (k ≤ length s) × (slots_of size (take k s) ≡ n)
  group_slots n k [] e = cc
  group_slots n k (x ∷ []) e =
      let w = when_some (size x == n) 1 k e in
      (omega (arith, w.1), ap (λ m. slots_of size (take m (x ∷ []))) (sym w.1) ∙ omega (arith, sum_by-cons size x [], eqb-true _ _ w.0))
  group_slots n k (x ∷ y ∷ s) e =
      ⊎_elim
      (λ t.
      let one : Some 1 ≡ Some k = sym (cond-true _ _ _ t) ∙ e in
      let same : 1 ≡ k = cc in
      (omega arith, ap (λ m. slots_of size (take m (x ∷ y ∷ s))) (sym same) ∙ omega (arith, sum_by-cons size x [], eqb-true _ _ t)))
      (λ f.
      let w = when_some (size y + size x == n) 2 k (sym (cond-false _ _ _ f) ∙ e) in
      (omega (arith, w.1), ap (λ m. slots_of size (take m (x ∷ y ∷ s))) (sym w.1) ∙ omega (arith, sum_by-cons size x (y ∷ []), sum_by-cons size y [], eqb-true _ _ w.0)))
      (cases_Bool (size x == n))
