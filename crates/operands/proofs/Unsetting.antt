-- Registers as the code alters them, one by one, are what a store makes of them. Assumes nothing.
use Rattle.std.proofs.Common.{◌≡◌, ℕ, zero, suc, ◌+◌, ◌-◌, ◌≤◌, List, [], ◌∷◌, ◌++◌, length, get_or, take, drop, set, Some, sym, refl, ap, ◌∙◌, arith, length-take}
use Rattle.std.proofs.lemmas.List.{drop_more, set_at, set-append_right}
use Rattle.std.proofs.lemmas.Bool.{le-leb}
use Rattle.operands.specs.declared.register.Register.{Register}
use Rattle.operands.specs.declared.register.Register.TheVariants.{Unset, Int, LongFirst, LongSecond}
use Rattle.operands.specs.Registers.{int_cells, long_cells}
use Rattle.operands.specs.Registers.{no_first, ending_whole, starting_whole, with_cells, stored}
use Rattle.operands.specs.Stacks.{when}
use Rattle.operands.proofs.Storing.{length-ending_whole}

module _ {I J : Type 0} where
  -- the last register, where it is a first half, unset
  pub ending_last : (rs : List (Register I J)) (n : ℕ) (r s : Register I J) → length rs ≡ n + 1 → r ≡ get_or rs n r → s ≡ no_first r → set rs n s ≡ ending_whole rs
  ending_last [] n r s h e is = absurd (omega (arith, h))
  ending_last (x ∷ []) zero r s h e is = ap (λ t. t ∷ []) (is ∙ ap no_first e)
  ending_last (x ∷ []) (suc n) r s h e is = absurd (omega (arith, h))
  ending_last (x ∷ y ∷ ys) zero r s h e is = absurd (omega (arith, h))
  ending_last (x ∷ y ∷ ys) (suc n) r s h e is = ap (λ l. x ∷ l) (ending_last (y ∷ ys) n r s (omega (arith, h)) e is)

  -- a register that is no first half stays
  pub no_first_other : (r : Register I J) → ((v : J) → r ≡ LongFirst v → ⊥) → no_first r ≡ r
  no_first_other Unset other = refl
  no_first_other (Int v) other = refl
  no_first_other (LongFirst v) other = absurd (other v refl)
  no_first_other LongSecond other = refl

  front_length : (rs : List (Register I J)) (n k : ℕ) → n + k ≤ length rs → length (ending_whole (take n rs)) ≡ n
  front_length rs n k fits = length-ending_whole (take n rs) ∙ omega (arith, length-take n rs)

  -- a number is stored once the halves on both sides of its place are unset
  pub stored_int : (rs b : List (Register I J)) (n : ℕ) (v : I) → n + 1 ≤ length rs → b ≡ ending_whole (take n rs) ++ (take 1 (drop n rs) ++ starting_whole (drop (n + 1) rs)) → stored (int_cells v) n rs ≡ Some (set b n (Int v))
  stored_int rs b n v fits around =
      let front = ending_whole (take n rs) in
      let back = starting_whole (drop (n + 1) rs) in
      let r = get_or rs n Unset in
      let one : b ≡ front ++ r ∷ back = around ∙ ap (λ l. front ++ (take 1 l ++ back)) (drop_more rs n Unset (omega arith)) in
      let same : set b n (Int v) ≡ with_cells (int_cells v) n rs =
      ap (λ l. set l n (Int v)) one ∙ set_at front r back (Int v) n (front_length rs n 1 fits) in
      ap (λ t. when t (with_cells (int_cells v) n rs)) (le-leb (n + 1) (length rs) fits) ∙ ap Some (sym same)

  pub stored_long : (rs b : List (Register I J)) (n : ℕ) (v : J) → n + 2 ≤ length rs → b ≡ ending_whole (take n rs) ++ (take 2 (drop n rs) ++ starting_whole (drop (n + 2) rs)) → stored (long_cells v) n rs ≡ Some (set (set b n (LongFirst v)) (n + 1) LongSecond)
  stored_long rs b n v fits around =
      let front = ending_whole (take n rs) in
      let back = starting_whole (drop (n + 2) rs) in
      let r = get_or rs n Unset in
      let s = get_or rs (n + 1) Unset in
      let length_front = front_length rs n 2 fits in
      let two : b ≡ front ++ r ∷ s ∷ back =
      around
      ∙ ap (λ l. front ++ (take 2 l ++ back)) (drop_more rs n Unset (omega arith))
      ∙ ap (λ l. front ++ (take 2 (r ∷ l) ++ back)) (drop_more rs (n + 1) Unset (omega arith)) in
      let once : set b n (LongFirst v) ≡ front ++ LongFirst v ∷ s ∷ back =
      ap (λ l. set l n (LongFirst v)) two ∙ set_at front r (s ∷ back) (LongFirst v) n length_front in
      let one : n + 1 - n ≡ 1 = omega arith in
      let same : set (set b n (LongFirst v)) (n + 1) LongSecond ≡ with_cells (long_cells v) n rs =
      ap (λ l. set l (n + 1) LongSecond) once
      ∙ set-append_right front (LongFirst v ∷ s ∷ back) n (n + 1) LongSecond length_front (omega arith)
      ∙ ap (λ m. front ++ set (LongFirst v ∷ s ∷ back) m LongSecond) one in
      ap (λ t. when t (with_cells (long_cells v) n rs)) (le-leb (n + 2) (length rs) fits) ∙ ap Some (sym same)
