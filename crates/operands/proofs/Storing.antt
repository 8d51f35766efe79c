-- What a store keeps: the pairs, how many registers there are, and what lies within what. Assumes nothing.
use Rattle.std.proofs.Common.{◌≡◌, ℕ, zero, suc, ◌+◌, ◌≤◌, Bool, true, false, leb, List, [], ◌∷◌, ◌++◌, length, get_or, take, drop, Some, sym, refl, ap, ◌∙◌, subst, arith, length-append, length-drop, length-take}
use Rattle.std.proofs.lemmas.Bool.{leb-true}
use Rattle.operands.specs.declared.register.Register.{Register}
use Rattle.operands.specs.declared.register.Register.TheVariants.{Unset, Int, LongFirst, LongSecond}
use Rattle.operands.specs.Registers.{Paired, none, unset, int, long, int_at, int_of, long_at, long_of, is_second}
use Rattle.operands.specs.Registers.{no_first, no_second, ending_whole, starting_whole, with_cells, stored, Within, AllWithin, KeepsPairs}
use Rattle.operands.specs.Stacks.{when}

-- what a `when` that is something says
pub when_some : {X : Type 0} (b : Bool) (x y : X) → when b x ≡ Some y → (b ≡ true) × (x ≡ y)
when_some true x y e = (refl, cc)
when_some false x y e = cc

module _ {I J : Type 0} where
  -- lengths
  pub length-ending_whole : (rs : List (Register I J)) → length (ending_whole rs) ≡ length rs
  length-ending_whole [] = refl
  length-ending_whole (r ∷ []) = refl
  length-ending_whole (r ∷ s ∷ rs) = ap suc (length-ending_whole (s ∷ rs))

  pub length-starting_whole : (rs : List (Register I J)) → length (starting_whole rs) ≡ length rs
  length-starting_whole [] = refl
  length-starting_whole (r ∷ rs) = refl

  length-with_cells : (cells : List (Register I J)) (n : ℕ) (rs : List (Register I J)) → n + length cells ≤ length rs → length (with_cells cells n rs) ≡ length rs
  length-with_cells cells n rs h =
      let front = length-ending_whole (take n rs) in
      let back = length-starting_whole (drop (n + length cells) rs) in
      simp length-append (omega (arith, length-take n rs, length-drop (n + length cells) rs))

  pub stored_length : (cells : List (Register I J)) (n : ℕ) (rs ss : List (Register I J)) → stored cells n rs ≡ Some ss → length ss ≡ length rs
  stored_length cells n rs ss e =
      let w = when_some (leb (n + length cells) (length rs)) (with_cells cells n rs) ss e in
      ap length (sym w.1) ∙ length-with_cells cells n rs (leb-true _ _ w.0)

  -- pairs
  ending_unset : (rs : List (Register I J)) → Paired (ending_whole rs) → Paired (ending_whole (Unset ∷ rs))
  ending_unset [] p = unset none
  ending_unset (r ∷ rs) p = unset p

  ending_int : (v : I) (rs : List (Register I J)) → Paired (ending_whole rs) → Paired (ending_whole (Int v ∷ rs))
  ending_int v [] p = int none
  ending_int v (r ∷ rs) p = int p

  ending_long : (v : J) (rs : List (Register I J)) → Paired (ending_whole rs) → Paired (ending_whole (LongFirst v ∷ LongSecond ∷ rs))
  ending_long v [] p = long none
  ending_long v (r ∷ rs) p = long p

  front_paired : (n : ℕ) {rs : List (Register I J)} → Paired rs → Paired (ending_whole (take n rs))
  front_paired zero p = none
  front_paired (suc n) none = none
  front_paired (suc n) (unset p) = ending_unset _ (front_paired n p)
  front_paired (suc n) (int p) = ending_int _ _ (front_paired n p)
  front_paired (suc zero) (long p) = unset none
  front_paired (suc (suc n)) (long p) = ending_long _ _ (front_paired n p)

  back_paired : (n : ℕ) {rs : List (Register I J)} → Paired rs → Paired (starting_whole (drop n rs))
  back_paired zero none = none
  back_paired zero (unset p) = unset p
  back_paired zero (int p) = int p
  back_paired zero (long p) = long p
  back_paired (suc n) none = none
  back_paired (suc n) (unset p) = back_paired n p
  back_paired (suc n) (int p) = back_paired n p
  back_paired (suc zero) (long p) = unset p
  back_paired (suc (suc n)) (long p) = back_paired n p

  append_paired : {rs ss : List (Register I J)} → Paired rs → Paired ss → Paired (rs ++ ss)
  append_paired none q = q
  append_paired (unset p) q = unset (append_paired p q)
  append_paired (int p) q = int (append_paired p q)
  append_paired (long p) q = long (append_paired p q)

  pub stored_paired : (cells : List (Register I J)) (n : ℕ) (rs ss : List (Register I J)) → Paired cells → Paired rs → stored cells n rs ≡ Some ss → Paired ss
  stored_paired cells n rs ss c p e =
      let w = when_some (leb (n + length cells) (length rs)) (with_cells cells n rs) ss e in
      subst (λ (l : List (Register I J)). Paired l) w.1 (append_paired (front_paired n p) (append_paired c (back_paired (n + length cells) p)))

  -- what lies within what
  within_same : (r : Register I J) → Within r r
  within_same Unset = tt
  within_same (Int v) = refl
  within_same (LongFirst v) = refl
  within_same LongSecond = refl

  pub all_within_same : (rs : List (Register I J)) → AllWithin rs rs
  all_within_same [] = tt
  all_within_same (r ∷ rs) = (within_same r, all_within_same rs)

  within_length : (rs ss : List (Register I J)) → AllWithin rs ss → length rs ≡ length ss
  within_length [] [] w = refl
  within_length [] (s ∷ ss) w = absurd w
  within_length (r ∷ rs) [] w = absurd w
  within_length (r ∷ rs) (s ∷ ss) w = ap suc (within_length rs ss w.1)

  within-get_or : (rs ss : List (Register I J)) (n : ℕ) → AllWithin rs ss → Within (get_or rs n Unset) (get_or ss n Unset)
  within-get_or [] [] n w = tt
  within-get_or [] (s ∷ ss) n w = absurd w
  within-get_or (r ∷ rs) [] n w = absurd w
  within-get_or (r ∷ rs) (s ∷ ss) zero w = w.0
  within-get_or (r ∷ rs) (s ∷ ss) (suc n) w = within-get_or rs ss n w.1

  int_of_within : (r s : Register I J) (v : I) → Within r s → int_of r ≡ Some v → int_of s ≡ Some v
  int_of_within Unset s v w e = cc
  int_of_within (Int u) s v w e = ap int_of w ∙ e
  int_of_within (LongFirst u) s v w e = ap int_of w ∙ e
  int_of_within LongSecond s v w e = ap int_of w ∙ e

  pub int_at_within : (rs ss : List (Register I J)) (n : ℕ) (v : I) → AllWithin rs ss → int_at n rs ≡ Some v → int_at n ss ≡ Some v
  int_at_within rs ss n v w e = int_of_within (get_or rs n Unset) (get_or ss n Unset) v (within-get_or rs ss n w) e

  is_second_within : (r s : Register I J) (u v : J) → Within r s → is_second r u ≡ Some v → is_second s u ≡ Some v
  is_second_within Unset s u v w e = cc
  is_second_within (Int x) s u v w e = ap (λ (t : Register I J). is_second t u) w ∙ e
  is_second_within (LongFirst x) s u v w e = ap (λ (t : Register I J). is_second t u) w ∙ e
  is_second_within LongSecond s u v w e = ap (λ (t : Register I J). is_second t u) w ∙ e

  long_of_within : (r r' s s' : Register I J) (v : J) → Within r s → Within r' s' → long_of r r' ≡ Some v → long_of s s' ≡ Some v
  long_of_within Unset r' s s' v w w' e = cc
  long_of_within (Int u) r' s s' v w w' e = cc
  long_of_within (LongFirst u) r' s s' v w w' e =
      ap (λ (t : Register I J). long_of t s') w ∙ is_second_within r' s' u v w' e
  long_of_within LongSecond r' s s' v w w' e = cc

  pub long_at_within : (rs ss : List (Register I J)) (n : ℕ) (v : J) → AllWithin rs ss → long_at n rs ≡ Some v → long_at n ss ≡ Some v
  long_at_within rs ss n v w e =
      long_of_within (get_or rs n Unset) (get_or rs (n + 1) Unset) (get_or ss n Unset) (get_or ss (n + 1) Unset) v (within-get_or rs ss n w) (within-get_or rs ss (n + 1) w) e

  no_first_within : (r s : Register I J) → Within r s → Within (no_first r) (no_first s)
  no_first_within Unset s w = tt
  no_first_within (Int v) s w = ap no_first w
  no_first_within (LongFirst v) s w = tt
  no_first_within LongSecond s w = ap no_first w

  no_second_within : (r s : Register I J) → Within r s → Within (no_second r) (no_second s)
  no_second_within Unset s w = tt
  no_second_within (Int v) s w = ap no_second w
  no_second_within (LongFirst v) s w = ap no_second w
  no_second_within LongSecond s w = tt

  take_within : (n : ℕ) (rs ss : List (Register I J)) → AllWithin rs ss → AllWithin (take n rs) (take n ss)
  take_within zero rs ss w = tt
  take_within (suc n) [] [] w = tt
  take_within (suc n) [] (s ∷ ss) w = absurd w
  take_within (suc n) (r ∷ rs) [] w = absurd w
  take_within (suc n) (r ∷ rs) (s ∷ ss) w = (w.0, take_within n rs ss w.1)

  drop_within : (n : ℕ) (rs ss : List (Register I J)) → AllWithin rs ss → AllWithin (drop n rs) (drop n ss)
  drop_within zero rs ss w = w
  drop_within (suc n) [] [] w = tt
  drop_within (suc n) [] (s ∷ ss) w = absurd w
  drop_within (suc n) (r ∷ rs) [] w = absurd w
  drop_within (suc n) (r ∷ rs) (s ∷ ss) w = drop_within n rs ss w.1

  append_within : (rs ss ts us : List (Register I J)) → AllWithin rs ss → AllWithin ts us → AllWithin (rs ++ ts) (ss ++ us)
  append_within [] [] ts us w x = x
  append_within [] (s ∷ ss) ts us w x = absurd w
  append_within (r ∷ rs) [] ts us w x = absurd w
  append_within (r ∷ rs) (s ∷ ss) ts us w x = (w.0, append_within rs ss ts us w.1 x)

  ending_within : (rs ss : List (Register I J)) → AllWithin rs ss → AllWithin (ending_whole rs) (ending_whole ss)
  ending_within [] [] w = tt
  ending_within [] (s ∷ ss) w = absurd w
  ending_within (r ∷ rs) [] w = absurd w
  ending_within (r ∷ []) (s ∷ []) w = (no_first_within r s w.0, tt)
  ending_within (r ∷ []) (s ∷ s' ∷ ss) w = absurd w.1
  ending_within (r ∷ r' ∷ rs) (s ∷ []) w = absurd w.1
  ending_within (r ∷ r' ∷ rs) (s ∷ s' ∷ ss) w = (w.0, ending_within (r' ∷ rs) (s' ∷ ss) w.1)

  starting_within : (rs ss : List (Register I J)) → AllWithin rs ss → AllWithin (starting_whole rs) (starting_whole ss)
  starting_within [] [] w = tt
  starting_within [] (s ∷ ss) w = absurd w
  starting_within (r ∷ rs) [] w = absurd w
  starting_within (r ∷ rs) (s ∷ ss) w = (no_second_within r s w.0, w.1)

  with_cells_within : (cells : List (Register I J)) (n : ℕ) (rs ss : List (Register I J)) → AllWithin rs ss → AllWithin (with_cells cells n rs) (with_cells cells n ss)
  with_cells_within cells n rs ss w =
      let front = ending_within (take n rs) (take n ss) (take_within n rs ss w) in
      let past = n + length cells in
      let back = starting_within (drop past rs) (drop past ss) (drop_within past rs ss w) in
      append_within (ending_whole (take n rs)) (ending_whole (take n ss)) _ _ front (append_within cells cells _ _ (all_within_same cells) back)

  pub stored_within : (cells : List (Register I J)) (n : ℕ) (rs ss rs' : List (Register I J)) → AllWithin rs ss → stored cells n rs ≡ Some rs' → (ss' : List (Register I J)) × (stored cells n ss ≡ Some ss') × AllWithin rs' ss'
  stored_within cells n rs ss rs' w e =
      let x = when_some (leb (n + length cells) (length rs)) (with_cells cells n rs) rs' e in (
        with_cells cells n ss,
        ap (λ (b : Bool). when b (with_cells cells n ss)) (ap (leb (n + length cells)) (sym (within_length rs ss w)) ∙ x.0),
        subst (λ (l : List (Register I J)). AllWithin l (with_cells cells n ss)) x.1 (with_cells_within cells n rs ss w),
      )

pub keeps_pairs : (I J : Type 0) → KeepsPairs I J
keeps_pairs I J cells n rs ss c p e = (stored_paired cells n rs ss c p e, stored_length cells n rs ss e)
