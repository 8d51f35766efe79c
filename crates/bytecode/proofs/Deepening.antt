-- What lies below what an instruction takes is left as it is. Assumes nothing.
use Rattle.std.proofs.Common.{◌≡◌, ℕ, Bool, cond, ◌&&◌, eqb, List, [], ◌∷◌, ◌++◌, Some, None, Option, sym, refl, ap, ◌∙◌, ⊎_elim, append_assoc}
use Rattle.std.proofs.lemmas.Bool.{cases_Bool, cond-true, cond-false}
use Rattle.operands.proofs.Storing.{when_some}
use Rattle.operands.specs.Stacks.{rearranged, when}
use Rattle.operands.specs.declared.StackOp.{StackOp}
use Rattle.operands.specs.declared.StackOp.TheVariants.{Dup, Dup2, Pop, Pop2, Swap}
use Rattle.bytecode.specs.Frames.{Links, beneath, onto, exchanged, same_kind, stack_after, type_kind}
use Rattle.bytecode.specs.Kinds.{slots}
use Rattle.bytecode.specs.declared.effect.Effect.{Effect}
use Rattle.bytecode.specs.declared.effect.Effect.TheVariants.{Fixed, Rearranges, GetsField, PutsField, Calls}
use Rattle.bytecode.specs.declared.kind.Kind.{Kind}

module _ {C : Type 0} (size : C → ℕ) (more : List C) where
  -- where a test passes
  passes : (b : Bool) (s t u : List C) → when b s ≡ Some t → s ++ more ≡ u → when b u ≡ Some (t ++ more)
  passes b s t u e same =
      let w = when_some b s t e in
      cond-true _ _ _ w.0 ∙ ap Some (sym same ∙ ap (λ (l : List C). l ++ more) w.1)

  -- where one of two tests passes
  either : (b c : Bool) (p q t u v : List C) → cond b (Some p) (when c q) ≡ Some t → p ++ more ≡ u → q ++ more ≡ v → cond b (Some u) (when c v) ≡ Some (t ++ more)
  either b c p q t u v e first second =
      ⊎_elim
      (λ yes.
      let same : p ≡ t = let h = sym (cond-true b (Some p) (when c q) yes) ∙ e in cc in
      cond-true _ _ _ yes ∙ ap Some (sym first ∙ ap (λ (l : List C). l ++ more) same))
      (λ no. cond-false _ _ _ no ∙ passes c q t v (sym (cond-false b (Some p) (when c q) no) ∙ e) second)
      (cases_Bool b)

-- a cell of two slots, with others below it or none
over_one : {C : Type 0} (size : C → ℕ) (x : C) (t more : List C) → rearranged size Dup2 (x ∷ []) ≡ Some t → rearranged size Dup2 (x ∷ more) ≡ Some (t ++ more)
over_one size x t [] e = passes size [] (eqb (size x) 2) (x ∷ x ∷ []) t (x ∷ x ∷ []) e refl
over_one size x t (y ∷ more) e =
    let w = when_some (eqb (size x) 2) (x ∷ x ∷ []) t e in
    cond-true _ _ _ w.0 ∙ ap (λ l. Some (l ++ y ∷ more)) w.1

under_one : {C : Type 0} (size : C → ℕ) (x : C) (t more : List C) → rearranged size Pop2 (x ∷ []) ≡ Some t → rearranged size Pop2 (x ∷ more) ≡ Some (t ++ more)
under_one size x t [] e = passes size [] (eqb (size x) 2) [] t [] e refl
under_one size x t (y ∷ more) e =
    let w = when_some (eqb (size x) 2) [] t e in
    cond-true _ _ _ w.0 ∙ ap (λ l. Some (l ++ y ∷ more)) w.1

rearranged_deeper : {C : Type 0} (size : C → ℕ) (f : StackOp) (s t more : List C) → rearranged size f s ≡ Some t → rearranged size f (s ++ more) ≡ Some (t ++ more)
rearranged_deeper size Dup [] t more e = cc
rearranged_deeper size Dup (x ∷ s) t more e = passes size more (eqb (size x) 1) (x ∷ x ∷ s) t (x ∷ x ∷ (s ++ more)) e refl
rearranged_deeper size Dup2 [] t more e = cc
rearranged_deeper size Dup2 (x ∷ []) t more e = over_one size x t more e
rearranged_deeper size Dup2 (x ∷ y ∷ s) t more e =
    either size more (eqb (size x) 2) (eqb (size x) 1 && eqb (size y) 1) (x ∷ x ∷ y ∷ s) (x ∷ y ∷ x ∷ y ∷ s) t (x ∷ x ∷ y ∷ (s ++ more)) (x ∷ y ∷ x ∷ y ∷ (s ++ more)) e refl refl
rearranged_deeper size Pop [] t more e = cc
rearranged_deeper size Pop (x ∷ s) t more e = passes size more (eqb (size x) 1) s t (s ++ more) e refl
rearranged_deeper size Pop2 [] t more e = cc
rearranged_deeper size Pop2 (x ∷ []) t more e = under_one size x t more e
rearranged_deeper size Pop2 (x ∷ y ∷ s) t more e =
    either size more (eqb (size x) 2) (eqb (size x) 1 && eqb (size y) 1) (y ∷ s) s t (y ∷ (s ++ more)) (s ++ more) e refl refl
rearranged_deeper size Swap [] t more e = cc
rearranged_deeper size Swap (x ∷ []) t more e = cc
rearranged_deeper size Swap (x ∷ y ∷ s) t more e =
    passes size more (eqb (size x) 1 && eqb (size y) 1) (y ∷ x ∷ s) t (y ∷ x ∷ (s ++ more)) e refl

beneath_deeper : (ks s t more : List Kind) → beneath ks s ≡ Some t → beneath ks (s ++ more) ≡ Some (t ++ more)
beneath_deeper [] s t more e = let same : s ≡ t = cc in ap (λ l. Some (l ++ more)) same
beneath_deeper (k ∷ ks) [] t more e = cc
beneath_deeper (k ∷ ks) (x ∷ s) t more e =
    ⊎_elim
    (λ yes. cond-true _ _ _ yes ∙ beneath_deeper ks s t more (sym (cond-true (same_kind k x) (beneath ks s) None yes) ∙ e))
    (λ no. cc (sym (cond-false (same_kind k x) (beneath ks s) None no) ∙ e))
    (cases_Bool (same_kind k x))

onto_some : (ks : List Kind) (o : Option (List Kind)) (t : List Kind) → onto ks o ≡ Some t → (s : List Kind) × (o ≡ Some s) × (ks ++ s ≡ t)
onto_some ks None t e = cc
onto_some ks (Some s) t e = (s, refl, cc)

exchanged_deeper : (takes leaves s t more : List Kind) → exchanged takes leaves s ≡ Some t → exchanged takes leaves (s ++ more) ≡ Some (t ++ more)
exchanged_deeper takes leaves s t more e =
    let w = onto_some leaves (beneath takes s) t e in
    ap (onto leaves) (beneath_deeper takes s w.0 more w.1) ∙ ap Some (sym (append_assoc leaves w.0 more) ∙ ap (λ (l : List Kind). l ++ more) w.2)

pub stack_deeper : (links : Links) (e : Effect) (s t more : List Kind) → stack_after links e s ≡ Some t → stack_after links e (s ++ more) ≡ Some (t ++ more)
stack_deeper links (Fixed takes leaves) s t more h = exchanged_deeper _ _ s t more h
stack_deeper links (Rearranges f) s t more h = rearranged_deeper slots f s t more h
stack_deeper links (GetsField n) s t more h = exchanged_deeper [] (type_kind (links.field n) ∷ []) s t more h
stack_deeper links (PutsField n) s t more h = exchanged_deeper (type_kind (links.field n) ∷ []) [] s t more h
stack_deeper links (Calls n) s t more h = exchanged_deeper _ _ s t more h
