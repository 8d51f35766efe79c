-- Texts shown one after another, by the laws of costs alone. Assumes nothing.
use Rattle.std.proofs.Common.{◌≡◌, ℕ, suc, ◌+◌, ◌<◌, List, [], ◌∷◌, ◌++◌, length, get_or, take, sum_by, sym, refl, ap, ◌∙◌, subst, append_assoc, append-nil, add-zero, zero-add, arith, length-append, lit<}
use Rattle.std.specs.List.{flat_map}
use Rattle.std.proofs.lemmas.List.{get_or-append-add, get_or_append_left, take-append-le}
use Rattle.std.proofs.lemmas.List.Sums.{sum_by-append}
use Rattle.captions.specs.Sheets.{Shown, ShowsFirst}
use Rattle.std.proofs.lemmas.Grind.{flat_map-append}
use Rattle.devices.specs.Costs.{cost}
use Rattle.devices.specs.Panels.{PanelState, Room, shown_on}

abbrev flat : List (List ℕ) → List ℕ
flat texts = flat_map (λ text. text) texts

pub shown_none : (p : PanelState) → Shown p [] p
shown_none p = record { shown = sym (append-nil p.shown); units = sym (add-zero p.units); rate = refl }

pub shown_one : (p : PanelState) (text : List ℕ) → Room p text → Shown p (text ∷ []) (shown_on p text)
shown_one p text room = record {
  shown = ap (λ l. p.shown ++ l) (sym (append-nil text));
  units = omega (arith, room);
  rate = refl;
}

pub shown_then : (p q r : PanelState) (xs ys : List (List ℕ)) → Shown p xs q → Shown q ys r → Shown p (xs ++ ys) r
shown_then p q r xs ys a b =
    let same : sum_by (cost q.rate) ys ≡ sum_by (cost p.rate) ys = ap (λ k. sum_by (cost k) ys) a.rate in
    record {
      shown = b.shown ∙ ap (λ l. l ++ flat ys) a.shown ∙ append_assoc p.shown (flat xs) (flat ys) ∙ ap (λ l. p.shown ++ l) (sym (flat_map-append (λ text. text) xs ys));
      units = omega (arith, a.units, b.units, same, sum_by-append (cost p.rate) xs ys);
      rate = b.rate ∙ a.rate;
    }

-- the next of some texts finds no room, and others come after them
take_then : (xs ys zs : List (List ℕ)) (m : ℕ) → m < length ys → take (length xs + m) (xs ++ (ys ++ zs)) ≡ xs ++ take m ys
take_then [] ys zs m h = ap (λ k. take k (ys ++ zs)) (zero-add m) ∙ take-append-le m ys zs (omega arith)
take_then (x ∷ xs) ys zs m h =
    let one : suc (length xs) + m ≡ suc (length xs + m) = omega arith in
    ap (λ k. take k (x ∷ (xs ++ (ys ++ zs)))) one ∙ ap (λ l. x ∷ l) (take_then xs ys zs m h)

pub first_then : (p q r : PanelState) (xs ys zs : List (List ℕ)) (n m : ℕ) → n ≡ length xs → Shown p xs q → ShowsFirst q ys m r → ShowsFirst p (xs ++ (ys ++ zs)) (n + m) r
first_then p q r xs ys zs n m e a (within, b, full) =
    let some : take (n + m) (xs ++ (ys ++ zs)) ≡ xs ++ take m ys = ap (λ k. take (k + m) (xs ++ (ys ++ zs))) e ∙ take_then xs ys zs m within in
    let next : get_or (xs ++ (ys ++ zs)) (n + m) [] ≡ get_or ys m [] = ap (λ k. get_or (xs ++ (ys ++ zs)) (k + m) []) e ∙ get_or-append-add xs (ys ++ zs) m [] ∙ get_or_append_left ys zs [] m within in (
      omega (arith, length-append xs (ys ++ zs), length-append ys zs),
      subst (λ l. Shown p l r) (sym some) (shown_then p q r xs (take m ys) a b),
      λ room. full (subst (Room r) next room),
    )

-- the next of some texts finds no room
pub full_here : (p q r : PanelState) (xs zs : List (List ℕ)) (text : List ℕ) → Shown p xs q → r ≡ q → (Room q text → ⊥) → ShowsFirst p (xs ++ (text ∷ [] ++ zs)) (length xs) r
full_here p q r xs zs text a same full =
    let stays : ShowsFirst q (text ∷ []) 0 q = (lit< tt, shown_none q, full) in
    subst (λ n. ShowsFirst p (xs ++ (text ∷ [] ++ zs)) n r) (add-zero (length xs))
    (first_then p q r xs (text ∷ []) zs (length xs) 0 refl a (subst (ShowsFirst q (text ∷ []) 0) (sym same) stays))
