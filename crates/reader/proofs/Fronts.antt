-- Where the part of a word lies in its line. Assumes nothing.
use Rattle.std.proofs.Common.{◌≡◌, ℕ, ◌-◌, ◌≤◌, List, length, take, drop, sym, ap, ◌∙◌, arith, length-take}
use Rattle.std.proofs.lemmas.List.{take_all, take-take, length-take-le}
use Rattle.std.proofs.lemmas.Bool.{cond_both}
use Rattle.reader.specs.Words.{Piece, is_directive, is_label, is_name, is_number, plain}

-- a list is the front of another
abbrev Front : List ℕ → List ℕ → Type 0
Front part w = take (length part) w ≡ part

front_all : (w : List ℕ) → Front w w
front_all w = take_all (length w) w (omega arith)

pub front_take : (n : ℕ) (w : List ℕ) → n ≤ length w → Front (take n w) w
front_take n w h = ap (λ k. take k w) (length-take-le n w h)

plain_front : (p : ℕ) (w : List ℕ) → Front (plain p w).part w
plain_front p w =
    let P : Piece → Type 0 = λ x. Front x.part w in
    cond_both (is_directive w) _ _ P (λ _. front_all w)
    (λ _. cond_both (is_label w) _ _ P (λ _. front_take (length w - 1) w (omega arith))
    (λ _. cond_both (is_name w) _ _ P (λ _. front_all w)
    (λ _. cond_both (is_number w) _ _ P (λ _. front_all w) (λ _. front_all w))))

-- the part of a word of a line
pub plain_part : (line : List ℕ) (start end p : ℕ) → take (length (plain p (take (end - start) (drop start line))).part) (drop start line) ≡ (plain p (take (end - start) (drop start line))).part
plain_part line start end p =
    let w = take (end - start) (drop start line) in
    let part = (plain p w).part in
    let front : take (length part) w ≡ part = plain_front p w in
    let short : length part ≤ end - start = omega (arith, ap length front, length-take (length part) w, length-take (end - start) (drop start line)) in
    sym (take-take (length part) (end - start) (drop start line) short) ∙ front
