-- Words put in front of what is left to read. Assumes nothing.
use Rattle.std.proofs.Common.{◌≡◌, ℕ, List, [], ◌∷◌, ◌++◌, Some, None, Option, sym, refl, ap, ◌∙◌, arith}
use Rattle.reader.specs.Words.{Piece, with_piece}

-- words that were read, and then what is left
abbrev pub onto : List Piece → Option (List Piece) → Option (List Piece)
onto [] rest = rest
onto (w ∷ ws) rest = with_piece w (onto ws rest)

pub onto_push : (ws : List Piece) (w : Piece) (rest : Option (List Piece)) → onto (ws ++ w ∷ []) rest ≡ onto ws (with_piece w rest)
onto_push [] w rest = refl
onto_push (v ∷ ws) w rest = ap (with_piece v) (onto_push ws w rest)

pub onto_some : (ws vs : List Piece) → onto ws (Some vs) ≡ Some (ws ++ vs)
onto_some [] vs = refl
onto_some (w ∷ ws) vs = ap (with_piece w) (onto_some ws vs)

pub onto_none : (ws : List Piece) → onto ws None ≡ None
onto_none [] = refl
onto_none (w ∷ ws) = ap (with_piece w) (onto_none ws)

pub onto_parts : (ws all : List Piece) (rest : Option (List Piece)) → onto ws rest ≡ Some all → (vs : List Piece) × (rest ≡ Some vs) × (all ≡ ws ++ vs)
onto_parts ws all None e = let bad = sym (onto_none ws) ∙ e in let z : ◌≡◌ {A = ℕ} 0 1 = cc in absurd (omega arith)
onto_parts ws all (Some vs) e = let same = sym (onto_some ws vs) ∙ e in (vs, refl, cc)
