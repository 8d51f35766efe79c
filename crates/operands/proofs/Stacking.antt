-- The stack that lies in a slice, and what a write makes of it. Assumes nothing.
use Rattle.std.proofs.Common.{◌≡◌, ℕ, ◌+◌, ◌-◌, ◌*◌, ◌<◌, ◌≤◌, min, List, [], ◌∷◌, ◌++◌, reverse, length, get_or, take, drop, set, Some, sum_by, sym, refl, ap, ◌∙◌, arith, length-take}
use mathlib.Core.List.{reverse-cons}
use Rattle.std.specs.List.{copy_within, swap}
use Rattle.std.proofs.lemmas.List.{drop_at, drop-set-lt, get_or_read, drop-take, length-drop, length-reverse, length_push, length-set, reverse-append, take-append-drop, take_at, take-take, take_more, take_more_set}
use Rattle.std.proofs.lemmas.List.Edits.{take-paste}
use Rattle.std.proofs.Math.Seq.{take-append_seam}
use Rattle.std.proofs.lemmas.List.Sums.{sum_by-cons, sum_by_push}
use Rattle.operands.specs.Stacks.{stacked, slots_of, top_of, FewCells}

module _ {C : Type 0} (cells : List C) where
  pub length-stacked : (n : ℕ) → length (stacked cells n) ≡ min n (length cells)
  length-stacked n = length-reverse (take n cells) ∙ length-take n cells

  pub length-stacked-le : (n : ℕ) → n ≤ length cells → length (stacked cells n) ≡ n
  length-stacked-le n within = omega (arith, length-stacked n)

  -- the last of the cells in use is the top, and the others lie below it
  pub stacked-last : (used : ℕ) (below : List C) (x : C) → take used cells ≡ below ++ x ∷ [] → (stacked cells used ≡ x ∷ stacked cells (length below)) × ((length below < used) × (length below < length cells))
  stacked-last used below x e =
      let n = length below in
      let long : min used (length cells) ≡ n + 1 = sym (length-take used cells) ∙ ap length e ∙ length_push below x in
      let front : below ≡ take n cells =
      sym (take-append_seam below (x ∷ [])) ∙ ap (take n) (sym e) ∙ take-take n used cells (omega (arith, long)) in (
        ap reverse e ∙ reverse-append below (x ∷ []) ∙ ap (λ l. x ∷ reverse l) front,
        (omega (arith, long), omega (arith, long)),
      )

  -- the last of the first cells is the top
  pub stacked_more : (n : ℕ) (x : C) → n < length cells → x ≡ get_or cells n x → stacked cells (n + 1) ≡ x ∷ stacked cells n
  stacked_more n x h e =
      ap reverse (take_more cells n x h)
      ∙ reverse-append (take n cells) (get_or cells n x ∷ [])
      ∙ ap (λ y. y ∷ stacked cells n) (sym e)

  -- a cell is written on top
  pub stacked-set : (n : ℕ) (x : C) → n < length cells → stacked (set cells n x) (n + 1) ≡ x ∷ stacked cells n
  stacked-set n x h = ap reverse (take_more_set cells n x h) ∙ reverse-append (take n cells) (x ∷ [])

  module _ (n k : ℕ) (some : k ≤ n) (within : n ≤ length cells) where
    -- the last k of the first n cells are the top k of the stack
    abbrev last : List C
    last = take k (drop (n - k) cells)

    parted : stacked cells n ≡ reverse last ++ stacked cells (n - k)
    parted =
        let all : n - k + k ≡ n = omega arith in
        let back : drop (n - k) (take n cells) ≡ last = ap (λ m. drop (n - k) (take m cells)) (sym all) ∙ drop-take (n - k) k cells in
        ap reverse (sym (take-append-drop (n - k) (take n cells)))
        ∙ ap (λ l. reverse (l ++ drop (n - k) (take n cells))) (take-take (n - k) n cells (omega arith))
        ∙ ap (λ l. reverse (take (n - k) cells ++ l)) back
        ∙ reverse-append (take (n - k) cells) last

    length-last : length (reverse last) ≡ k
    length-last = length-reverse last ∙ omega (arith, length-take k (drop (n - k) cells), length-drop (n - k) cells)

    stacked-take : take k (stacked cells n) ≡ reverse last
    stacked-take = ap (take k) parted ∙ take_at (reverse last) (stacked cells (n - k)) k length-last

    pub stacked-drop : drop k (stacked cells n) ≡ stacked cells (n - k)
    stacked-drop = ap (drop k) parted ∙ drop_at (reverse last) (stacked cells (n - k)) k length-last

    pub stacked-copied : stacked (copy_within cells (n - k) n n) (n + k) ≡ take k (stacked cells n) ++ stacked cells n
    stacked-copied =
        let count : n - (n - k) ≡ k = omega arith in
        let enough : k ≤ length (drop (n - k) cells) = omega (arith, length-drop (n - k) cells) in
        ap (λ j. reverse (take (n + k) (lib.Seq.paste cells n (drop (n - k) cells) j))) count
        ∙ ap reverse (take-paste cells n (drop (n - k) cells) k within enough)
        ∙ reverse-append (take n cells) last
        ∙ ap (λ l. l ++ stacked cells n) (sym stacked-take)

-- the two cells on top
pub stacked_two : {C : Type 0} (cells : List C) (n : ℕ) (x y : C) → n + 2 ≤ length cells → y ≡ get_or cells n y → x ≡ get_or cells (n + 1) x → stacked cells (n + 2) ≡ x ∷ y ∷ stacked cells n
stacked_two cells n x y h second top =
    let count : n + 2 ≡ n + 1 + 1 = omega arith in
    ap (stacked cells) count
    ∙ stacked_more cells (n + 1) x (omega arith) top
    ∙ ap (λ s. x ∷ s) (stacked_more cells n y (omega arith) second)

-- two cells are exchanged, and the others are as they were
pub swap_past : {C : Type 0} (cells : List C) (n m : ℕ) → n + 2 ≤ m → drop m (swap cells n (n + 1)) ≡ drop m cells
swap_past [] n m h = refl
swap_past (d ∷ ys) n m h =
    let cells = d ∷ ys in
    let once = set cells n (get_or cells (n + 1) d) in
    drop-set-lt m once (n + 1) (get_or cells n d) (omega arith) ∙ drop-set-lt m cells n (get_or cells (n + 1) d) (omega arith)

pub stacked-swapped : {C : Type 0} (cells : List C) (n : ℕ) (x y : C) → n + 2 ≤ length cells → y ≡ get_or cells n y → x ≡ get_or cells (n + 1) x → stacked (swap cells n (n + 1)) (n + 2) ≡ y ∷ x ∷ stacked cells n
stacked-swapped [] n x y h second top = absurd (omega arith)
stacked-swapped (d ∷ ys) n x y h second top =
    let cells = d ∷ ys in
    let X = get_or cells (n + 1) d in
    let Y = get_or cells n d in
    let once = set cells n X in
    let long = length-set cells n X in
    let count : n + 2 ≡ n + 1 + 1 = omega arith in
    ap (λ m. stacked (set once (n + 1) Y) m) count
    ∙ stacked-set once (n + 1) Y (omega arith)
    ∙ ap (λ s. Y ∷ s) (stacked-set cells n X (omega arith))
    ∙ ap (λ z. z ∷ X ∷ stacked cells n) (sym (get_or_read cells n y (omega arith) second d))
    ∙ ap (λ z. y ∷ z ∷ stacked cells n) (sym (get_or_read cells (n + 1) x (omega arith) top d))

first : {C : Type 0} (s : List C) (x : C) → top_of s ≡ Some x → (1 ≤ length s) × (s ≡ x ∷ drop 1 s)
first [] x e = cc
first (y ∷ s) x e = let same : y ≡ x = cc in (omega arith, ap (λ z. z ∷ s) same)

-- the top is taken off
pub popped : {C : Type 0} (cells : List C) (n left : ℕ) (x : C) → n ≤ length cells → top_of (stacked cells n) ≡ Some x → left ≡ n - 1 → (1 ≤ n) × (stacked cells n ≡ x ∷ stacked cells left)
popped cells n left x within e is =
    let f = first (stacked cells n) x e in
    let some : 1 ≤ n = omega (arith, f.0, length-stacked-le cells n within) in
    (some, f.1 ∙ ap (λ s. x ∷ s) (stacked-drop cells n 1 some within) ∙ ap (λ m. x ∷ stacked cells m) (sym is))

module _ {C : Type 0} (size : C → ℕ) where
  pub slots-reverse : (s : List C) → slots_of size (reverse s) ≡ slots_of size s
  slots-reverse [] = refl
  slots-reverse (x ∷ s) =
      ap (sum_by size) (reverse-cons x s)
      ∙ sum_by_push size (reverse s) x
      ∙ omega (arith, slots-reverse s, sum_by-cons size x s)

  module _ (bounded : (c : C) → (1 ≤ size c) × (size c ≤ 2)) where
    pub few_slots : (s : List C) → slots_of size s ≤ 2 * length s
    few_slots [] = omega arith
    few_slots (x ∷ s) = omega (arith, few_slots s, sum_by-cons size x s, (bounded x).1)

    length-slots : (s : List C) → length s ≤ slots_of size s
    length-slots [] = omega arith
    length-slots (x ∷ s) = omega (arith, length-slots s, sum_by-cons size x s, (bounded x).0)

    pub few_cells : FewCells size
    few_cells s h = omega (arith, length-slots s)
