-- The words that are computed are those of the grammar. Assumes nothing.
use Rattle.std.proofs.Common.{true≢false, ◌≡◌, ℕ, zero, suc, ◌+◌, ◌<◌, Bool, true, false, cond, eqb, List, [], ◌∷◌, ◌++◌, length, get_or, take, drop, Some, None, Option, sym, refl, ap, ◌∙◌, subst, ⊎_elim, add-zero, arith, take-append-drop}
use Rattle.std.proofs.Math.Numerals.{one-add}
use Rattle.std.specs.List.{list_all, prefix_len}
use Rattle.std.proofs.lemmas.List.{take_at, drop_at, drop-drop, drop_more, get_or_at, get_or_past, length-take-le}
use Rattle.std.proofs.lemmas.List.Sums.{prefix_len-le-length}
use Rattle.std.proofs.lemmas.Bool.{cases_Bool, cases_eq, cases_lt, cond-true, cond-false, eq-eqb, ne_eqb, eqb-true, not_from_true, not-false}
use Rattle.reader.specs.Bytes.{is_blank, is_dark, is_quotable}
use Rattle.reader.specs.Grammar.{Parted, Reads, ends, comment, blank, quotes, word, Grammatical}
use Rattle.reader.specs.Words.{Piece, piece, quoted, plain, read, with_piece}
use Rattle.reader.proofs.Reading.{skipped}

-- a run goes to the first byte that fails the test
abbrev Stops : (ℕ → Bool) → List ℕ → Type 0
Stops p [] = Unit {0}
Stops p (b ∷ s) = p b ≡ false

run_length : (p : ℕ → Bool) (t s : List ℕ) → list_all p t ≡ true → Stops p s → prefix_len p (t ++ s) ≡ length t
run_length p [] [] h stop = refl
run_length p [] (b ∷ s) h stop = cond-false _ _ _ stop
run_length p (b ∷ t) s h stop =
    ⊎_elim
    (λ yes. cond-true _ _ _ yes ∙ ap (λ n. 1 + n) (run_length p t s (rw yes at h) stop) ∙ omega arith)
    (λ no. let bad : false ≡ true = rw no at h in absurd (true≢false (sym bad)))
    (cases_Bool (p b))

dark_stops : (s : List ℕ) → Parted s → Stops is_dark s
dark_stops [] h = tt
dark_stops (b ∷ s) h = not_from_true (is_blank b) h

-- reading goes on after k bytes
after : (p k q : ℕ) (t s : List ℕ) → drop k t ≡ s → q ≡ p + k → read p k t ≡ read q 0 s
after p k q t s e same = skipped p k t ∙ (λ i. read (sym same i) 0 (e i))

complete : {p : ℕ} {s : List ℕ} {ws : List Piece} → Reads p s ws → read p 0 s ≡ Some ws
complete ends = refl
complete comment = refl
complete (blank e r) = cond-true _ _ _ e ∙ complete r
complete (quotes {p} {t} {s} {ws} e r) =
    let rest = t ++ 34 ∷ s in
    let long : length t ≡ prefix_len is_quotable rest = sym (run_length is_quotable t (34 ∷ s) e refl) in
    let closes : eqb (get_or rest (length t) 0) 34 ≡ true = eq-eqb _ 34 (get_or_at t 34 s 0 (length t) refl) in
    let past : drop (length t + 1) rest ≡ s = sym (drop-drop 1 (length t) rest) ∙ ap (drop 1) (drop_at t (34 ∷ s) (length t) refl) in
    let at = λ (n : ℕ). cond (eqb (get_or rest n 0) 34) (with_piece (piece quoted (p + 1) (take n rest)) (read (p + 1) (n + 1) rest)) None in
    ap at (sym long)
    ∙ cond-true _ _ _ closes
    ∙ (λ i. with_piece (piece quoted (p + 1) (take_at t (34 ∷ s) (length t) refl i)) (after (p + 1) (length t + 1) (p + (length t + 2)) rest s past (omega arith) i))
    ∙ ap (with_piece (piece quoted (p + 1) t)) (complete r)
complete (word {p} {b} w s {ws} dark no_comment no_quote e parted r) =
    let rest = w ++ s in
    let long : length w ≡ prefix_len is_dark rest = sym (run_length is_dark w s e (dark_stops s parted)) in
    let at = λ (n : ℕ). with_piece (plain p (b ∷ take n rest)) (read (p + 1) n rest) in
    cond-false _ _ _ dark
    ∙ cond-false _ _ _ (ne_eqb b 59 no_comment)
    ∙ cond-false _ _ _ (ne_eqb b 34 no_quote)
    ∙ ap at (sym long)
    ∙ (λ i. with_piece (plain p (b ∷ take_at w s (length w) refl i)) (after (p + 1) (length w) (p + (length w + 1)) rest s (drop_at w s (length w) refl) (omega arith) i))
    ∙ ap (with_piece (plain p (b ∷ w))) (complete r)

with_parts : (w : Piece) (r : Option (List Piece)) (all : List Piece) → with_piece w r ≡ Some all → (ws : List Piece) × (r ≡ Some ws) × (all ≡ w ∷ ws)
with_parts w None all e = let z : ◌≡◌ {A = ℕ} 0 1 = cc in absurd (omega arith)
with_parts w (Some ws) all e = (ws, refl, cc)

-- the longest run of bytes that pass a test, and what follows it
run_every : (p : ℕ → Bool) (s : List ℕ) → list_all p (take (prefix_len p s) s) ≡ true
run_every p [] = refl
run_every p (b ∷ s) =
    ⊎_elim
    (λ yes. rw (yes, one-add) (rw yes (run_every p s)))
    (λ no. rw no refl)
    (cases_Bool (p b))

run_parted : (s : List ℕ) → Parted (drop (prefix_len is_dark s) s)
run_parted [] = tt
run_parted (b ∷ s) =
    ⊎_elim
    (λ yes.
    let more : suc (prefix_len is_dark s) ≡ prefix_len is_dark (b ∷ s) = omega arith ∙ sym (cond-true _ (1 + prefix_len is_dark s) 0 yes) in
    subst (λ n. Parted (drop n (b ∷ s))) more (run_parted s))
    (λ none. let stop : 0 ≡ prefix_len is_dark (b ∷ s) = sym (cond-false _ _ _ none) in subst (λ n. Parted (drop n (b ∷ s))) stop (not-false (is_blank b) none))
    (cases_Bool (is_dark b))

-- a reading of all bytes, by the reading of what follows the first word
module _ (p : ℕ) (s : List ℕ) (ws : List Piece) where
  comment_reads : Some [] ≡ Some ws → Reads p (59 ∷ s) ws
  comment_reads e = let none : [] ≡ ws = cc in subst (Reads p (59 ∷ s)) none comment

  quote_reads : (n : ℕ) → n ≡ prefix_len is_quotable s → get_or s n 0 ≡ 34 → (vs : List Piece) → ws ≡ piece quoted (p + 1) (take n s) ∷ vs → Reads (p + 1 + (n + 1)) (drop (n + 1) s) vs → Reads p (34 ∷ s) ws
  quote_reads n run closes vs all rest =
      let inside : n < length s = ⊎_elim (λ h. h) (λ h. absurd (omega (arith, get_or_past s n 0 h))) (cases_lt n (length s)) in
      let long : length (take n s) ≡ n = length-take-le n s (omega arith) in
      let whole : take n s ++ 34 ∷ drop (n + 1) s ≡ s = ap (λ x. take n s ++ x ∷ drop (n + 1) s) (sym closes) ∙ ap (λ l. take n s ++ l) (sym (drop_more s n 0 inside)) ∙ take-append-drop n s in
      let texts : list_all is_quotable (take n s) ≡ true = subst (λ k. list_all is_quotable (take k s) ≡ true) (sym run) (run_every is_quotable s) in
      let on : Reads (p + (length (take n s) + 2)) (drop (n + 1) s) vs = subst (λ q. Reads q (drop (n + 1) s) vs) (omega arith) rest in
      subst (λ l. Reads p (34 ∷ l) ws) whole (subst (Reads p (34 ∷ (take n s ++ 34 ∷ drop (n + 1) s))) (sym all) (quotes texts on))

  word_reads : (b : ℕ) → is_blank b ≡ false → (b ≡ 59 → ⊥) → (b ≡ 34 → ⊥) → (vs : List Piece) → ws ≡ plain p (b ∷ take (prefix_len is_dark s) s) ∷ vs → Reads (p + 1 + prefix_len is_dark s) (drop (prefix_len is_dark s) s) vs → Reads p (b ∷ s) ws
  word_reads b dark no_comment no_quote vs all rest =
      let n = prefix_len is_dark s in
      let long : length (take n s) ≡ n = length-take-le n s (prefix_len-le-length is_dark s) in
      let on : Reads (p + (length (take n s) + 1)) (drop n s) vs = subst (λ q. Reads q (drop n s) vs) (omega arith) rest in
      subst (λ l. Reads p (b ∷ l) ws) (take-append-drop n s) (subst (Reads p (b ∷ (take n s ++ drop n s))) (sym all) (word (take n s) (drop n s) dark no_comment no_quote (run_every is_dark s) (run_parted s) on))

sound : (s : List ℕ) (p k : ℕ) (ws : List Piece) → read p k s ≡ Some ws → Reads (p + k) (drop k s) ws
sound [] p zero ws e = let none : [] ≡ ws = cc in subst (Reads (p + 0) []) none ends
sound [] p (suc k) ws e = let none : [] ≡ ws = cc in subst (Reads (p + suc k) []) none ends
sound (b ∷ s) p (suc k) ws e = subst (λ q. Reads q (drop k s) ws) (omega arith) (sound s (p + 1) k ws e)
sound (b ∷ s) p zero ws e =
    subst (λ q. Reads q (b ∷ s) ws) (sym (add-zero p))
    (⊎_elim
    (λ white. blank white (subst (λ q. Reads q s ws) (add-zero (p + 1)) (sound s (p + 1) 0 ws (sym (cond-true _ _ _ white) ∙ e))))
    (λ dark.
    let first = sym (cond-false _ _ _ dark) ∙ e in
    ⊎_elim
    (λ semicolon. subst (λ x. Reads p (x ∷ s) ws) (sym semicolon) (comment_reads p s ws (sym (cond-true _ _ _ (eq-eqb b 59 semicolon)) ∙ first)))
    (λ no_comment.
    let second = sym (cond-false _ _ _ (ne_eqb b 59 no_comment)) ∙ first in
    ⊎_elim
    (λ quote.
    let n = prefix_len is_quotable s in
    let third = sym (cond-true _ _ _ (eq-eqb b 34 quote)) ∙ second in
    ⊎_elim
    (λ closes.
    let parts = with_parts _ _ ws (sym (cond-true _ _ _ closes) ∙ third) in
    subst (λ x. Reads p (x ∷ s) ws) (sym quote) (quote_reads p s ws n refl (eqb-true _ 34 closes) parts.0 parts.2 (sound s (p + 1) (n + 1) parts.0 parts.1)))
    (λ open-quote. let none = sym (cond-false _ _ _ open-quote) ∙ third in let z : ◌≡◌ {A = ℕ} 0 1 = cc in absurd (omega arith))
    (cases_Bool (eqb (get_or s n 0) 34)))
    (λ no_quote.
    let third = sym (cond-false _ _ _ (ne_eqb b 34 no_quote)) ∙ second in
    let parts = with_parts _ _ ws third in
    word_reads p s ws b dark no_comment no_quote parts.0 parts.2 (sound s (p + 1) (prefix_len is_dark s) parts.0 parts.1))
    (cases_eq b 34))
    (cases_eq b 59))
    (cases_Bool (is_blank b)))

pub grammatical : Grammatical
grammatical line ws = (sound line 0 0 ws, complete)
