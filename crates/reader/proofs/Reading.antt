-- The first word of what is left of a line. Assumes nothing.
use Rattle.std.proofs.Common.{◌≡◌, ℕ, zero, suc, ◌+◌, ◌-◌, ◌<◌, ◌≤◌, false, cond, eqb, List, [], ◌∷◌, length, get_or, take, drop, Some, None, sym, refl, ap, ◌∙◌, ⊎_elim, add-zero, arith, length-drop}
use Rattle.std.specs.List.{prefix_len}
use Rattle.std.proofs.lemmas.List.{drop_all, drop-drop, drop_more, get_or-drop}
use Rattle.std.proofs.lemmas.List.Sums.{prefix_len_stops}
use Rattle.std.proofs.lemmas.Bool.{cases_Bool, cond-true, cond-false, eq-eqb, ne_eqb, not_from_false}
use Rattle.reader.specs.Bytes.{is_blank, is_dark, is_quotable}
use Rattle.reader.specs.Words.{piece, quoted, plain, read, with_piece, words_from}

-- what belongs to a word before is passed over
pub skipped : (p k : ℕ) (s : List ℕ) → read p k s ≡ read (p + k) 0 (drop k s)
skipped p zero [] = refl
skipped p (suc k) [] = refl
skipped p zero (b ∷ s) = ap (λ q. read q 0 (b ∷ s)) (sym (add-zero p))
skipped p (suc k) (b ∷ s) = skipped (p + 1) k s ∙ ap (λ q. read q 0 (drop k s)) (omega arith)

-- blanks are passed over
blanks : (p : ℕ) (s : List ℕ) → read p 0 s ≡ read (p + prefix_len is_blank s) 0 (drop (prefix_len is_blank s) s)
blanks p [] = refl
blanks p (b ∷ s) =
    ⊎_elim
    (λ yes.
    let more : suc (prefix_len is_blank s) ≡ prefix_len is_blank (b ∷ s) = sym (cond-true _ _ _ yes ∙ omega arith) in
    cond-true _ _ _ yes ∙ blanks (p + 1) s ∙ (λ i. read (p + 1 + prefix_len is_blank s) 0 (drop (more i) (b ∷ s))) ∙ ap (λ q. read q 0 (drop (prefix_len is_blank (b ∷ s)) (b ∷ s))) (omega arith))
    (λ no.
    let none : 0 ≡ prefix_len is_blank (b ∷ s) = sym (cond-false _ _ _ no) in
    ap (λ q. read q 0 (b ∷ s)) (sym (add-zero p)) ∙ (λ i. read (p + none i) 0 (drop (none i) (b ∷ s))))
    (cases_Bool (is_blank b))

-- reading goes on k bytes after the place p
goes_on : (line : List ℕ) (p k q : ℕ) → q ≡ p + k → read p k (drop p line) ≡ words_from line q
goes_on line p k q e = skipped p k (drop p line) ∙ (λ i. read (sym e i) 0 (drop-drop k p line i)) ∙ ap (λ j. read q 0 (drop j line)) (sym e)

module _ (line : List ℕ) (at start : ℕ) (starts : start ≡ at + prefix_len is_blank (drop at line)) where
  after_blanks : words_from line at ≡ words_from line start
  after_blanks =
      blanks at (drop at line)
      ∙ (λ i. read (sym starts i) 0 (drop-drop (prefix_len is_blank (drop at line)) at line i))
      ∙ ap (λ j. read start 0 (drop j line)) (sym starts)

  pub nothing_left : length line ≤ start → words_from line at ≡ Some []
  nothing_left past = after_blanks ∙ ap (read start 0) (drop_all start line past)

  module _ (more : start < length line) where
    opened : drop start line ≡ get_or line start 0 ∷ drop (start + 1) line
    opened = drop_more line start 0 more

    not_blank : is_blank (get_or line start 0) ≡ false
    not_blank =
        let here : get_or (drop at line) (prefix_len is_blank (drop at line)) 0 ≡ get_or line start 0 = get_or-drop at line _ 0 ∙ ap (λ k. get_or line k 0) (sym starts) in
        ap is_blank (sym here) ∙ prefix_len_stops is_blank (drop at line) 0 (omega (arith, length-drop at line))

    -- a word, which begins with no blank
    begins : words_from line at ≡ read start 0 (get_or line start 0 ∷ drop (start + 1) line)
    begins = after_blanks ∙ ap (read start 0) opened

    pub comment_left : get_or line start 0 ≡ 59 → words_from line at ≡ Some []
    comment_left e = begins ∙ cond-false _ _ _ not_blank ∙ cond-true _ _ _ (eq-eqb _ 59 e)

    module _ (opens : get_or line start 0 ≡ 34) (end : ℕ) (ends : end ≡ start + 1 + prefix_len is_quotable (drop (start + 1) line)) where
      quote_here : words_from line at ≡ cond (eqb (get_or (drop (start + 1) line) (prefix_len is_quotable (drop (start + 1) line)) 0) 34) (with_piece (piece quoted (start + 1) (take (prefix_len is_quotable (drop (start + 1) line)) (drop (start + 1) line))) (read (start + 1) (prefix_len is_quotable (drop (start + 1) line) + 1) (drop (start + 1) line))) None
      quote_here =
          let no_comment : eqb (get_or line start 0) 59 ≡ false = ne_eqb _ 59 (λ e. omega arith) in
          begins ∙ cond-false _ _ _ not_blank ∙ cond-false _ _ _ no_comment ∙ cond-true _ _ _ (eq-eqb _ 34 opens)

      last_byte : get_or (drop (start + 1) line) (prefix_len is_quotable (drop (start + 1) line)) 0 ≡ get_or line end 0
      last_byte = get_or-drop (start + 1) line _ 0 ∙ ap (λ k. get_or line k 0) (sym ends)

      pub quote_open : (get_or line end 0 ≡ 34 → ⊥) → words_from line at ≡ None
      quote_open other = quote_here ∙ cond-false _ _ _ (ne_eqb _ 34 (λ e. other (sym last_byte ∙ e)))

      pub quote_closed : get_or line end 0 ≡ 34 → words_from line at ≡ with_piece (piece quoted (start + 1) (take (end - (start + 1)) (drop (start + 1) line))) (words_from line (end + 1))
      quote_closed closes =
          let long : prefix_len is_quotable (drop (start + 1) line) ≡ end - (start + 1) = omega arith in
          quote_here
          ∙ cond-true _ _ _ (eq-eqb _ 34 (last_byte ∙ closes))
          ∙ (λ i. with_piece (piece quoted (start + 1) (take (long i) (drop (start + 1) line))) (goes_on line (start + 1) (prefix_len is_quotable (drop (start + 1) line) + 1) (end + 1) (omega arith) i))

    module _ (no_comment : get_or line start 0 ≡ 59 → ⊥) (no_quote : get_or line start 0 ≡ 34 → ⊥) (end : ℕ) (ends : end ≡ start + prefix_len is_dark (drop start line)) where
      -- the word's length, by what follows its first byte
      long : end ≡ start + 1 + prefix_len is_dark (drop (start + 1) line)
      long =
          let first : prefix_len is_dark (drop start line) ≡ 1 + prefix_len is_dark (drop (start + 1) line) = ap (prefix_len is_dark) opened ∙ cond-true _ _ _ (not_from_false _ not_blank) in
          omega arith

      pub some_word : start < end
      some_word = omega (arith, long)

      pub plain_word : words_from line at ≡ with_piece (plain start (take (end - start) (drop start line))) (words_from line end)
      plain_word =
          let rest = drop (start + 1) line in
          let size : suc (prefix_len is_dark rest) ≡ end - start = omega (arith, long) in
          begins
          ∙ cond-false _ _ _ not_blank
          ∙ cond-false _ _ _ (ne_eqb _ 59 no_comment)
          ∙ cond-false _ _ _ (ne_eqb _ 34 no_quote)
          ∙ (λ i. with_piece (plain start (take (size i) (sym opened i))) (goes_on line (start + 1) (prefix_len is_dark rest) end long i))
