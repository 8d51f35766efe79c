-- How far the captions were shown: of a line, word by word, and of a text, line by line. Assumes nothing.
use Rattle.std.proofs.Common.{◌≡◌, ℕ, ◌+◌, ◌-◌, ◌≤◌, List, [], ◌∷◌, ◌++◌, length, get_or, take, drop, Some, None, Ok, Err, true, sym, ap, ◌∙◌, subst, append_assoc, append-nil, arith, length-append}
use Rattle.std.specs.List.{flat_map, list_all}
use Rattle.std.proofs.lemmas.Bool.{cond-true}
use Rattle.std.proofs.lemmas.List.Sums.{sum_by_more}
use Rattle.captions.specs.Captions.{captions_of, line_captions, quotes}
use Rattle.captions.specs.Sheets.{ProofSheet, Shown, ShowsFirst}
use Rattle.captions.specs.declared.sheet.SheetFault.TheVariants.{NoRoom}
use Rattle.captions.proofs.Joining.{joined_front, joined_parts}
use Rattle.captions.proofs.Quoting.{line_words, quotes-append}
use Rattle.captions.proofs.Showing.{shown_none, shown_one, shown_then, first_then, full_here}
use Rattle.devices.specs.Panels.{PanelState, Room, shown_on}
use Rattle.reader.proofs.Refusing.{readable_line}
use Rattle.reader.specs.Bytes.{is_allowed}
use Rattle.reader.specs.Arises.{Readable}
use Rattle.reader.specs.Lines.{lines, line_start, IsLine}
use Rattle.reader.specs.declared.line.Line.{Line}
use Rattle.captions.proofs.Gathering.{onto, onto_push, onto_parts, onto_some, onto_none}
use Rattle.reader.specs.Tokens.{at_place, GivesWord}
use Rattle.reader.specs.Words.{Piece, words, words_from}
use Rattle.reader.specs.declared.fault.WordFault.{WordFault}
use Rattle.reader.specs.declared.words.Token.{Token}
use Rattle.reader.specs.declared.words.Words.{Words}

-- `WordsShown p line w q n`: of the line, w has read some words, the panel p has become q by showing the captions among
-- them, and n is how many there are.
pub record WordsShown (p : PanelState) (line : List ℕ) (w : Words) (q : PanelState) (n : ℕ) : Type 0 where
  pub ws : List Piece
  pub read : words_from line 0 ≡ onto ws (words_from w.line.bytes.now w.at)
  pub shows : Shown p (quotes ws) q
  pub counts : n ≡ length (quotes ws)
  pub few : n ≤ w.at
  pub within : w.at ≤ length line
  pub same : w.line.bytes.now ≡ line

-- at the front of the line nothing is read
pub none_read : (p : PanelState) (line : List ℕ) (w : Words) (n : ℕ) → w.line.bytes.now ≡ line → w.at ≡ 0 → n ≡ 0 → WordsShown p line w p n
none_read p line w n same front none = record {
  ws = [];
  read = sym (λ i. words_from (same i) (front i));
  shows = shown_none p;
  counts = none;
  few = omega arith;
  within = omega arith;
  same = same;
}

module _ (p : PanelState) (line : List ℕ) (w : Words) (q : PanelState) (n : ℕ) (so : WordsShown p line w q n) where
  -- at a fault the line has no words
  pub none_then : (fault : WordFault) (v : Words) → GivesWord w (Some (Err fault)) v → words_from line 0 ≡ None
  none_then fault v gave = so.read ∙ ap (onto so.ws) gave.words ∙ onto_none so.ws

  -- where nothing is left, all were shown
  pub all_then : (v : Words) → GivesWord w None v → (ws : List Piece) → words_from line 0 ≡ Some ws → (n ≡ length (quotes ws)) × Shown p (quotes ws) q
  all_then v gave ws all =
      let from_front : onto so.ws (Some []) ≡ Some ws = sym (so.read ∙ ap (onto so.ws) gave.words) ∙ all in
      let some = sym (onto_some so.ws []) ∙ from_front in
      let whole : so.ws ++ [] ≡ ws = cc in
      let same : so.ws ≡ ws = sym (append-nil so.ws) ∙ whole in
      (so.counts ∙ ap (λ l. length (quotes l)) same, subst (λ l. Shown p (quotes l) q) same so.shows)

  module _ (token : Token) (v : Words) (gave : GivesWord w (Some (Ok token)) v) where
    abbrev pub found : Piece
    found = at_place token.place token.word

    more : (r : PanelState) (m : ℕ) → Shown p (quotes so.ws ++ quotes (found ∷ [])) r → m ≡ length (quotes so.ws ++ quotes (found ∷ [])) → m ≤ n + 1 → WordsShown p line v r m
    more r m shows counts few =
        let both = quotes-append so.ws (found ∷ []) in
        record {
          ws = so.ws ++ found ∷ [];
          read = so.read ∙ ap (onto so.ws) gave.words ∙ sym (onto_push so.ws found (words_from v.line.bytes.now v.at));
          shows = subst (λ l. Shown p l r) (sym both) shows;
          counts = counts ∙ ap length (sym both);
          few = omega (arith, so.few, gave.moves.0);
          within = omega (arith, gave.moves.1.0, ap length so.same);
          same = ap (λ l. l.bytes.now) gave.moves.1.1 ∙ so.same;
        }

    -- a word that is no caption is passed over
    pub passed_then : quotes (found ∷ []) ≡ [] → WordsShown p line v q n
    passed_then none =
        let same : quotes so.ws ≡ quotes so.ws ++ quotes (found ∷ []) = sym (ap (λ l. quotes so.ws ++ l) none ∙ append-nil (quotes so.ws)) in
        more q n (subst (λ l. Shown p l q) same so.shows) (so.counts ∙ ap length same) (omega arith)

    module _ (text : List ℕ) (one : quotes (found ∷ []) ≡ text ∷ []) where
      -- a caption is shown
      pub shown_then_one : Room q text → (r : PanelState) → r ≡ shown_on q text → WordsShown p line v r (n + 1)
      shown_then_one room r now =
          let shows : Shown q (quotes (found ∷ [])) r = subst (λ s. Shown q (quotes (found ∷ [])) s) (sym now) (subst (λ l. Shown q l (shown_on q text)) (sym one) (shown_one q text room)) in
          more r (n + 1) (shown_then p q r (quotes so.ws) (quotes (found ∷ [])) so.shows shows)
          (omega (arith, so.counts, ap length one, length-append (quotes so.ws) (quotes (found ∷ []))))
          (omega arith)

      -- a caption finds no room
      pub full_then : (Room q text → ⊥) → (r : PanelState) → r ≡ q → (ws : List Piece) → words_from line 0 ≡ Some ws → ShowsFirst p (quotes ws) n r
      full_then full r stays ws all =
          let left = words_from v.line.bytes.now v.at in
          let from_front : onto (so.ws ++ found ∷ []) left ≡ Some ws = onto_push so.ws found left ∙ sym (so.read ∙ ap (onto so.ws) gave.words) ∙ all in
          let parts = onto_parts (so.ws ++ found ∷ []) ws left from_front in
          let texts : quotes ws ≡ quotes so.ws ++ (text ∷ [] ++ quotes parts.0) =
          ap quotes (parts.2 ∙ append_assoc so.ws (found ∷ []) parts.0)
          ∙ quotes-append so.ws (found ∷ [] ++ parts.0)
          ∙ ap (λ l. quotes so.ws ++ l) (quotes-append (found ∷ []) parts.0 ∙ ap (λ l. l ++ quotes parts.0) one) in
          subst (λ l. ShowsFirst p l n r) (sym texts)
          (subst (λ k. ShowsFirst p (quotes so.ws ++ (text ∷ [] ++ quotes parts.0)) k r) (sym so.counts) (full_here p q r (quotes so.ws) (quotes parts.0) text so.shows stays full))

-- `LinesShown p text k q n`: the panel p has become q by showing the captions of the first k lines of the text, and n is how
-- many there are.
pub record LinesShown (p : PanelState) (text : List ℕ) (k : ℕ) (q : PanelState) (n : ℕ) : Type 0 where
  pub shows : Shown p (flat_map line_captions (take k (lines text))) q
  pub counts : n ≡ length (flat_map line_captions (take k (lines text)))
  pub few : n ≤ line_start text k

module _ (text : List ℕ) (readable : Readable text) (k : ℕ) (line : Line) (is : IsLine text k line) where
  -- the line is not refused
  pub line_read : words line.bytes.now ≡ None → ⊥
  line_read none = readable_line text readable k is.within (ap words (sym is.bytes) ∙ none)

  module _ (p q r : PanelState) (n : ℕ) (so : LinesShown p text k q n) (allowed : list_all is_allowed line.bytes.now ≡ true) (m : ℕ) (more : n ≤ m) where
    -- its captions, and that they can be read
    found_in : (ws : List Piece) × (words_from line.bytes.now 0 ≡ Some ws) × (quotes ws ≡ line_captions (get_or (lines text) k []))
    found_in = let some = line_words text k line readable is in (some.0, sym (cond-true _ _ _ allowed) ∙ some.1, some.2)

    abbrev front : List (List ℕ)
    front = flat_map line_captions (take k (lines text))

    -- a line more was shown
    pub line_more : (given : ℕ) → given ≡ k + 1 → m - n ≤ length line.bytes.now → ((ws : List Piece) → words_from line.bytes.now 0 ≡ Some ws → (m - n ≡ length (quotes ws)) × Shown q (quotes ws) r) → LinesShown p text given r m
    line_more given next few told =
        let some = found_in in
        let shows = told some.0 some.1 in
        let whole : flat_map line_captions (take (k + 1) (lines text)) ≡ front ++ quotes some.0 =
        joined_front line_captions (lines text) k [] is.within ∙ ap (λ l. front ++ l) (sym some.2) in
        subst (λ j. LinesShown p text j r m) (sym next) (record {
          shows = subst (λ l. Shown p l r) (sym whole) (shown_then p q r _ _ so.shows shows.1);
          counts = omega (arith, shows.0, more, so.counts, ap length whole, length-append front (quotes some.0));
          few = omega (arith, so.few, few, more, sum_by_more (λ l. length l + 1) (lines text) k [] is.within, ap length is.bytes);
        })

    -- a caption of the line found no room
    pub line_full : ((ws : List Piece) → words_from line.bytes.now 0 ≡ Some ws → ShowsFirst q (quotes ws) (m - n) r) → ProofSheet text p (Err (NoRoom m)) r
    line_full told =
        let some = found_in in
        let rest = flat_map line_captions (drop (k + 1) (lines text)) in
        let first = first_then p q r front (quotes some.0) rest n (m - n) so.counts so.shows (told some.0 some.1) in
        let whole : front ++ (quotes some.0 ++ rest) ≡ captions_of text =
        ap (λ l. front ++ (l ++ rest)) some.2 ∙ sym (joined_parts line_captions (lines text) k [] is.within) in
        let count : n + (m - n) ≡ m = omega (arith, more) in
        (readable, subst (λ c. ShowsFirst p (captions_of text) c r) count (subst (λ l. ShowsFirst p l (n + (m - n)) r) whole first))
