use Rattle.std.proofs.Common.{◌≡◌, ◌<◌, ◌≤◌, length, get_or, take, drop, sym, ap, ◌∙◌, subst, arith, rules}
use Rattle.std.proofs.lemmas.List.{get_or_past}
use Rattle.reader.specs.Bytes.{is_blank, is_dark, is_quotable}
use Rattle.reader.specs.Words.{with_piece, words_from}
use Rattle.reader.proofs.Fronts.{plain_part}
use Rattle.reader.proofs.Reading.{nothing_left, comment_left, quote_open, quote_closed, some_word, plain_word}
use Rattle.reader.proofs.words.Words.next_word.Goals as goal
use Rattle.reader.proofs.words.Words.next_word.Goals.{in_default-via-in-Some+in_default, in_default-via-in_default}

pub returns-in-None-clause-words : goal.returns-in-None-clause-words
returns-in-None-clause-words c =
    let s = c.args.self.now in
    nothing_left s.line.bytes.now s.at c.run_end-start.result (c.run_end-start.ensures.value is_blank (λ b r h. h)) (search rules)

pub returns-in-Some-eq59-clause-words : goal.returns-in-Some-eq59-clause-words
returns-in-Some-eq59-clause-words c =
    let s = c.args.self.now in
    let start = c.run_end-start.result in
    let more : start < length s.line.bytes.now = search rules in
    let opens : get_or s.line.bytes.now start 0 ≡ 59 = search rules in
    comment_left s.line.bytes.now s.at c.run_end-start.result (c.run_end-start.ensures.value is_blank (λ b r h. h)) more opens

pub returns-in_default-clause-words : goal.returns-in_default-clause-words
returns-in_default-clause-words c =
    let s = c.args.self.now in
    let start = c.run_end-start.result in
    let end = c.run_end-end.result in
    let more : c.run_end-start.result < length s.line.bytes.now = search rules in
    let opens : get_or s.line.bytes.now c.run_end-start.result 0 ≡ 34 = search rules in
    let open_at : (get_or s.line.bytes.now end 0 ≡ 34 → ⊥) =
    elim c.in_default.branch [
      | in_default-via-in-Some+in_default w ↦ search rules
      | in_default-via-in_default w ↦ (λ e. let past : length s.line.bytes.now ≤ end = search rules in let none = get_or_past s.line.bytes.now end 0 past in omega arith)
    ] in
    quote_open s.line.bytes.now s.at start (c.run_end-start.ensures.value is_blank (λ b r h. h)) more opens
    end (c.run_end-end.ensures.value is_quotable (λ b r h. h)) open_at

pub returns-in-Some-eq34-get-clause-words : goal.returns-in-Some-eq34-get-clause-words
returns-in-Some-eq34-get-clause-words c =
    let s = c.args.self.now in
    let more : c.run_end-start.result < length s.line.bytes.now = search rules in
    let opens : get_or s.line.bytes.now c.run_end-start.result 0 ≡ 34 = search rules in
    let closes : get_or s.line.bytes.now c.run_end-end.result 0 ≡ 34 = search rules in
    quote_closed s.line.bytes.now s.at c.run_end-start.result (c.run_end-start.ensures.value is_blank (λ b r h. h)) more opens
    c.run_end-end.result (c.run_end-end.ensures.value is_quotable (λ b r h. h)) closes

pub returns-in-Some-clause-words : goal.returns-in-Some-clause-words
returns-in-Some-clause-words c =
    let s = c.args.self.now in
    let start = c.run_end-start.result in
    let end = c.run_end-end-in-Some.result in
    let more : start < length s.line.bytes.now = search rules in
    let no_comment : get_or s.line.bytes.now start 0 ≡ 59 → ⊥ = search rules in
    let no_quote : get_or s.line.bytes.now start 0 ≡ 34 → ⊥ = search rules in
    plain_word s.line.bytes.now s.at start (c.run_end-start.ensures.value is_blank (λ b r h. h)) more no_comment no_quote
    end (c.run_end-end-in-Some.ensures.value is_dark (λ b r h. search rules))
    ∙ ap (λ w. with_piece w (words_from s.line.bytes.now end)) (sym (c.plain-word.ensures start))

pub returns-in-Some-clause-part : goal.returns-in-Some-clause-part
returns-in-Some-clause-part c =
    let s = c.args.self.now in
    let start = c.run_end-start.result in
    subst (λ w. take (length w.part) (drop start s.line.bytes.now) ≡ w.part) (sym (c.plain-word.ensures 0)) (plain_part s.line.bytes.now start c.run_end-end-in-Some.result 0)

pub returns-in-Some-clause-moves : goal.returns-in-Some-clause-moves
returns-in-Some-clause-moves c =
    let s = c.args.self.now in
    let start = c.run_end-start.result in
    let more : start < length s.line.bytes.now = search rules in
    let no_comment : get_or s.line.bytes.now start 0 ≡ 59 → ⊥ = search rules in
    let no_quote : get_or s.line.bytes.now start 0 ≡ 34 → ⊥ = search rules in
    let some = some_word s.line.bytes.now s.at start (c.run_end-start.ensures.value is_blank (λ b r h. h)) more no_comment no_quote
    c.run_end-end-in-Some.result (c.run_end-end-in-Some.ensures.value is_dark (λ b r h. search rules)) in
    search rules
