use Rattle.std.proofs.Common.{◌-◌, length, drop, rules, tests, arith, length-drop}
use Rattle.std.specs.Char.{is_ascii_alphabetic}
use Rattle.std.proofs.lemmas.Iterator.{YieldsList-from_slice}
use Rattle.std.proofs.lemmas.Iterator.Search.{all_from_yields_List}
use Rattle.std.proofs.lemmas.List.{take_all}
use Rattle.reader.proofs.word.is_directive.Goals as goal

pub returns-then-not-is_empty : goal.returns-then-not-is_empty
returns-then-not-is_empty c =
    let w = c.args.w.now in
    let all = all_from_yields_List is_ascii_alphabetic _ _ c.all.result c.all.ensures.ran (YieldsList-from_slice _ c.iter.ensures.rest) (λ x b q k. search (rules, tests)) in
    let rest = take_all (length w - 1) (drop 1 w) (omega (arith, length-drop 1 w)) in
    search rules
