use Rattle.std.proofs.Common.{rules, tests}
use Rattle.std.proofs.lemmas.Iterator.{YieldsList-from_slice}
use Rattle.std.proofs.lemmas.Iterator.Search.{all_from_yields_List}
use Rattle.reader.specs.Bytes.{is_allowed}
use Rattle.reader.proofs.words.Words.of.Goals as goal

pub returns : goal.returns
returns c =
    let all = all_from_yields_List is_allowed _ _ c.all.result c.all.ensures.ran (YieldsList-from_slice c.args.line.bytes.now cc) (λ x b q k. search (rules, tests)) in
    search rules
