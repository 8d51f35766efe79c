use Rattle.std.proofs.Common.{◌+◌, drop, ap, ◌∙◌, rules}
use Rattle.std.proofs.lemmas.Iterator.{YieldsList-from_slice}
use Rattle.std.proofs.lemmas.Iterator.Consumers.{count_from_yields_List, YieldsList-at}
use Rattle.std.proofs.lemmas.Iterator.Search.{YieldsList-from_take_while}
use Rattle.std.proofs.lemmas.List.{take_rest}
use Rattle.std.proofs.lemmas.List.Folds.{length-prefix_len}
use Rattle.reader.proofs.bytes.run_end.Goals as goal

pub returns-clause-value : goal.returns-clause-value
returns-clause-value g c = λ p computes.
    let s = c.args.bytes.now in
    let m = c.args.from in
    let n = count_from_yields_List c.take_while.result c.count.result c.count.ensures.ran
    (YieldsList-from_take_while _ p
    (YieldsList-at c.take_while.ensures.source (YieldsList-from_slice (drop m s) (c.iter.ensures.rest ∙ take_rest s m)))
    c.take_while.ensures.closure c.take_while.ensures.done (λ x b q k. (search rules, computes x.now b (search rules)))) in
    ap (λ k. c.args.from + k) (n ∙ length-prefix_len p (drop m s))
