use Rattle.std.proofs.Common.{◌≡◌, ◌*◌, ◌<◌, [], length, sym, ◌∙◌, arith}
use Rattle.devices.proofs.Costing.{cost_empty, cost_some, cost_by_length, cost_laws}
use Rattle.devices.proofs.rate.Rate.cost.Goals as goal

pub returns-then-len-eq0 : goal.returns-then-len-eq0
returns-then-len-eq0 c = record {
  value = λ t e. sym (cost_by_length _ t [] (omega arith) ∙ cost_empty _);
  laws = cost_laws;
}

pub returns : goal.returns
returns c = record {
  value = λ t e.
      let some : 0 < length t = omega arith in
      let known = cost_some c.args.self t some in
      let bytes : c.from.result * c.args.len ≡ c.args.self.byte * length t = cc in
      omega (arith, c.from-2.ensures);
  laws = cost_laws;
}
