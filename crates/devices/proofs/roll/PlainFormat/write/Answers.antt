use Rattle.std.proofs.Common.{◌≡◌, length, refl, arith}
use Rattle.devices.proofs.Costing.{roll_cost, roll_price}
use Rattle.devices.proofs.roll.PlainFormat.write.Goals as goal
use Rattle.devices.proofs.roll.PlainFormat.write.Goals.{After-cost}

price : (c : After-cost) → c.cost.result ≡ length c.args.text.now
price c = roll_price _ c.args.text.now _ c.rate.ensures (c.cost.ensures.value c.args.text.now refl)

pub returns-then-cost-space-clause-writes : goal.returns-then-cost-space-clause-writes
returns-then-cost-space-clause-writes c = (omega (arith, price (goal.at.returns-then-cost-space-clause-writes c).After-cost), refl)

pub returns-then-cost-space-clause-charges : goal.returns-then-cost-space-clause-charges
returns-then-cost-space-clause-charges c = roll_cost c.args.text.now

pub prove-unreachable-requires : goal.prove-unreachable-requires
prove-unreachable-requires c = omega (arith, price (goal.at.prove-unreachable-requires c).After-cost)

pub returns-clause-charges : goal.returns-clause-charges
returns-clause-charges c = roll_cost c.args.text.now
