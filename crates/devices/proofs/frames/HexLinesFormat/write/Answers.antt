use Rattle.std.proofs.Common.{◌≡◌, ◌+◌, ◌*◌, ◌<◌, [], ◌∷◌, ◌++◌, length, get_or, take, drop, set, sym, refl, ap, ◌∙◌, append_assoc, arith, rules}
use Rattle.std.specs.List.{AllByRecursion}
use Rattle.std.proofs.lemmas.List.{take_all, take_more, length-take-le, length_push}
use Rattle.std.proofs.lemmas.Bool.Decides.{nat_tests}
use Rattle.std.proofs.ByRecursion.{All-from_get_or}
use Rattle.devices.specs.Hex.{hex, line}
use Rattle.devices.proofs.Appending.{written_at}
use Rattle.devices.proofs.Costing.{frames_cost, frames_price}
use Rattle.devices.proofs.Decoding.{hex_push, length-hex, length-line, line_some}
use Rattle.devices.proofs.Formats.{adds_line}
use Rattle.devices.proofs.frames.HexLinesFormat.write.Goals as goal
use Rattle.devices.proofs.frames.HexLinesFormat.write.Goals.{After-cost}

bytes : (c : After-cost) → AllByRecursion (λ b. b < 256) c.args.text.now
bytes c = All-from_get_or (λ b. b < 256) c.args.text.now 0 (λ i _. let h = c.type_inv.text i in search rules)

price : (c : After-cost) → c.cost.result ≡ length (line c.args.text.now)
price c = frames_price _ c.args.text.now _ c.rate.ensures (c.cost.ensures.value c.args.text.now refl)

pub returns-then-cost-space-clause-writes : goal.returns-then-cost-space-clause-writes
returns-then-cost-space-clause-writes c = (omega (arith, price (goal.at.returns-then-cost-space-clause-writes c).After-cost), refl)

pub returns-then-cost-space-clause-charges : goal.returns-then-cost-space-clause-charges
returns-then-cost-space-clause-charges c = frames_cost c.args.text.now

pub returns-then-cost-space-clause-adds : goal.returns-then-cost-space-clause-adds
returns-then-cost-space-clause-adds c = adds_line _ (bytes (goal.at.returns-then-cost-space-clause-adds c).After-cost)

pub returns-then-is_empty-clause-charges : goal.returns-then-is_empty-clause-charges
returns-then-is_empty-clause-charges c = frames_cost c.args.text.now

pub prove-unreachable-requires : goal.prove-unreachable-requires
prove-unreachable-requires c =
    let h = c.if-is_empty.ensures in
    let some : 0 < length c.args.text.now = grind (arith, nat_tests) in
    omega (arith, price (goal.at.prove-unreachable-requires c).After-cost, length-line c.args.text.now some)

pub loop-i-preserved : goal.loop-i-preserved
loop-i-preserved c =
    let text = c.args.text.now in
    let space = c.args.space.now in
    let i = c.loop-i.i in
    let front = hex (take i text) in
    let high = c.hex_digit.result in
    let low = c.hex_digit-in-loop-i.result in
    let long : length front ≡ 2 * i = omega (arith, length-hex (take i text), length-take-le i text) in
    let next : 2 * i + 1 + 1 ≡ 2 * (i + 1) = omega arith in
    ap (λ l. set (set l (2 * i) high) (2 * i + 1) low) c.loop-i.invariant
    ∙ ap (λ l. set l (2 * i + 1) low) (written_at space front (2 * i) high long (omega arith))
    ∙ written_at space (front ++ high ∷ []) (2 * i + 1) low (omega (arith, long, length_push front high)) (omega arith)
    ∙ (λ k. ((front ++ c.hex_digit.ensures k ∷ []) ++ c.hex_digit-in-loop-i.ensures k ∷ []) ++ drop (next k) space)
    ∙ ap (λ l. l ++ drop (2 * (i + 1)) space) (append_assoc front _ _ ∙ sym (hex_push (take i text) (get_or text i 0)) ∙ ap hex (sym (take_more text i 0 (omega arith))))

pub returns-clause-writes : goal.returns-clause-writes
returns-clause-writes c =
    let text = c.args.text.now in
    let space = c.args.space.now in
    let h = c.if-is_empty.ensures in
    let some : 0 < length text = grind (arith, nat_tests) in
    let all : c.loop-i.i ≡ length text = omega arith in
    let written : c.loop-i.space ≡ hex text ++ drop (2 * length text) space =
    c.loop-i.invariant ∙ (λ k. hex (take (all k) text) ++ drop (2 * all k) space) ∙ ap (λ l. hex l ++ drop (2 * length text) space) (take_all (length text) text (omega arith)) in (
      sym (length-line text some),
      omega arith,
      ap (λ l. set l (2 * length text) 10) written
          ∙ written_at space (hex text) (2 * length text) 10 (length-hex text) (omega arith)
          ∙ ap (λ l. l ++ drop (2 * length text + 1) space) (sym (line_some text some)),
    )

pub returns-clause-charges : goal.returns-clause-charges
returns-clause-charges c = frames_cost c.args.text.now

pub returns-clause-adds : goal.returns-clause-adds
returns-clause-adds c = adds_line _ (bytes (goal.at.returns-clause-adds c).After-cost)
