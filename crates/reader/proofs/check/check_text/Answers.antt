use Rattle.std.proofs.Common.{arith, rules}
use Rattle.reader.specs.Arises.{TooLong, too_long}
use Rattle.reader.proofs.Refusing.{refused_here}
use Rattle.reader.proofs.check.check_text.Goals as goal

pub returns-in_err-check_length : goal.returns-in_err-check_length
returns-in_err-check_length c = grind (rules, too_long)

pub returns-in_err-check_words : goal.returns-in_err-check_words
returns-in_err-check_words c =
    let short : TooLong c.args.text.now → ⊥ = λ long. omega (arith, c.in_ok-check_length.ensures) in
    let inv = c.loop-line.invariant in
    let given = c.in-Some.ensures.steps.0.0 in
    let refused = refused_here c.args.text.now short c.loop-line.line-iterator.given c.in-Some.line (rw inv.same at given) inv.clear c.in_err-check_words.ensures.0 in
    grind rules
