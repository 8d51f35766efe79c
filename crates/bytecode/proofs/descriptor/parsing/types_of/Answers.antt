use Rattle.std.proofs.Common.{◌∙◌, arith, length-set}
use Rattle.bytecode.specs.Signatures.{StandFor}
use Rattle.bytecode.proofs.Describing.{no_types, not_read, one_more}
use Rattle.bytecode.proofs.descriptor.parsing.types_of.Goals as goal

pub returns-in_err-types : goal.returns-in_err-types
returns-in_err-types c =
    not_read (StandFor c.args.letters.now) c.from_residual.result c.from_residual.ensures.0 (λ ts few. no_types c.args.letters.now c.loop-place.place c.loop-place-test.true c.in_err-types.ensures ts)

pub loop-place-preserved : goal.loop-place-preserved
loop-place-preserved c = record {
  read = one_more c.args.letters.now c.loop-place.types c.loop-place.place _ c.loop-place.invariant.read c.loop-place-test.true (omega arith) c.in_ok-types.ensures;
  sixteen = length-set c.loop-place.types c.loop-place.place _ ∙ c.loop-place.invariant.sixteen;
}
