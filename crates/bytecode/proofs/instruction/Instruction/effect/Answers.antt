use Rattle.std.proofs.Common.{◌≡◌, None, rules, tests}
use Rattle.std.specs.Option.{MatchOption}
use Rattle.bytecode.specs.Instructions.{effect_by, effect_of, mnemonic_of}
use Rattle.bytecode.proofs.Agreeing.{by_table}
use Rattle.bytecode.proofs.Transferring.{transfer_laws}
use Rattle.bytecode.proofs.instruction.Instruction.effect.Goals as goal

pub returns-clause-value : goal.returns-clause-value
returns-clause-value c =
    let table : c.and_then.result ≡ effect_by (mnemonic_of c.args.self) = search (rules, tests) in
    let cases : MatchOption c.and_then.result (effect_by (mnemonic_of c.args.self) ≡ None → c.unwrap_or_else.result ≡ effect_of c.args.self) (λ e. c.unwrap_or_else.result ≡ e) = search (rules, tests) in
    by_table c.args.self c.and_then.result c.unwrap_or_else.result table cases

pub returns-clause-laws : goal.returns-clause-laws
returns-clause-laws c = transfer_laws
