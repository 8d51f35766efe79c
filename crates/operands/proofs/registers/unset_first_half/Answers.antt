use Rattle.std.proofs.Common.{rules, ◌-◌, length, sym, ap, arith}
use Rattle.operands.specs.Registers.{no_first}
use Rattle.operands.proofs.Unsetting.{ending_last, no_first_other}
use Rattle.operands.proofs.registers.unset_first_half.Goals.{in-LongFirst, in_default-matches}
use Rattle.operands.proofs.registers.unset_first_half.Goals as goal

pub returns-then-matches : goal.returns-then-matches
returns-then-matches g c =
    let rs = c.args.before.now in
    let last = c.in-Some.last.now in
    let item = c.in-Some.ensures.item in
    elim c.match-matches.branch [
      | in-LongFirst w ↦ (let unset = ap no_first w.in-LongFirst.is in ending_last rs (length rs - 1) last _ (omega (arith, item.3.0)) item.1 (search rules))
      | in_default-matches w ↦ cc
    ]

pub returns-else-matches : goal.returns-else-matches
returns-else-matches g c =
    let rs = c.args.before.now in
    let last = c.in-Some.last.now in
    let item = c.in-Some.ensures.item in
    elim c.match-matches.branch [
      | in-LongFirst w ↦ cc
      | in_default-matches w ↦ ending_last rs (length rs - 1) last last (omega (arith, item.3.0)) item.1 (sym (no_first_other last w.in_default-matches.not-LongFirst))
    ]
