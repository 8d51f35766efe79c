use Rattle.std.proofs.Common.{◌≡◌, length, map, take}
use Rattle.bytecode.specs.Descriptors.{letter}
use Rattle.bytecode.proofs.descriptor.parsing.types_of.Given as goal

abbrev pub invariant-loop-place : goal.invariant-loop-place
invariant-loop-place l = record { read : map letter (take l.place l.types) ≡ take l.place l.letters; sixteen : length l.types ≡ 16 }
