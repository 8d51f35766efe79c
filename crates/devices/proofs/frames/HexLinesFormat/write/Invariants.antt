use Rattle.std.proofs.Common.{◌≡◌, ◌*◌, ◌++◌, take, drop}
use Rattle.devices.specs.Hex.{hex}
use Rattle.devices.proofs.frames.HexLinesFormat.write.Given as goal

abbrev pub invariant-loop-i : goal.invariant-loop-i
invariant-loop-i l = l.space ≡ hex (take l.i l.text) ++ drop (2 * l.i) l.initial.space
