use Rattle.std.proofs.Common.{◌-◌}
use Rattle.face_table.specs.Known.{IsBetween}
use Rattle.face_table.proofs.known.find_between.Given as goal

abbrev pub invariant-loop-low : goal.invariant-loop-low
invariant-loop-low l = IsBetween l.known.items l.low l.high l.face

abbrev pub decreases-loop-low : goal.decreases-loop-low
decreases-loop-low l = l.high - l.low
