use Rattle.std.proofs.Common.{◌≤◌}
use Rattle.vtk_legacy.specs.Reader.{fed_len}
use Rattle.vtk_legacy.proofs.texts.byte_by_byte.Given as goal

abbrev pub invariant-loop-i : goal.invariant-loop-i
invariant-loop-i l = fed_len l.reader ≤ l.i
