use Rattle.std.proofs.Common.{◌≡◌, ℕ, ◌<◌, get_or, false}
use Rattle.vtk_legacy.specs.Version.{is_gap}
use Rattle.vtk_legacy.proofs.version.gap_place.Given as goal

abbrev pub invariant-loop-i : goal.invariant-loop-i
invariant-loop-i l = (k : ℕ) → k < l.i → is_gap (get_or l.text k 0) ≡ false
