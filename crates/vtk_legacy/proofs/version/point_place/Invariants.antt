use Rattle.std.proofs.Common.{◌≡◌, ℕ, ◌<◌, get_or, false}
use Rattle.oct_text.specs.Numbers.{is_point}
use Rattle.vtk_legacy.proofs.version.point_place.Given as goal

abbrev pub invariant-loop-i : goal.invariant-loop-i
invariant-loop-i l = (k : ℕ) → k < l.i → is_point (get_or l.text k 0) ≡ false
