use Rattle.std.proofs.Common.{◌≡◌}
use Rattle.std.specs.Prelude.{map}
use Rattle.std.specs.List.{range_with_len}
use Rattle.std.specs.HashMap.{get}
use Rattle.box_watch.specs.declared.corners.Corners.{Corners}
use Rattle.box_watch.specs.Priors.{last_below, box_at, prior_of}
use Rattle.box_watch.specs.Corners.{corners_of, same_corners}
use Rattle.box_watch.proofs.corners.list_priors.Given as goal

abbrev pub invariant-loop-number : goal.invariant-loop-number
invariant-loop-number l = record {
  noted : (k : Corners) → get same_corners l.last k ≡ last_below (λ i. same_corners (corners_of (box_at l.boxes i)) k) l.number;
  listed : l.priors.items ≡ map (prior_of l.boxes) (range_with_len 0 l.number);
}
