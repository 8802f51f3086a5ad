use Rattle.std.proofs.Common.{◌≡◌, ℕ, ◌+◌, ◌-◌, ◌<◌, ◌≤◌, true, length, take, get_or, Contains}
use Rattle.mesh_base.specs.Mesh.{are_neighbours}
use Rattle.mesh_base.specs.Query.{scan, JoinedToOne, degrees}
use Rattle.box_crawl.specs.Found.{IsTally}
use Rattle.box_crawl.proofs.spread.spread_all.Given as goal

abbrev pub invariant-loop-at : goal.invariant-loop-at
invariant-loop-at g l = record {
  len : length l.marks ≡ length l.fn.marks;
  tally : IsTally l.found.items l.marks;
  within : l.at ≤ length l.found.items;
  starts : (w : ℕ) → Contains l.fn.found.items w → Contains l.found.items w;
  only : (w : ℕ) → Contains l.found.items w → JoinedToOne l.fn.step.mesh l.fn.area l.fn.found.items w;
  closed : (k w : ℕ) → k < l.at → are_neighbours l.fn.step.mesh.cells (get_or l.found.items k 0) w ≡ true → Contains (scan l.fn.step.mesh l.fn.area) w → Contains l.found.items w;
  reads : l.reads ≤ l.fn.reads + degrees l.fn.step.mesh l.fn.area (take l.at l.found.items);
}

abbrev pub decreases-loop-at : goal.decreases-loop-at
decreases-loop-at g l = length l.initial.marks - l.at
