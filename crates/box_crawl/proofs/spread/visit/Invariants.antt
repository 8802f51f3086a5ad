use Rattle.std.proofs.Common.{◌≡◌, ℕ, ◌+◌, ◌≤◌, true, length, take, Contains}
use Rattle.mesh_base.specs.Mesh.{neighbours}
use Rattle.mesh_base.specs.Query.{is_in}
use Rattle.box_crawl.specs.Found.{IsTally, IsMore}
use Rattle.box_crawl.proofs.spread.visit.Given as goal

abbrev pub invariant-loop-w : goal.invariant-loop-w
invariant-loop-w g l = record {
  len : length l.marks ≡ length l.fn.marks;
  tally : IsTally l.found.items l.marks;
  more : IsMore l.fn.step.mesh l.fn.area l.fn.v l.fn.found.items l.found.items;
  done : (w : ℕ) → Contains (take l.w-index (neighbours l.fn.step.mesh l.fn.v)) w → is_in l.fn.step.mesh l.fn.area w ≡ true → Contains l.found.items w;
  reads : l.reads ≤ l.fn.reads + l.w-index;
}
