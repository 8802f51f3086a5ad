use Rattle.std.proofs.Common.{◌≡◌, ◌+◌, take}
use Rattle.probe_walk.specs.Nearest.{IsBest}
use Rattle.probe_walk.proofs.near.nearest_of.Given as goal

abbrev pub invariant-loop-v : goal.invariant-loop-v
invariant-loop-v g l = record {
  best : IsBest l.step.mesh l.area (take l.v-index l.list) l.best;
  reads : l.reads ≡ l.fn.reads + l.v-index;
}
