use Rattle.std.proofs.Common.{◌≡◌, ◌+◌, take, filter}
use Rattle.mesh_base.specs.Mesh.{surface}
use Rattle.mesh_base.specs.Query.{is_in}
use Rattle.probe_walk.specs.Nearest.{IsBest}
use Rattle.probe_walk.proofs.surface_probe.probe.Given as goal

abbrev pub invariant-loop-v : goal.invariant-loop-v
invariant-loop-v g l = record {
  inside : l.inside.items ≡ filter (is_in l.fn.step.mesh l.fn.area) (take l.v-index (surface l.fn.step.mesh));
  best : IsBest l.fn.step.mesh l.fn.area (take l.v-index (surface l.fn.step.mesh)) l.best;
  reads : l.reads ≡ l.fn.reads + l.v-index;
}
