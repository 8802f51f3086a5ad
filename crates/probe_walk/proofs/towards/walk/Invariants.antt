use Rattle.std.proofs.Common.{◌≡◌, ◌+◌, ◌<◌, ◌≤◌, length}
use Rattle.mesh_base.specs.Query.{distance, walk, degrees}
use Rattle.probe_walk.specs.WalkEnds.{last_of}
use Rattle.probe_walk.proofs.towards.walk.Given as goal

abbrev pub invariant-loop-far : goal.invariant-loop-far
invariant-loop-far g l = record {
  point : l.at < length l.fn.step.mesh.points;
  far : l.far ≡ distance l.fn.step.mesh l.fn.area l.at;
  end : last_of (walk l.fn.step.mesh l.fn.area l.at) ≡ last_of (walk l.fn.step.mesh l.fn.area l.fn.from);
  reads : l.reads + degrees l.fn.step.mesh l.fn.area (walk l.fn.step.mesh l.fn.area l.at) ≤ l.fn.reads + (1 + degrees l.fn.step.mesh l.fn.area (walk l.fn.step.mesh l.fn.area l.fn.from));
}

abbrev pub decreases-loop-far : goal.decreases-loop-far
decreases-loop-far g l = l.far
