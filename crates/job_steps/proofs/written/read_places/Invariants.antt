use Rattle.std.proofs.Common.{◌≡◌, ◌≤◌, take, length}
use Rattle.std.specs.Vec.{vec_capacity}
use Rattle.job_steps.proofs.written.read_places.Given as goal

abbrev pub invariant-loop-v : goal.invariant-loop-v
invariant-loop-v g l = record {
  so_far : l.places.items ≡ take l.v l.step.mesh.points;
  room : length l.step.mesh.points ≤ vec_capacity l.places;
}
