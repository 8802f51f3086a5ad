use Rattle.std.proofs.Common.{◌≡◌, ◌*◌, ◌≤◌, take, length}
use Rattle.mesh_base.specs.Mesh.{live}
use Rattle.step_text.proofs.text.live_count.Given as goal

abbrev pub invariant-loop-k : goal.invariant-loop-k
invariant-loop-k l = record {
  so_far : l.count ≡ length (live (take (4096 * l.k) l.shape.cells));
  few : l.count ≤ 4096 * l.k;
}
