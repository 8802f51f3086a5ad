use Rattle.std.proofs.Common.{◌≡◌, ◌+◌, filter, length}
use Rattle.std.specs.List.{range_with_len}
use Rattle.mesh_base.specs.Mesh.{is_vertex}
use Rattle.mesh_base.specs.Query.{is_in}
use Rattle.box_query.proofs.full.scan.Given as goal

abbrev pub invariant-loop-v : goal.invariant-loop-v
invariant-loop-v g l = record {
  found : l.found.items ≡ filter (is_in l.fn.step.mesh l.fn.area) (range_with_len 0 l.v);
  reads : l.reads ≡ l.fn.reads + length (filter (is_vertex l.fn.step.mesh.cells) (range_with_len 0 l.v));
}
