use Rattle.std.proofs.Common.{◌≡◌, filter}
use Rattle.std.specs.List.{range_with_len}
use Rattle.mesh_base.specs.Scan.{is_in}
use Rattle.mesh_base.proofs.scan.scan_mesh.Given as goal

abbrev pub invariant-loop-v : goal.invariant-loop-v
invariant-loop-v l = l.found.items ≡ filter (is_in l.fn.mesh l.fn.area) (range_with_len 0 l.v)
