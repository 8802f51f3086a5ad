use Rattle.std.proofs.Common.{◌≡◌, ◌++◌, ◌∷◌, [], All, take, length, flat_map}
use Rattle.std.specs.Prelude.{codes, decimal}
use Rattle.mesh_base.specs.Place.{Place, IsPlace}
use Rattle.vtk_legacy.specs.Written.{line, point_line}
use Rattle.vtk_legacy.proofs.writer.put_points.Given as goal

abbrev pub invariant-loop-point : goal.invariant-loop-point
invariant-loop-point l = record {
  text : l.out.items ≡ l.fn.out.items ++ line (codes "POINTS" ∷ decimal (length l.points) ∷ codes "int" ∷ []) ++ flat_map (λ (p : Place). line (point_line p)) (take l.point-index l.points);
  in_range : All IsPlace (take l.point-index l.points);
}
