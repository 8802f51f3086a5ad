use Rattle.std.proofs.Common.{◌≡◌, ◌++◌, ◌∷◌, []}
use Rattle.std.specs.Prelude.{codes, decimal}
use Rattle.std.specs.List.{repeat}
use Rattle.vtk_legacy.specs.Written.{line}
use Rattle.vtk_legacy.proofs.writer.put_types.Given as goal

abbrev pub invariant-loop : goal.invariant-loop
invariant-loop l = l.out.items ≡ l.fn.out.items ++ line (codes "CELL_TYPES" ∷ decimal l.live ∷ []) ++ repeat l.counter (codes "10" ++ 10 ∷ [])
