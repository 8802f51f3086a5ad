use Rattle.std.proofs.Common.{[], ◌∷◌, Some, None, sym, length}
use Rattle.std.specs.Arc.{arc_value}
use Rattle.mesh_base.specs.Mesh.{corners_of}
use Rattle.topo.proofs.StayLaws.{cells-append, cells-set, cells-split}
use Rattle.topo.proofs.kept.forget_cells.Goals as goal

pub returns-in-Add : goal.returns-in-Add
returns-in-Add c = λ mesh len kept.
    rw (c.forget_from.ensures, sym len, c.in-Add.is) (cells-append arc_value mesh.cells (Some (corners_of c.in-Add.corners) ∷ []) _ kept)

pub returns-in-Remove : goal.returns-in-Remove
returns-in-Remove c = λ mesh len kept.
    rw (c.forget.ensures, c.in-Remove.is) (cells-set arc_value mesh.cells _ None _ kept)

pub returns-in-Split : goal.returns-in-Split
returns-in-Split c = λ mesh len kept.
    rw (c.forget_from-in-Split.ensures, c.forget-in-Split.ensures, c.in-Split.is) (cells-split arc_value mesh.cells (length mesh.points) _ _ _ _ len kept)
