-- What a reader has gathered, by its fields.
use Rattle.std.proofs.Common.{ℕ, List, drop}
use Rattle.mesh_base.specs.Place.{Place}
use Rattle.vtk_legacy.specs.declared.gathered.CellForm.{CellForm}
use Rattle.vtk_legacy.specs.Kept.{Parts}
use Rattle.vtk_legacy.specs.Table.{Rows}

abbrev pub parts_at : CellForm → ℕ → List Place → List ℕ → ℕ → Rows → Parts
parts_at f n ps sizes begun table = record { form = f; number = n; points = ps; sizes = drop begun sizes; rows = table.waiting; cells = table.done }
