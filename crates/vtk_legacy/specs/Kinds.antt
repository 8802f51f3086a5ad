-- The names of the kinds of faults.
use Rattle.std.specs.Prelude.{ℕ, List, codes}
use Rattle.vtk_legacy.specs.declared.fault.MeshKind.{MeshKind}
use Rattle.vtk_legacy.specs.declared.fault.MeshKind.TheVariants as kinds

-- the name of a kind, as refusals print it
abbrev pub name_of : MeshKind → List ℕ
name_of kinds.Magic = codes "Magic"
name_of kinds.Version = codes "Version"
name_of kinds.Title = codes "Title"
name_of kinds.Binary = codes "Binary"
name_of kinds.Format = codes "Format"
name_of kinds.DataSet = codes "DataSet"
name_of kinds.Keyword = codes "Keyword"
name_of kinds.Number = codes "Number"
name_of kinds.NotWhole = codes "NotWhole"
name_of kinds.Range = codes "Range"
name_of kinds.Count = codes "Count"
name_of kinds.Size = codes "Size"
name_of kinds.Index = codes "Index"
name_of kinds.CellType = codes "CellType"
name_of kinds.CellSize = codes "CellSize"
name_of kinds.SameVertex = codes "SameVertex"
name_of kinds.Field = codes "Field"
name_of kinds.Truncated = codes "Truncated"
