-- What a reader knows of the text that it was fed.
use Rattle.std.specs.Prelude.{◌≡◌, ℕ, ◌+◌, List, ◌++◌, length, Option, Some, None}
use Rattle.oct_text.specs.Rest.{Rest, continued}
use Rattle.vtk_legacy.specs.declared.fault.MeshFault.{MeshFault}
use Rattle.vtk_legacy.specs.declared.reader.MeshReader.{MeshReader}
use Rattle.vtk_legacy.specs.declared.stage.Stage.{Stage}
use Rattle.vtk_legacy.specs.MeshText.{mesh_text}
use Rattle.vtk_legacy.specs.Kept.{Parts}
use Rattle.vtk_legacy.specs.Machine.{goes_on}
use Rattle.vtk_legacy.specs.Outcome.{IsFaultOfAll}

-- the fault that the reader has met
unfoldable pub fault_of : MeshReader → Option MeshFault
fault_of reader = reader.failed

-- whatever comes decides
abbrev pub Decides : List ℕ → Stage → Parts → Rest → Type 0
Decides fed s got r = (more : List ℕ) → mesh_text (fed ++ more) ≡ goes_on s got (continued r more)

-- With no fault so far, whatever comes decides; a fault is that of each text that begins with the bytes fed.
abbrev pub HasReadAs : Option MeshFault → List ℕ → Stage → Parts → Rest → Type 0
HasReadAs None fed s got r = Decides fed s got r
HasReadAs (Some e) fed s got r = IsFaultOfAll e fed

-- the reader was fed these bytes
unfoldable pub HasRead : List ℕ → MeshReader → Type 0
HasRead fed reader = HasReadAs reader.failed fed reader.stage reader.got reader.tokens

-- how many bytes of a text a reader has gone through or still keeps
unfoldable pub fed_len : MeshReader → ℕ
fed_len reader = reader.tokens.place + length reader.tokens.bytes
