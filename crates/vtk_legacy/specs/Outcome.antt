-- How what a reader answers follows from what a text says.
use Rattle.std.specs.Prelude.{◌≡◌, ℕ, ◌++◌, List, Result, Ok, Err}
use Rattle.vtk_legacy.specs.declared.fault.MeshFault.{MeshFault}
use Rattle.vtk_legacy.specs.declared.fault.MeshFault.TheVariants as errors
use Rattle.vtk_legacy.specs.MeshText.{Fault, fault, mesh_text}

-- a fault is the one that was to be read, unless memory ran out
abbrev pub IsFault : {Y : Type 0} → MeshFault → Result Y Fault → Type 0
IsFault errors.NoMemory read = Unit {0}
IsFault (errors.Bad kind place) read = read ≡ Err (fault kind place)

-- what a call returned is what was to be read, unless memory ran out
abbrev pub Agrees : {X Y : Type 0} → (X → Y) → Result X MeshFault → Result Y Fault → Type 0
Agrees view (Ok x) read = read ≡ Ok (view x)
Agrees view (Err e) read = IsFault e read

-- a fault of each text that begins with these bytes
abbrev pub IsFaultOfAll : MeshFault → List ℕ → Type 0
IsFaultOfAll e bytes = (more : List ℕ) → IsFault e (mesh_text (bytes ++ more))
