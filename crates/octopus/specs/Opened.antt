-- How many files a command opens at most, and how far a file is read that is too long.
use Rattle.std.specs.Prelude.{◌≡◌, ℕ, ◌+◌, Bool, true, false, nat_lt, if◌then◌else◌, List, ◌++◌, length, Option, Some, None, IfSome, Result, Ok, Err}
use Rattle.oct_edge.specs.Outside.{Files}
use Rattle.mesh_base.specs.Mesh.{MeshView}
use Rattle.vtk_legacy.specs.Readings.{Fault}
use Rattle.vtk_legacy.specs.MeshText.{mesh_text}
use Rattle.command_words.specs.declared.words.Command.{Command}
use Rattle.command_words.specs.declared.words.Command.TheVariants.{Scan, Surface, Gen, Step, Upgrade, Box, Cells, Rings}
use Rattle.command_words.specs.declared.words.Played.{Played}
use Rattle.command_words.specs.declared.words.Played.TheVariants.{Run, Demo, Watch}
use Rattle.octopus.specs.declared.refusal.Refusal.{Refusal}
use Rattle.octopus.specs.declared.refusal.Refusal.TheVariants.{Usage, LongMesh, Mesh, LongScript, Script, NoStep}
use Rattle.command_words.specs.Words.{command_of, played_of}
use Rattle.octopus.specs.declared.status.Status.{Status}
use Rattle.octopus.specs.declared.status.Status.TheVariants.{TooLong}
use Rattle.octopus.specs.Due.{Due, Refuse, mesh_limit, script_limit}

abbrev pub is_mesh : Result MeshView Fault → Bool
is_mesh (Ok mesh) = true
is_mesh (Err fault) = false

-- the file is there, is not too long, and has no fault
abbrev pub accepted : Option (List ℕ) → Bool
accepted None = false
accepted (Some text) = if nat_lt mesh_limit (length text) then false else is_mesh (mesh_text text)

-- for a mesh and a script: the script is opened only where the mesh is accepted
abbrev pub most_of_job : Option Files → List ℕ → ℕ
most_of_job None mesh = 2
most_of_job (Some files) mesh = if accepted (files mesh) then 2 else 1

-- for a command, where its files are named by their bytes
abbrev pub most_of : Option (Command (List ℕ)) → Option Files → ℕ
most_of None files = 0
most_of (Some (Scan mesh area)) files = 1
most_of (Some (Surface mesh)) files = 1
most_of (Some (Gen side)) files = 0
most_of (Some (Step mesh script k)) files = most_of_job files mesh
most_of (Some (Upgrade script)) files = 1
most_of (Some (Box mesh area)) files = 1
most_of (Some (Cells mesh area how)) files = 1
most_of (Some (Rings mesh area most)) files = 1

-- the most files that are opened for these words
unfoldable pub most_opened : List (List ℕ) → Option Files → ℕ
most_opened words files = most_of (command_of words) files

abbrev pub most_of_played : Played (List ℕ) → Option Files → ℕ
most_of_played (Run mesh script) files = most_of_job files mesh
most_of_played (Demo side seed) files = 0
most_of_played (Watch mesh script) files = most_of_job files mesh

abbrev pub most_played : Option (Played (List ℕ)) → List (List ℕ) → Option Files → ℕ
most_played None words files = most_opened words files
most_played (Some played) words files = most_of_played played files

-- the most files that are opened for these words where threads may be used
unfoldable pub most_opened_with_threads : List (List ℕ) → Option Files → ℕ
most_opened_with_threads words files = most_played (played_of words) words files

-- the most bytes of a file that is refused as too long
abbrev pub limit_of : Refusal → ℕ
limit_of Usage = 0
limit_of LongMesh = mesh_limit
limit_of (Mesh kind place) = 0
limit_of LongScript = script_limit
limit_of (Script kind line) = 0
limit_of (NoStep step last) = 0

-- of one of the files exactly one byte past the limit was read, where `rest` is what is left of the current file
pub record IsReadPast (limit : ℕ) (files : Files) (rest : Option (List ℕ)) : Type 0 where
  pub name : List ℕ
  pub read : List ℕ
  pub left : List ℕ
  pub there : files name ≡ Some (read ++ left)
  pub count : length read ≡ limit + 1
  pub still : rest ≡ Some left

-- where a file is refused as too long, it was read so: `due` says what is due for the files
abbrev pub ReadsPast : Option Files → (Files → Due) → Status → Option (List ℕ) → Type 0
ReadsPast told due status rest =
    IfSome told (λ files. (why : Refusal) → due files ≡ Refuse why → status ≡ TooLong
    → IsReadPast (limit_of why) files rest)
