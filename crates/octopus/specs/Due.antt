-- What the program owes for its words and for the files that there are: the first cause that applies.
use Rattle.std.specs.Prelude.{ℕ, ◌^◌, nat_lt, if◌then◌else◌, List, length, Option, Some, None, Result, Ok, Err}
use Rattle.oct_edge.specs.Outside.{Files}
use Rattle.mesh_base.specs.Place.{Area}
use Rattle.mesh_base.specs.Mesh.{MeshView, surface}
use Rattle.mesh_base.specs.Query.{scan, route, answer}
use Rattle.vtk_legacy.specs.Readings.{Fault}
use Rattle.vtk_legacy.specs.MeshText.{mesh_text}
use Rattle.vtk_legacy.specs.Written.{mesh_spelling}
use Rattle.run_script.specs.Faults as scripts
use Rattle.run_script.specs.Scripts.{ScriptView}
use Rattle.script_format.specs.ScriptText.{script_text}
use Rattle.script_format.specs.Printed.{script_spelling}
use Rattle.run_script.specs.Jobs.{JobView, steps, step_at, checked}
use Rattle.command_words.specs.declared.words.Command.{Command}
use Rattle.cell_box.specs.Cells.{cells_by}
use Rattle.command_words.specs.declared.words.Command.TheVariants.{Scan, Surface, Gen, Step, Upgrade, Box, Cells, Rings}
use Rattle.octopus.specs.declared.refusal.Refusal.{Refusal}
use Rattle.octopus.specs.declared.refusal.Refusal.TheVariants as refusals
use Rattle.sample_meshes.specs.Block.{block}
use Rattle.command_words.specs.declared.words.Played.{Played}
use Rattle.command_words.specs.declared.words.Played.TheVariants.{Run, Demo, Watch}
use Rattle.command_words.specs.Words.{command_of, played_of}
use Rattle.octopus.specs.Demo.{demo_text}
use Rattle.octopus.specs.Lines.{list_text, answer_text}

-- a file that is not there, a refusal, a text, the rings of a box on a mesh up to so many edges, or the report or the
-- watches of a job that is played
pub data Due : Type 0 where
  Missing : Due
  Refuse : Refusal → Due
  Text : List ℕ → Due
  Round : MeshView → Area → ℕ → Due
  Play : JobView → Due
  Watched : JobView → Due

-- the most bytes of a mesh file
abbrev pub mesh_limit : ℕ
mesh_limit = 2 ^ 30

abbrev pub on_mesh : Result MeshView Fault → (MeshView → Due) → Due
on_mesh (Ok mesh) go = go mesh
on_mesh (Err fault) go = Refuse (refusals.Mesh fault.kind fault.place)

-- what is due for a mesh file, where `go` says it of the mesh: first its length counts, then its first fault
abbrev pub with_mesh : Option (List ℕ) → (MeshView → Due) → Due
with_mesh None go = Missing
with_mesh (Some text) go = if nat_lt mesh_limit (length text) then Refuse refusals.LongMesh
    else on_mesh (mesh_text text) go

-- the most bytes of a script
abbrev pub script_limit : ℕ
script_limit = 2 ^ 26

abbrev pub on_script : {A : Type 0} → Result A scripts.Fault → (A → Due) → Due
on_script (Ok script) go = go script
on_script (Err fault) go = Refuse (refusals.Script fault.kind fault.line)

-- what is due for a script, where `go` says it of what the script says
abbrev pub with_script : Option (List ℕ) → (ScriptView → Due) → Due
with_script None go = Missing
with_script (Some text) go = if nat_lt script_limit (length text) then Refuse refusals.LongScript
    else on_script (script_text text) go

-- what is due for a mesh file and a script, where `go` says it of the job: the script counts once the mesh is accepted
abbrev pub with_job : Option (List ℕ) → Option (List ℕ) → (JobView → Due) → Due
with_job mesh_file script_file go = with_mesh mesh_file
    (λ mesh. with_script script_file (λ script. on_script (checked mesh script) go))

-- what is due for step k of a job
abbrev pub step_due : ℕ → JobView → Due
step_due k job = if nat_lt (steps job) k then Refuse (refusals.NoStep k (steps job))
    else Text (mesh_spelling (step_at job k))

-- the script in version 2
abbrev pub upgraded : ScriptView → ScriptView
upgraded script = record script { version = 2 }

-- what is due for a command, where its files are named by their bytes
abbrev pub due_of : Option (Command (List ℕ)) → Files → Due
due_of None files = Refuse refusals.Usage
due_of (Some (Scan name area)) files = with_mesh (files name) (λ mesh. Text (list_text (scan mesh area)))
due_of (Some (Surface name)) files = with_mesh (files name) (λ mesh. Text (list_text (surface mesh)))
due_of (Some (Gen side)) files = Text (mesh_spelling (block side))
due_of (Some (Step name script k)) files = with_job (files name) (files script) (step_due k)
due_of (Some (Upgrade name)) files = with_script (files name) (λ script. Text (script_spelling (upgraded script)))
due_of (Some (Box name area)) files = with_mesh (files name)
    (λ mesh. Text (answer_text (route mesh area) (answer mesh area)))
due_of (Some (Cells name area how)) files = with_mesh (files name)
    (λ mesh. Text (answer_text (route mesh area) (cells_by how mesh (answer mesh area))))
due_of (Some (Rings name area most)) files = with_mesh (files name) (λ mesh. Round mesh area most)

-- what is due for these words and these files
unfoldable pub due : List (List ℕ) → Files → Due
due words files = due_of (command_of words) files

-- what is due whatever the files are, where the words alone decide
abbrev pub due_of_words : Option (Command (List ℕ)) → Option Due
due_of_words None = Some (Refuse refusals.Usage)
due_of_words (Some (Gen side)) = Some (Text (mesh_spelling (block side)))
due_of_words (Some _) = None

-- ---- with threads

-- what is due for what is played: the report or the watches of the job, or the summary of a demo
abbrev pub due_of_played : Played (List ℕ) → Files → Due
due_of_played (Run mesh script) files = with_job (files mesh) (files script) Play
due_of_played (Demo side seed) files = Text (demo_text side seed)
due_of_played (Watch mesh script) files = with_job (files mesh) (files script) Watched

abbrev pub due_played : Option (Played (List ℕ)) → List (List ℕ) → Files → Due
due_played None words files = due words files
due_played (Some played) words files = due_of_played played files

-- what is due for these words and these files where threads may be used
unfoldable pub due_with_threads : List (List ℕ) → Files → Due
due_with_threads words files = due_played (played_of words) words files

-- what is due whatever the files are, where the words alone decide
abbrev pub due_of_played_words : Played (List ℕ) → Option Due
due_of_played_words (Run mesh script) = None
due_of_played_words (Demo side seed) = Some (Text (demo_text side seed))
due_of_played_words (Watch mesh script) = None

abbrev pub due_played_at_once : Option (Played (List ℕ)) → List (List ℕ) → Option Due
due_played_at_once None words = due_of_words (command_of words)
due_played_at_once (Some played) words = due_of_played_words played

abbrev pub due_at_once : List (List ℕ) → Option Due
due_at_once words = due_played_at_once (played_of words) words
