-- The lines that are written, each ended by a line feed.
use Rattle.std.specs.Prelude.{ℕ, List, [], ◌∷◌, ◌++◌, length, codes}
use Rattle.std.specs.Fmt.{decimal}
use Rattle.oct_text.specs.Printing.{list_spelling}
use Rattle.vtk_legacy.specs.declared.fault.MeshKind.{MeshKind}
use Rattle.vtk_legacy.specs.Kinds.{name_of}
use Rattle.run_script.specs.declared.fault.ScriptKind.{ScriptKind}
use Rattle.mesh_base.specs.declared.answer.Route.{Route}
use Rattle.mesh_base.specs.declared.answer.Route.TheVariants as routes
use Rattle.run_script.specs.Kinds as scripts

-- the text with a line feed behind it
abbrev pub line : List ℕ → List ℕ
line text = text ++ 10 ∷ []

abbrev pub usage_line : List ℕ
usage_line = line (codes "refused usage")

abbrev pub long_mesh_line : List ℕ
long_mesh_line = line (codes "refused long mesh")

-- the kind of the fault by its name, and its place in the file, counted in bytes from 0
abbrev pub mesh_line : MeshKind → ℕ → List ℕ
mesh_line kind place = line (codes "refused mesh " ++ name_of kind ++ 32 ∷ [] ++ decimal place)

abbrev pub long_script_line : List ℕ
long_script_line = line (codes "refused long script")

-- the kind of the fault by its name, and the line of the script where it is, counted from 1
abbrev pub script_line : ScriptKind → ℕ → List ℕ
script_line kind place = line (codes "refused script " ++ scripts.name_of kind ++ 32 ∷ [] ++ decimal place)

-- the step that was asked for, and the number of the last one
abbrev pub no_step_line : ℕ → ℕ → List ℕ
no_step_line step last = line (codes "refused step " ++ decimal step ++ 32 ∷ [] ++ decimal last)

-- a line of the numbers with single spaces, and no line where there is no number
abbrev pub list_line : List ℕ → List ℕ
list_line [] = []
list_line (n ∷ ns) = line (list_spelling (n ∷ ns))

-- how many numbers there are, and the numbers
abbrev pub list_text : List ℕ → List ℕ
list_text numbers = line (codes "count " ++ decimal (length numbers)) ++ list_line numbers

abbrev pub route_word : Route → List ℕ
route_word routes.Probe = codes "probe"
route_word routes.Walk = codes "walk"
route_word routes.Scan = codes "scan"

-- how the answer was found, and the list of its vertices
abbrev pub answer_text : Route → List ℕ → List ℕ
answer_text route vertices = line (codes "route " ++ route_word route) ++ list_text vertices
