-- The text that is written of a mesh, line by line, and the mesh that it stands for.
use Rattle.std.specs.Prelude.{ℕ, ◌*◌, List, [], ◌∷◌, ◌++◌, length, map, Option, Some, codes, flat_map, decimal}
use Rattle.std.specs.Fmt.{signed_decimal}
use Rattle.std.specs.List.{join_with_byte, repeat}
use Rattle.mesh_base.specs.Mesh.{MeshView, Corners, live}
use Rattle.mesh_base.specs.Place.{Place}

-- a line: its words, with one space between each two, and an LF
abbrev pub line : List (List ℕ) → List ℕ
line words = join_with_byte 32 words ++ 10 ∷ []

-- the lines that each mesh text begins with
abbrev pub first_lines : List (List (List ℕ))
first_lines =
    (codes "# vtk DataFile Version 3.0" ∷ [])
    ∷ (codes "octopus mesh" ∷ [])
    ∷ (codes "ASCII" ∷ [])
    ∷ (codes "DATASET" ∷ codes "UNSTRUCTURED_GRID" ∷ [])
    ∷ []

-- the three coordinates of a point
abbrev pub point_line : Place → List (List ℕ)
point_line p = signed_decimal p.0 ∷ signed_decimal p.1 ∷ signed_decimal p.2 ∷ []

-- POINTS with their number, and a line for each
abbrev pub point_lines : List Place → List (List (List ℕ))
point_lines points = (codes "POINTS" ∷ decimal (length points) ∷ codes "int" ∷ []) ∷ map point_line points

-- how many corners a cell has, and their numbers
abbrev pub cell_line : Corners → List (List ℕ)
cell_line c = codes "4" ∷ decimal c.0 ∷ decimal c.1 ∷ decimal c.2 ∷ decimal c.3 ∷ []

-- CELLS with their number and how many numbers follow, and a line for each
abbrev pub cell_lines : List Corners → List (List (List ℕ))
cell_lines cells = (codes "CELLS" ∷ decimal (length cells) ∷ decimal (5 * length cells) ∷ []) ∷ map cell_line cells

-- CELL_TYPES with the number of the cells, and for each the line with the type of a tetrahedron
abbrev pub type_lines : List Corners → List (List (List ℕ))
type_lines cells = (codes "CELL_TYPES" ∷ decimal (length cells) ∷ []) ∷ map (λ _. codes "10" ∷ []) cells

-- all lines, each as its words: of the cells only the live ones, in their order
abbrev pub mesh_lines : MeshView → List (List (List ℕ))
mesh_lines mesh = first_lines ++ (point_lines mesh.points
    ++ (cell_lines (live mesh.cells) ++ type_lines (live mesh.cells)))

-- the text that is written of a mesh
unfoldable pub mesh_spelling : MeshView → List ℕ
mesh_spelling mesh = flat_map line (mesh_lines mesh)

-- ---- the same text in parts, of which the cells may come chunk by chunk

-- what stands in front of the cells
abbrev pub points_spelling : List Place → List ℕ
points_spelling points = flat_map line (first_lines ++ point_lines points)

-- the line in front of so many live cells
abbrev pub count_spelling : ℕ → List ℕ
count_spelling count = line (codes "CELLS" ∷ decimal count ∷ decimal (5 * count) ∷ [])

-- these cells, of which the absent ones have no line
abbrev pub cells_spelling : List (Option Corners) → List ℕ
cells_spelling cells = flat_map line (map cell_line (live cells))

-- the types of so many live cells
abbrev pub types_spelling : ℕ → List ℕ
types_spelling count = line (codes "CELL_TYPES" ∷ decimal count ∷ []) ++ repeat count (line (codes "10" ∷ []))

-- the same mesh, but only with its live cells: these are numbered anew, in their order
abbrev pub without_absent : MeshView → MeshView
without_absent mesh = record { points = mesh.points; cells = map (λ c. Some c) (live mesh.cells) }
