-- What a reader keeps of the parts that it has read.
use Rattle.std.specs.Prelude.{ℕ, zero, suc, ◌+◌, ◌-◌, ◌<◌, Bool, true, false, ◌==◌, nat_lt, if◌then◌else◌, not, ◌&&◌, List, [], ◌∷◌, ◌++◌, length, map, drop, Option, Some, None, Ok, slice_set, is_none}
use Rattle.std.specs.Str.Parse.{digits_value}
use Rattle.mesh_base.specs.Mesh.{Corners, corners_of}
use Rattle.mesh_base.specs.Place.{Place}
use Rattle.oct_text.specs.Numbers.{is_numeral}
use Rattle.oct_text.specs.Rest.{Left, Token}
use Rattle.vtk_legacy.specs.declared.gathered.CellForm.{CellForm}
use Rattle.vtk_legacy.specs.declared.gathered.CellRow.{CellRow}
use Rattle.vtk_legacy.specs.declared.gathered.Filling.{Filling}
use Rattle.vtk_legacy.specs.MeshText.{◌>>=◌, Read, Row, token, tested, known_type, size_fits, has_twins}

-- a cell whose type hasn't come: how many points it has, and the tetrahedron that it can be, which is one if it has
-- four different points
pub record Waiting : Type 0 where
  pub size : ℕ
  pub cell : Option Corners

-- the form of the cells, how many points the text says it has, the points, how many points the cells have whose numbers
-- are still to come, the cells whose types are still to come, and the tetrahedra among those whose types came
pub record Parts : Type 0 where
  pub form : CellForm
  pub number : ℕ
  pub points : List Place
  pub sizes : List ℕ
  pub rows : List Waiting
  pub cells : List (Option Corners)

abbrev pub nothing_in : CellForm → Parts
nothing_in f = record { form = f; number = 0; points = []; sizes = []; rows = []; cells = [] }

abbrev pub with_form : CellForm → Parts → Parts
with_form f got = record {
  form = f;
  number = got.number;
  points = got.points;
  sizes = got.sizes;
  rows = got.rows;
  cells = got.cells;
}

abbrev pub with_number : ℕ → Parts → Parts
with_number n got = record {
  form = got.form;
  number = n;
  points = got.points;
  sizes = got.sizes;
  rows = got.rows;
  cells = got.cells;
}

abbrev pub with_points : List Place → Parts → Parts
with_points ps got = record {
  form = got.form;
  number = got.number;
  points = got.points ++ ps;
  sizes = got.sizes;
  rows = got.rows;
  cells = got.cells;
}

abbrev pub with_sizes : List ℕ → Parts → Parts
with_sizes ss got = record {
  form = got.form;
  number = got.number;
  points = got.points;
  sizes = got.sizes ++ ss;
  rows = got.rows;
  cells = got.cells;
}

abbrev pub with_rows : List Waiting → Parts → Parts
with_rows rs got = record {
  form = got.form;
  number = got.number;
  points = got.points;
  sizes = got.sizes;
  rows = got.rows ++ rs;
  cells = got.cells;
}

abbrev pub with_cells : List (Option Corners) → Parts → Parts
with_cells cs got = record {
  form = got.form;
  number = got.number;
  points = got.points;
  sizes = got.sizes;
  rows = got.rows;
  cells = got.cells ++ cs;
}

-- ---- a cell that is read: how many points it has, and the first four

abbrev pub no_corners : List ℕ
no_corners = 0 ∷ 0 ∷ 0 ∷ 0 ∷ []

-- a row that has no number yet
abbrev pub empty_row : ℕ → CellRow
empty_row count = record { count = count; corners = no_corners }

-- a row with one more number
abbrev pub with_corner : CellRow → ℕ → ℕ → CellRow
with_corner row at p = record { count = row.count; corners = slice_set row.corners at p }

-- the corners with these numbers from place i on
abbrev pub filled : ℕ → List ℕ → List ℕ → List ℕ
filled i [] corners = corners
filled i (p ∷ ps) corners = filled (i + 1) ps (slice_set corners i p)

-- the tetrahedron of so many points
abbrev pub tetrahedron : ℕ → Corners → Option Corners
tetrahedron count c = if (count == 4) && not (has_twins c) then Some c else None

-- what is kept of a row that has its numbers
abbrev pub ended : CellRow → Waiting
ended row = record { size = row.count; cell = tetrahedron row.count (corners_of row.corners) }

-- what is kept of a cell
abbrev pub kept : Row → Waiting
kept row = ended (record { count = length row; corners = filled 0 row no_corners })

-- the row gets the last k of its numbers
unfoldable pub fill_last : ℕ → List ℕ → CellRow → CellRow
fill_last zero ps row = row
fill_last (suc k) [] row = row
fill_last (suc k) (p ∷ ps) row = fill_last k ps (with_corner row (row.count - k - 1) p)

abbrev pub with_last : ℕ → List ℕ → CellRow → Parts → Parts
with_last k ps row got = with_rows (ended (fill_last k ps row) ∷ []) got

-- ---- cells with offsets: their sizes come first, and then rows of these sizes are filled one after another

-- a size for each offset but the first
unfoldable pub offset_sizes : Bool → ℕ → List ℕ → List ℕ
offset_sizes first before [] = []
offset_sizes true before (o ∷ os) = offset_sizes false o os
offset_sizes false before (o ∷ os) = (o - before) ∷ offset_sizes false o os

-- a cell none of whose numbers came
abbrev pub bare : ℕ → Waiting
bare size = ended (empty_row size)

-- the size of the next cell that has points
abbrev pub next_size : List ℕ → ℕ
next_size [] = 0
next_size (zero ∷ sizes) = next_size sizes
next_size (suc n ∷ sizes) = suc n

-- the sizes behind it
abbrev pub behind_next : List ℕ → List ℕ
behind_next [] = []
behind_next (zero ∷ sizes) = behind_next sizes
behind_next (suc n ∷ sizes) = sizes

-- the cells before it, which have no points
abbrev pub passed : List ℕ → List Waiting
passed [] = []
passed (zero ∷ sizes) = bare 0 ∷ passed sizes
passed (suc n ∷ sizes) = []

abbrev pub with_next : Parts → Parts
with_next got = record {
  form = got.form;
  number = got.number;
  points = got.points;
  sizes = behind_next got.sizes;
  rows = got.rows ++ passed got.sizes;
  cells = got.cells;
}

-- a row that begins
abbrev pub fresh : ℕ → Filling
fresh size = record { row = empty_row size; at = 0 }

-- the row in work gets one more number
abbrev pub filled_here : Filling → ℕ → Filling
filled_here f p = record { row = with_corner f.row f.at p; at = f.at + 1 }

-- the row has room for one more number
abbrev pub has_room : Filling → Bool
has_room f = nat_lt f.at f.row.count

-- where a number was put: into the row in work, or where that is full into the next one
abbrev pub filling_after : Filling → ℕ → List ℕ → Filling
filling_after f p sizes = if has_room f then filled_here f p else filled_here (fresh (next_size sizes)) p

-- the row in work, where it is full, is a cell whose type is still to come, and the next one begins
abbrev pub got_after : Filling → Parts → Parts
got_after f got = if has_room f then got else with_next (with_rows (ended f.row ∷ []) got)

-- what becomes of the row in work and those behind it, as these numbers come
unfoldable pub put_from : Filling → List ℕ → List ℕ → List Waiting
put_from f [] sizes = ended f.row ∷ map bare sizes
put_from f (p ∷ ps) sizes =
    if has_room f then put_from (filled_here f p) ps sizes
    else ended f.row ∷ (passed sizes ++ put_from (filled_here (fresh (next_size sizes)) p) ps (behind_next sizes))

-- what becomes of all rows, where none has begun
abbrev pub begin_from : List ℕ → List ℕ → List Waiting
begin_from [] sizes = map bare sizes
begin_from (p ∷ ps) sizes = passed sizes ++ put_from (fresh (next_size sizes)) (p ∷ ps) (behind_next sizes)

-- these rows were filled, and no size is left
abbrev pub with_filled : List Waiting → Parts → Parts
with_filled rs got = record {
  form = got.form;
  number = got.number;
  points = got.points;
  sizes = [];
  rows = got.rows ++ rs;
  cells = got.cells;
}

-- ---- types

-- the cell whose type comes next
abbrev pub first_row : List Waiting → Waiting
first_row [] = bare 0
first_row (row ∷ rows) = row

abbrev pub typed_kept : Waiting → Token × Left → Read ℕ
typed_kept row t =
    let type = digits_value 10 t.0.text in
    tested (is_numeral t.0.text) (known_type type) (size_fits type row.size)
    (not ((type == 10) && is_none row.cell)) type t

-- a tetrahedron is one more cell of the mesh
abbrev pub with_kept : ℕ → Option Corners → List (Option Corners) × Left → Read (List (Option Corners))
with_kept type cell rest = Ok ((if type == 10 then cell ∷ rest.0 else rest.0), rest.1)

-- the types of the first k rows: the tetrahedra among them
unfoldable pub types_left : ℕ → List Waiting → Left → Read (List (Option Corners))
types_left zero rows l = Ok ([], l)
types_left (suc k) rows l = do
  type ← token l >>= typed_kept (first_row rows)
  rest ← types_left k (drop 1 rows) type.1
  with_kept type.0 (first_row rows).cell rest

-- the first row has its type: one more cell, or none
abbrev pub with_first_kept : Parts → Parts
with_first_kept got = record {
  form = got.form;
  number = got.number;
  points = got.points;
  sizes = got.sizes;
  rows = drop 1 got.rows;
  cells = got.cells ++ (first_row got.rows).cell ∷ [];
}

abbrev pub without_first : Parts → Parts
without_first got = record {
  form = got.form;
  number = got.number;
  points = got.points;
  sizes = got.sizes;
  rows = drop 1 got.rows;
  cells = got.cells;
}

-- each number is below n, the number of points
abbrev pub AreBelow : ℕ → List ℕ → Type 0
AreBelow n [] = Unit {0}
AreBelow n (p ∷ ps) = (p < n) × AreBelow n ps
