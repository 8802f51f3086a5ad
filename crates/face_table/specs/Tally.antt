-- how often each face is counted, and which vertices are on a face of count one
use Rattle.std.specs.Prelude.{◌≡◌, ℕ, ◌-◌, ◌<◌, ◌==◌, Bool, true, false, ◌&&◌, List, length, slice_index, sum_by, unwrap_or, Contains, Vec, vec_capacity, ◌↔◌, ◌≤◌, Option, Some, if◌then◌else◌}
use Rattle.std.specs.List.Sorted.{IsStrictlyIncreasing}
use Rattle.std.specs.Map.{lookup}
use Rattle.std.specs.declared.alloc.Global.{Global}
use Rattle.mesh_base.specs.Mesh.{Face, Corners, is_on, is_vertex, face_eq, face_count}
use Rattle.mesh_base.specs.Edit.{cell_at}
use Rattle.mesh_base.specs.Limits.{most_cells}

-- faces with their counts, each face once
abbrev pub Counts : Type 0
Counts = List (Face × ℕ)

-- what counts show: the counted faces with their counts, and for how many faces more there is room
pub record CountsView : Type 0 where
  pub entries : Counts
  pub spare : ℕ

-- the count of a face, or 0
abbrev pub tally_in : Counts → Face → ℕ
tally_in counts f = unwrap_or (lookup (face_eq f) counts) 0

-- 1 where v is on the face and the face is counted once
abbrev pub single_share : ℕ → Face × ℕ → ℕ
single_share v e = if (e.1 == 1) && is_on e.0 v then 1 else 0

-- how many faces of count one v is on
abbrev pub single_count : Counts → ℕ → ℕ
single_count counts v = sum_by (single_share v) counts

-- each number is how many faces of count one that vertex is on, and no face has a number past their end
abbrev pub AreSingles : Counts → List ℕ → Type 0
AreSingles counts singles = (v : ℕ) → slice_index singles v ≡ single_count counts v

-- each number of a counted face is below n
abbrev pub AreFacesBelow : ℕ → Counts → Type 0
AreFacesBelow n counts = (f : Face) (v : ℕ) → 0 < tally_in counts f → is_on f v ≡ true → v < n

-- an ascending list of numbers below n, with room for n of them
pub record IsBelow (n : ℕ) (surface : Vec ℕ Global) : Type 0 where
  pub ascending : IsStrictlyIncreasing surface.items
  pub below : (w : ℕ) → Contains surface.items w → w < n
  pub room : n ≤ vec_capacity surface

-- v is listed exactly where it has a single face
abbrev pub Matches : List ℕ → List ℕ → ℕ → Type 0
Matches singles surface v = Contains surface v ↔ (0 < slice_index singles v)

-- what a table shows: the number of points, the counts of the faces, and whether it has room for a split
pub record Tally : Type 0 where
  pub points : ℕ
  pub counts : Counts
  pub ready : Bool

abbrev pub tally_of : Tally → Face → ℕ
tally_of table f = tally_in table.counts f

-- v is a point on a face that is counted once
abbrev pub IsOnSurface : Tally → ℕ → Type 0
IsOnSurface table v = (v < table.points) × ((f : Face) × (is_on f v ≡ true) × (tally_of table f ≡ 1))

-- the table's lists agree with its counts, and the counted faces have no numbers but those of points
pub record IsFaceTable (counts : Counts) (singles : List ℕ) (surface : Vec ℕ Global) : Type 0 where
  pub exact : AreSingles counts singles
  pub within : AreFacesBelow (length singles) counts
  pub below : IsBelow (length singles) surface
  pub all : (w : ℕ) → Matches singles surface.items w

-- room for a point and six faces more
pub record HasSplitRoom (counts : CountsView) (singles : Vec ℕ Global) (surface : Vec ℕ Global) : Type 0 where
  pub faces : 6 ≤ counts.spare
  pub numbers : length singles.items < vec_capacity singles
  pub listed : length singles.items < vec_capacity surface

-- the table counts the faces of these cells
abbrev pub IsTallyOf : List (Option Corners) → Tally → Type 0
IsTallyOf cells table = (f : Face) → tally_of table f ≡ face_count cells f

-- the table counts the faces of some cells, and this is a live one of them
abbrev pub HasCell : Tally → Corners → Type 0
HasCell table c = (cells : List (Option Corners)) × (i : ℕ) × IsTallyOf cells table × (cell_at cells i ≡ Some c)

-- the table counts the faces of so few cells that one more is allowed
abbrev pub HasRoom : Tally → Type 0
HasRoom table = (cells : List (Option Corners)) × IsTallyOf cells table × (length cells < most_cells)

-- the table counts the faces of some cells, none of which has the last point
abbrev pub HasFreePoint : Tally → Type 0
HasFreePoint table = (cells : List (Option Corners)) × IsTallyOf cells table
    × (is_vertex cells (table.points - 1) ≡ false)
