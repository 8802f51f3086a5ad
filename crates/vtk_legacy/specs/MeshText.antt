-- What a mesh text says: the mesh, or its first fault with its kind and byte place.
--
-- A mesh text is an unstructured grid in the VTK legacy file format ("VTK file formats", "Simple Legacy Formats"). Its
-- rules come one after another. Each reads from a place on, and gives what it read and what is left, or its first
-- fault; the first rule with a fault decides. Words are compared without regard to ASCII case, and tokens stand between
-- blanks of any kind, so that lines matter only for the version, the title and METADATA. The limits, which cells are a
-- mesh, and the end of METADATA are this project's own.
use Rattle.std.specs.Prelude.{ℕ, zero, suc, ◌+◌, ◌-◌, ◌*◌, Bool, true, false, not, ◌||◌, ◌&&◌, ◌==◌, nat_lt, nat_le, if◌then◌else◌, List, [], ◌∷◌, length, Option, Some, None, Result, Ok, Err, ℤ, codes, slice_range}
use Rattle.std.specs.Str.Parse.{digits_value}
use Rattle.mesh_base.specs.Mesh.{MeshView, Corners, corners_of}
use Rattle.mesh_base.specs.Place.{Place}
use Rattle.oct_text.specs.Rest.{Left, Token, next_token, beyond, end_of, is_blank, is_lf, after_line}
use Rattle.oct_text.specs.Line.{LineFront, IsLine, IsLong, NoLine, line_front}
use Rattle.oct_text.specs.Numbers.{is_numeral}
use Rattle.vtk_legacy.specs.declared.fault.MeshKind.TheVariants as kinds
use Rattle.vtk_legacy.specs.declared.gathered.CellForm.{CellForm}
use Rattle.vtk_legacy.specs.declared.gathered.CellForm.TheVariants as form
use Rattle.vtk_legacy.specs.Words.{word_is}
use Rattle.vtk_legacy.specs.Version.{has_magic, behind_magic, version_form}
pub use Rattle.vtk_legacy.specs.Readings.{Fault, fault, ◌>>=◌, Read, with_first, or_truncated, token, expected, expect, counted, count_taken, count, most_count, placed, coordinate_taken, coordinate, numeric_taken, numeric}
use Rattle.mesh_base.specs.Limits.{most_cells, most_points}

-- ---- blocks to pass over: any number of FIELD and METADATA

-- so many tokens, whatever they are
unfoldable pub skip : ℕ → Left → Result Left Fault
skip zero l = Ok l
skip (suc n) l = do
  t ← token l
  skip n t.1

-- one array of a FIELD: its name, how many components and tuples, the type, and the values
abbrev pub array : Left → Result Left Fault
array l = do
  name ← token l
  components ← count most_count name.1
  tuples ← count most_count components.1
  values ← numeric kinds.Field tuples.1
  skip (components.0 * tuples.0) values

-- so many arrays
unfoldable pub arrays : ℕ → Left → Result Left Fault
arrays zero l = Ok l
arrays (suc n) l = do
  rest ← array l
  arrays n rest

-- what stands behind the word FIELD
abbrev pub field : Left → Result Left Fault
field l = do
  name ← token l
  n ← count most_count name.1
  arrays n.0 n.1

-- how many bytes there are up to the end of the first line of blanks, where `blank` says whether the line so far is
abbrev pub blank_line_len : Bool → List ℕ → ℕ
blank_line_len blank [] = 0
blank_line_len blank (b ∷ bs) = 1 + (if is_lf b then (if blank then 0 else blank_line_len true bs)
    else blank_line_len (blank && is_blank b) bs)

abbrev pub after_blank_line : Left → Left
after_blank_line l = beyond (blank_line_len true l.bytes) l

-- what stands behind the word METADATA: the rest of its line, and lines up to one of blanks, or up to the end
abbrev pub metadata : Left → Left
metadata l = after_blank_line (after_line l)

-- a block, where one begins here, and what `again` reads behind it
abbrev pub on_block : Option (Token × Left) → Left → (Left → Result Left Fault) → Result Left Fault
on_block None l again = Ok l
on_block (Some t) l again =
    if word_is t.0.text (codes "field") then field t.1 >>= again
    else if word_is t.0.text (codes "metadata") then again (metadata t.1)
    else Ok l

-- at most n blocks
unfoldable pub blocks_within : ℕ → Left → Result Left Fault
blocks_within zero l = Ok l
blocks_within (suc n) l = on_block (next_token l) l (blocks_within n)

-- any number of blocks: no more than there are bytes
abbrev pub blocks : Left → Result Left Fault
blocks l = blocks_within (suc (length l.bytes)) l

-- ---- rule 1: the line `# vtk DataFile Version x.x`, of at most 256 bytes
-- Versions 1 to 4 have their cells with counts, and 5.1 with offsets; another version is a fault behind the 23 bytes in front of it.

abbrev pub versioned : Left → Option CellForm → Read CellForm
versioned l (Some f) = Ok (f, after_line l)
versioned l None = Err (fault kinds.Version 23)

abbrev pub version_front : Left → LineFront → Read CellForm
version_front l (IsLine line) = if has_magic line then versioned l (version_form (behind_magic line))
    else Err (fault kinds.Magic 0)
version_front l IsLong = Err (fault kinds.Magic 0)
version_front l NoLine = Err (fault kinds.Truncated (end_of l))

abbrev pub version : Left → Read CellForm
version l = version_front l (line_front 256 l.bytes)

-- ---- rule 2: the title, a line of at most 256 bytes, whatever they are

abbrev pub title_front : Left → LineFront → Result Left Fault
title_front l (IsLine line) = Ok (after_line l)
title_front l IsLong = Err (fault kinds.Title l.place)
title_front l NoLine = Err (fault kinds.Truncated (end_of l))

abbrev pub title : Left → Result Left Fault
title l = title_front l (line_front 256 l.bytes)

-- ---- rule 3: ASCII; binary data are not read

abbrev pub format_taken : Token × Left → Result Left Fault
format_taken t =
    if word_is t.0.text (codes "ascii") then Ok t.1
    else if word_is t.0.text (codes "binary") then Err (fault kinds.Binary t.0.place)
    else Err (fault kinds.Format t.0.place)

abbrev pub format : Left → Result Left Fault
format l = token l >>= format_taken

-- ---- rule 4: DATASET UNSTRUCTURED_GRID

abbrev pub dataset : Left → Result Left Fault
dataset l = do
  word ← expect (codes "dataset") kinds.Keyword l
  expect (codes "unstructured_grid") kinds.DataSet word

-- ---- rule 5: POINTS n type, of at most 1,000,000, and 3n coordinates

abbrev pub point_of : ℤ → ℤ → ℤ × Left → Read Place
point_of x y z = Ok ((x, y, z.0), z.1)

abbrev pub point : Left → Read Place
point l = do
  x ← coordinate l
  y ← coordinate x.1
  z ← coordinate y.1
  point_of x.0 y.0 z

-- so many points
unfoldable pub places : ℕ → Left → Read (List Place)
places zero l = Ok ([], l)
places (suc n) l = do
  p ← point l
  ps ← places n p.1
  with_first p.0 ps

abbrev pub points : Left → Read (List Place)
points l = do
  word ← blocks l
  after ← expect (codes "points") kinds.Keyword word
  n ← count most_points after
  type ← numeric kinds.Keyword n.1
  places n.0 type

-- ---- rule 6: CELLS, of which there are at most 4,000,000, each a list of numbers of points

abbrev pub Row : Type 0
Row = List ℕ

-- a point number: a count that is below n
abbrev pub indexed : ℕ → Token × Left → Read ℕ
indexed n t =
    if not (is_numeral t.0.text) then Err (fault kinds.Number t.0.place)
    else if not (nat_lt (digits_value 10 t.0.text) n) then Err (fault kinds.Index t.0.place)
    else Ok (digits_value 10 t.0.text, t.1)

-- so many point numbers
unfoldable pub indices : ℕ → ℕ → Left → Read Row
indices n zero l = Ok ([], l)
indices n (suc k) l = do
  p ← token l >>= indexed n
  ps ← indices n k p.1
  with_first p.0 ps

-- the count in front of a cell, where `room` is what is left of the whole size
abbrev pub head_sized : ℕ → Token × Left → ℕ × Left → Read ℕ
head_sized room t c = if nat_lt room (1 + c.0) then Err (fault kinds.Size t.0.place) else Ok c

abbrev pub head_taken : ℕ → Token × Left → Read ℕ
head_taken room t = count_taken most_count t >>= head_sized room t

-- what is left of the size behind the last cell is nothing; `place` is that of the size
abbrev pub filled_up : ℕ → ℕ → Left → Read (List Row)
filled_up room place l = if room == 0 then Ok ([], l) else Err (fault kinds.Size place)

-- m cells over n points, each behind its count; 1 and the count of each sum up to `room`, as the format has it
unfoldable pub counted_rows : ℕ → ℕ → ℕ → ℕ → Left → Read (List Row)
counted_rows n zero room place l = filled_up room place l
counted_rows n (suc m) room place l = do
  c ← token l >>= head_taken room
  row ← indices n c.0 c.1
  rows ← counted_rows n m (room - (1 + c.0)) place row.1
  with_first row.0 rows

-- CELLS m size, in versions 1 to 4, and the cells
abbrev pub counted_cells : ℕ → Left → Read (List Row)
counted_cells n l = do
  m ← count most_cells l
  t ← token m.1
  size ← count_taken most_count t
  counted_rows n m.0 size.0 t.0.place size.1

-- an offset is at least the one before it and at most b; the first is 0, the last is b
abbrev pub offset_fits : Bool → Bool → ℕ → ℕ → ℕ → Bool
offset_fits first last before b o = (if first then o == 0 else nat_le before o) && nat_le o b
    && (if last then o == b else true)

abbrev pub offset_sized : Bool → Bool → ℕ → ℕ → Token × Left → ℕ × Left → Read ℕ
offset_sized first last before b t o = if offset_fits first last before b o.0 then Ok o
    else Err (fault kinds.Size t.0.place)

abbrev pub offset_taken : Bool → Bool → ℕ → ℕ → Token × Left → Read ℕ
offset_taken first last before b t = count_taken most_count t >>= offset_sized first last before b t

-- so many offsets, the last of which is b
unfoldable pub offsets : ℕ → Bool → ℕ → ℕ → Left → Read (List ℕ)
offsets zero first before b l = Ok ([], l)
offsets (suc more) first before b l = do
  o ← token l >>= offset_taken first (more == 0) before b
  os ← offsets more false o.0 b o.1
  with_first o.0 os

-- the numbers from each offset up to the next one
abbrev pub rows_from : List ℕ → ℕ → List ℕ → List Row
rows_from numbers o [] = []
rows_from numbers o (next ∷ os) = slice_range numbers o next ∷ rows_from numbers next os

-- no cell without an offset
abbrev pub rows_of : List ℕ → List ℕ → List Row
rows_of numbers [] = []
rows_of numbers (o ∷ os) = rows_from numbers o os

abbrev pub cut_by : List ℕ → List ℕ × Left → Read (List Row)
cut_by os numbers = Ok (rows_of numbers.0 os, numbers.1)

-- what stands behind the word OFFSETS
abbrev pub offset_rows : ℕ → ℕ → ℕ → Left → Read (List Row)
offset_rows n a b l = do
  type ← numeric kinds.Keyword l
  os ← offsets a true 0 b type
  word ← blocks os.1
  after ← expect (codes "connectivity") kinds.Keyword word
  second ← numeric kinds.Keyword after
  numbers ← indices n b second
  cut_by os.0 numbers

-- without offsets the word OFFSETS may be missing
abbrev pub maybe_offsets : ℕ → Option (Token × Left) → Left → Read (List Row)
maybe_offsets n None l = Ok ([], l)
maybe_offsets n (Some t) l = if word_is t.0.text (codes "offsets") then offset_rows n 0 0 t.1 else Ok ([], l)

-- how many numbers, of which there are none without offsets
abbrev pub numbers_taken : ℕ → Token × Left → ℕ × Left → Read ℕ
numbers_taken a t b = if (a == 0) && not (b.0 == 0) then Err (fault kinds.Size t.0.place) else Ok b

-- CELLS a b, in version 5.1: a offsets, one more than there are cells, and b numbers
abbrev pub offset_cells : ℕ → Left → Read (List Row)
offset_cells n l = do
  a ← count 4000001 l
  t ← token a.1
  counts ← count_taken most_count t
  b ← numbers_taken a.0 t counts
  if a.0 == 0 then maybe_offsets n (next_token b.1) b.1
      else (expect (codes "offsets") kinds.Keyword b.1 >>= offset_rows n a.0 b.0)

abbrev pub cells_in : CellForm → ℕ → Left → Read (List Row)
cells_in form.Counts n l = counted_cells n l
cells_in form.Offsets n l = offset_cells n l

abbrev pub cells : CellForm → ℕ → Left → Read (List Row)
cells f n l = do
  word ← blocks l
  after ← expect (codes "cells") kinds.Keyword word
  cells_in f n after

-- ---- rule 7: CELL_TYPES m, and a type for each cell; those of type 10 are the tetrahedra, which are the cells of the mesh

-- how many points a cell of this type has, where it is fixed
abbrev pub size_fits : ℕ → ℕ → Bool
size_fits type size =
    if type == 1 then size == 1
    else if type == 3 then size == 2
    else if type == 5 then size == 3
    else if (type == 8) || (type == 9) || (type == 10) then size == 4
    else true

-- two of four numbers are equal
abbrev pub has_twins : Corners → Bool
has_twins c = (c.0 == c.1) || (c.0 == c.2) || (c.0 == c.3) || (c.1 == c.2) || (c.1 == c.3) || (c.2 == c.3)

-- a type, by its tests: a count, from 1 to 10, with the right number of points, and four that differ for a tetrahedron
abbrev pub tested : Bool → Bool → Bool → Bool → ℕ → Token × Left → Read ℕ
tested numeral known fits differ type t =
    if not numeral then Err (fault kinds.Number t.0.place)
    else if not known then Err (fault kinds.CellType t.0.place)
    else if not fits then Err (fault kinds.CellSize t.0.place)
    else if not differ then Err (fault kinds.SameVertex t.0.place)
    else Ok (type, t.1)

-- the types from vertex to tetrahedron
abbrev pub known_type : ℕ → Bool
known_type type = nat_lt 0 type && nat_lt type 11

-- the type of a cell with so many points, the first four of which are these
abbrev pub typed_as : ℕ → Corners → Token × Left → Read ℕ
typed_as size corners t =
    let type = digits_value 10 t.0.text in
    tested (is_numeral t.0.text) (known_type type) (size_fits type size)
    (not ((type == 10) && has_twins corners)) type t

abbrev pub typed : Row → Token × Left → Read ℕ
typed row = typed_as (length row) (corners_of row)

-- a tetrahedron is one more cell of the mesh
abbrev pub with_cell : ℕ → Corners → List (Option Corners) × Left → Read (List (Option Corners))
with_cell type corners rest = Ok ((if type == 10 then Some corners ∷ rest.0 else rest.0), rest.1)

-- the types of these cells: the tetrahedra among them
unfoldable pub types : List Row → Left → Read (List (Option Corners))
types [] l = Ok ([], l)
types (row ∷ rows) l = do
  type ← token l >>= typed row
  rest ← types rows type.1
  with_cell type.0 (corners_of row) rest

abbrev pub same_count : ℕ → Token × Left → ℕ × Left → Result Left Fault
same_count m t k = if k.0 == m then Ok k.1 else Err (fault kinds.Count t.0.place)

-- the number of the cells again
abbrev pub count_again : ℕ → Token × Left → Result Left Fault
count_again m t = count_taken most_count t >>= same_count m t

abbrev pub cell_types : List Row → Left → Read (List (Option Corners))
cell_types rows l = do
  word ← blocks l
  after ← expect (codes "cell_types") kinds.Keyword word
  first ← token after >>= count_again (length rows)
  types rows first

-- ---- rule 8: the end, or POINT_DATA or CELL_DATA, behind which everything is passed over

abbrev pub ends : MeshView → Option (Token × Left) → Result MeshView Fault
ends mesh None = Ok mesh
ends mesh (Some t) = if word_is t.0.text (codes "point_data")
    || word_is t.0.text (codes "cell_data") then Ok mesh else Err (fault kinds.Keyword t.0.place)

abbrev pub attributes : MeshView → Left → Result MeshView Fault
attributes mesh l = do
  rest ← blocks l
  ends mesh (next_token rest)

-- ---- the whole text

abbrev pub whole_text : List ℕ → Left
whole_text text = record { place = 0; bytes = text }

abbrev pub mesh_of : List Place → List (Option Corners) → MeshView
mesh_of points cells = record { points = points; cells = cells }

-- the mesh of a text, or its first fault: the rules, one after another
unfoldable pub mesh_text : List ℕ → Result MeshView Fault
mesh_text text = do
  f ← version (whole_text text)
  behind ← title f.1
  first ← format behind
  second ← dataset first
  ps ← points second
  rows ← cells f.0 (length ps.0) ps.1
  tetrahedra ← cell_types rows.0 rows.1
  attributes (mesh_of ps.0 tetrahedra.0) tetrahedra.1
