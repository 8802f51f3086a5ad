-- What comes of a text, from each stage that wants a token, is decided by the next token and what is left behind it.
use Rattle.std.proofs.Common.{◌≡◌, ℕ, suc, ◌+◌, ◌-◌, Bool, true, false, cond, List, [], ◌∷◌, ◌++◌, length, drop, map, Option, Some, Result, Ok, Err, refl, sym, ap, ◌∙◌, append_assoc}
use Rattle.std.specs.Prelude.{codes, ℤ, ◌==◌}
use Rattle.mesh_base.specs.Place.{Place}
use Rattle.mesh_base.specs.Mesh.{Corners}
use Rattle.oct_text.specs.Rest.{Left, Token, next_token}
use Rattle.vtk_legacy.specs.declared.gathered.Filling.{Filling}
use Rattle.vtk_legacy.specs.declared.gathered.CellRow.{CellRow}
use Rattle.vtk_legacy.specs.declared.stage.Block.{Block}
use Rattle.vtk_legacy.specs.declared.stage.Block.TheVariants as block
use Rattle.vtk_legacy.specs.declared.stage.Section.{Section}
use Rattle.vtk_legacy.specs.declared.stage.Section.TheVariants as section
use Rattle.vtk_legacy.specs.declared.stage.Stage.{Stage}
use Rattle.vtk_legacy.specs.declared.stage.Stage.TheVariants as stage
use Rattle.vtk_legacy.specs.Words.{word_is}
use Rattle.vtk_legacy.specs.MeshText.{Fault, ◌>>=◌, Read, Row, token, count, most_count, coordinate, coordinate_taken, skip, point_of, places, with_first, arrays, field, metadata, blocks, indices, indexed, counted_rows, head_taken, offsets, offset_taken}
use Rattle.vtk_legacy.specs.Kept.{Parts, Waiting, with_points, with_sizes, with_rows, with_cells, with_last, with_filled, with_next, kept, ended, empty_row, fill_last, put_from, filled_here, fresh, has_room, next_size, behind_next, passed, filling_after, got_after, offset_sizes, types_left, typed_kept, first_row, with_kept, with_first_kept, without_first}
use Rattle.vtk_legacy.specs.Machine.{Outcome, goes_on, taking, taking_block, taking_between, taking_section, taking_maybe, with_point, with_type, WantsToken, in_block, in_section, in_between, in_arrays, in_values, in_type, in_tuples, in_components, in_name, in_field_count, in_field_name, in_places, in_y, in_z, in_point_type, in_point_count, in_points, in_cells, in_cell_count, in_cell_size, in_heads, in_row, in_offset_count, in_number_count, in_maybe_offsets, in_offset_word, in_offset_type, in_offsets, in_connectivity, in_number_type, in_filling, in_type_word, in_type_count, in_types, in_attributes, in_grid, in_dataset, in_format}
use Rattle.vtk_legacy.proofs.StepLemmas.{bind_assoc, bind_same, bind_ok_same}
use Rattle.vtk_legacy.proofs.CellLemmas.{indices-length, fill_last-row}
use Rattle.vtk_legacy.proofs.Shrinks.{blocks-at}

block-token : (b : Block) (l : Left) (t : Token × Left) → next_token l ≡ Some t → in_block b l ≡ taking_block b t
unfolding in_values in_type in_tuples in_components in_name in_field_count in_field_name skip
block-token block.Name l t e = rw e refl
block-token block.Count l t e = rw e refl
block-token (block.ArrayName n) l t e = rw e refl
block-token (block.ArrayComponents n) l t e = rw e refl
block-token (block.ArrayTuples n c) l t e = rw e refl
block-token (block.ArrayType n v) l t e = rw e refl
block-token (block.ArrayValues n v) l t e = rw e refl

-- what stands behind the word FIELD, and the blocks behind it
field-then : (l : Left) → (field l >>= blocks) ≡ in_field_name l
unfolding in_field_name in_field_count in_arrays
field-then l =
    bind_assoc (token l) (λ name. count most_count name.1 >>= λ n. arrays n.0 n.1) blocks
    ∙ bind_same (token l) _ _ (λ name. bind_assoc (count most_count name.1) (λ n. arrays n.0 n.1) blocks)

section-token : (s : Section) (got : Parts) (l : Left) (t : Token × Left) → next_token l ≡ Some t → in_section s got l ≡ taking_section s got t
unfolding in_section taking_section in_points in_cells in_connectivity in_type_word in_attributes
section-token section.Points got l t e = rw e refl
section-token section.Cells got l t e = rw e refl
section-token (section.Connectivity b) got l t e = rw e refl
section-token section.Types got l t e = rw e refl
section-token section.Attributes got l t e = rw e refl

between-words : (x y : Bool) (s : Section) (got : Parts) (l : Left) (t : Token × Left) → next_token l ≡ Some t
    → (cond x (field t.1 >>= blocks) (cond y (blocks (metadata t.1)) (Ok l)) >>= in_section s got)
    ≡ cond x (in_field_name t.1 >>= in_section s got) (cond y (in_between s got (metadata t.1)) (taking_section s got t))
unfolding in_between
between-words true y s got l t e = ap (λ (r : Result Left Fault). r >>= in_section s got) (field-then t.1)
between-words false true s got l t e = refl
between-words false false s got l t e = section-token s got l t e

between-token : (s : Section) (got : Parts) (l : Left) (t : Token × Left) → next_token l ≡ Some t → in_between s got l ≡ taking_between s got t
unfolding in_between taking_between
between-token s got l t e =
    ap (λ (r : Result Left Fault). r >>= in_section s got) (blocks-at l t e)
    ∙ between-words (word_is t.0.text (codes "field")) (word_is t.0.text (codes "metadata")) s got l t e

-- the word OFFSETS, or what stands behind the blocks
maybe-token : (got : Parts) (l : Left) (t : Token × Left) → next_token l ≡ Some t → in_maybe_offsets got l ≡ taking_maybe got t
unfolding in_maybe_offsets in_between in_section
maybe-token got l t e = rw e (ap (λ (r : Outcome). cond (word_is t.0.text (codes "offsets")) (in_offset_type 0 0 got t.1) r) (between-token section.Types got l t e))

-- ---- a point and those behind it

abbrev behind_points : Parts → List Place × Left → Outcome
behind_points got ps = blocks ps.1 >>= in_cells (with_points ps.0 got)

abbrev more_places : ℕ → Place × Left → Read (List Place)
more_places n p = places n p.1 >>= with_first p.0

with_points-twice : (ps qs : List Place) (got : Parts) → with_points qs (with_points ps got) ≡ with_points (ps ++ qs) got
with_points-twice ps qs got = ap (λ (points : List Place). let parts : Parts = record { form = got.form; number = got.number; points = points; sizes = got.sizes; rows = got.rows; cells = got.cells } in parts) (append_assoc got.points ps qs)

places-more : (n : ℕ) (got : Parts) (p : Place) (l : Left) → ((places n l >>= with_first p) >>= behind_points got) ≡ in_places n (with_points (p ∷ []) got) l
unfolding in_places
places-more n got p l =
    bind_assoc (places n l) (with_first p) (behind_points got)
    ∙ bind_same (places n l) _ _ (λ ps. ap (λ (parts : Parts). blocks ps.1 >>= in_cells parts) (sym (with_points-twice (p ∷ []) ps.0 got)))

point-z : (n : ℕ) (x y : ℤ) (got : Parts) (r : Read ℤ) → (((r >>= point_of x y) >>= more_places n) >>= behind_points got) ≡ (r >>= λ z. in_places n (with_points ((x, y, z.0) ∷ []) got) z.1)
point-z n x y got (Ok z) = places-more n got (x, y, z.0) z.1
point-z n x y got (Err e) = refl

point-y : (n : ℕ) (x : ℤ) (got : Parts) (r : Read ℤ) → (((r >>= λ y. coordinate y.1 >>= point_of x y.0) >>= more_places n) >>= behind_points got) ≡ (r >>= λ y. in_z n x y.0 got y.1)
unfolding in_z
point-y n x got (Ok y) = point-z n x y.0 got (coordinate y.1)
point-y n x got (Err e) = refl

point-x : (n : ℕ) (got : Parts) (r : Read ℤ)
    → (((r >>= λ x. coordinate x.1 >>= λ y. coordinate y.1 >>= point_of x.0 y.0) >>= more_places n) >>= behind_points got) ≡ (r >>= λ x. in_y n x.0 got x.1)
unfolding in_y
point-x n got (Ok x) = point-y n x.0 got (coordinate x.1)
point-x n got (Err e) = refl

-- ---- a cell and those behind it

abbrev behind_rows : Parts → List Row × Left → Outcome
behind_rows got rs = blocks rs.1 >>= in_type_word (with_rows (map kept rs.0) got)

abbrev more_rows : ℕ → ℕ → ℕ → ℕ → Row × Left → Read (List Row)
more_rows n m room place row = counted_rows n m room place row.1 >>= with_first row.0

row-kept : (c : ℕ) (ps : Row) (rs : List Row) (got : Parts) → length ps ≡ c
    → with_rows (map kept rs) (with_last c ps (empty_row c) got) ≡ with_rows (map kept (ps ∷ rs)) got
row-kept c ps rs got e =
    ap (λ (rows : List Waiting). let parts : Parts = record { form = got.form; number = got.number; points = got.points; sizes = got.sizes; rows = rows; cells = got.cells } in parts)
    (ap (λ (row : Waiting). (got.rows ++ row ∷ []) ++ map kept rs) (fill_last-row c ps e) ∙ append_assoc got.rows (kept ps ∷ []) (map kept rs))

rows-more : (c m room place : ℕ) (got : Parts) (l : Left)
    → ((indices got.number c l >>= more_rows got.number m room place) >>= behind_rows got) ≡ in_row (empty_row c) c m room place got l
unfolding in_row in_heads
rows-more c m room place got l =
    bind_assoc (indices got.number c l) (more_rows got.number m room place) (behind_rows got)
    ∙ bind_ok_same (indices got.number c l) _ _ (λ ps e.
    bind_assoc (counted_rows got.number m room place ps.1) (with_first ps.0) (behind_rows got)
    ∙ bind_same (counted_rows got.number m room place ps.1) _ _ (λ rs.
    ap (λ (parts : Parts). blocks rs.1 >>= in_type_word parts) (sym (row-kept c ps.0 rs.0 got (indices-length got.number c l ps e)))))

head-more : (m room place : ℕ) (got : Parts) (r : Read ℕ)
    → ((r >>= λ c. indices got.number c.0 c.1 >>= more_rows got.number m (room - (1 + c.0)) place) >>= behind_rows got)
    ≡ (r >>= λ c. in_row (empty_row c.0) c.0 m (room - (1 + c.0)) place got c.1)
head-more m room place got (Ok c) = rows-more c.0 m (room - (1 + c.0)) place got c.1
head-more m room place got (Err e) = refl

-- a point number and those behind it
point-more : (row : CellRow) (k m room place : ℕ) (got : Parts) (r : Read ℕ)
    → ((r >>= λ p. indices got.number k p.1 >>= with_first p.0) >>= λ ps. in_heads m room place (with_last (suc k) ps.0 row got) ps.1)
    ≡ (r >>= λ p. in_row (with_point row k p.0) k m room place got p.1)
unfolding in_row fill_last
point-more row k m room place got (Ok p) = bind_assoc (indices got.number k p.1) (with_first p.0) (λ ps. in_heads m room place (with_last (suc k) ps.0 row got) ps.1)
point-more row k m room place got (Err e) = refl

-- ---- an offset and those behind it

abbrev behind_offsets : Bool → ℕ → ℕ → Parts → List ℕ × Left → Outcome
behind_offsets first before b got os = blocks os.1 >>= in_connectivity b (with_sizes (offset_sizes first before os.0) got)

size-more : (first : Bool) (before o : ℕ) (os : List ℕ) (got : Parts)
    → with_sizes (offset_sizes first before (o ∷ os)) got ≡ with_sizes (offset_sizes false o os) (cond first got (with_sizes ((o - before) ∷ []) got))
unfolding offset_sizes
size-more true before o os got = refl
size-more false before o os got =
    ap (λ (sizes : List ℕ). let parts : Parts = record { form = got.form; number = got.number; points = got.points; sizes = sizes; rows = got.rows; cells = got.cells } in parts)
    (sym (append_assoc got.sizes ((o - before) ∷ []) (offset_sizes false o os)))

offset-more : (k : ℕ) (first : Bool) (before b : ℕ) (got : Parts) (r : Read ℕ)
    → ((r >>= λ o. offsets k false o.0 b o.1 >>= with_first o.0) >>= behind_offsets first before b got)
    ≡ (r >>= λ o. in_offsets k false o.0 b (cond first got (with_sizes ((o.0 - before) ∷ []) got)) o.1)
unfolding in_offsets
offset-more k first before b got (Ok o) =
    bind_assoc (offsets k false o.0 b o.1) (with_first o.0) (behind_offsets first before b got)
    ∙ bind_same (offsets k false o.0 b o.1) _ _ (λ os. ap (λ (parts : Parts). blocks os.1 >>= in_connectivity b parts) (size-more first before o.0 os.0 got))
offset-more k first before b got (Err e) = refl

-- ---- a point number of the list and those behind it

-- one more number in the row in work, or in the next one
fill-more : (room : Bool) (f : Filling) (p : ℕ) (ps : List ℕ) (got : Parts)
    → with_filled (cond room (put_from (filled_here f p) ps got.sizes) (ended f.row ∷ (passed got.sizes ++ put_from (filled_here (fresh (next_size got.sizes)) p) ps (behind_next got.sizes)))) got
    ≡ with_filled (put_from (cond room (filled_here f p) (filled_here (fresh (next_size got.sizes)) p)) ps (cond room got (with_next (with_rows (ended f.row ∷ []) got))).sizes)
    (cond room got (with_next (with_rows (ended f.row ∷ []) got)))
fill-more true f p ps got = refl
fill-more false f p ps got =
    let rest = put_from (filled_here (fresh (next_size got.sizes)) p) ps (behind_next got.sizes) in
    ap (λ (rows : List Waiting). let parts : Parts = record { form = got.form; number = got.number; points = got.points; sizes = []; rows = rows; cells = got.cells } in parts)
    (sym (append_assoc got.rows (ended f.row ∷ []) (passed got.sizes ++ rest)) ∙ sym (append_assoc (got.rows ++ ended f.row ∷ []) (passed got.sizes) rest))

same-number : (room : Bool) (f : Filling) (got : Parts) → (cond room got (with_next (with_rows (ended f.row ∷ []) got))).number ≡ got.number
same-number true f got = refl
same-number false f got = refl

number-more : (k : ℕ) (f : Filling) (got : Parts) (r : Read ℕ)
    → ((r >>= λ p. indices got.number k p.1 >>= with_first p.0) >>= λ ps. blocks ps.1 >>= in_type_word (with_filled (put_from f ps.0 got.sizes) got))
    ≡ (r >>= λ p. in_filling k (filling_after f p.0 got.sizes) (got_after f got) p.1)
unfolding in_filling put_from
number-more k f got (Ok p) =
    bind_assoc (indices got.number k p.1) (with_first p.0) (λ ps. blocks ps.1 >>= in_type_word (with_filled (put_from f ps.0 got.sizes) got))
    ∙ bind_same (indices got.number k p.1) _ _ (λ ps. ap (λ (parts : Parts). blocks ps.1 >>= in_type_word parts) (fill-more (has_room f) f p.0 ps.0 got))
    ∙ ap (λ (n : ℕ). indices n k p.1 >>= λ ps. blocks ps.1 >>= in_type_word (with_filled (put_from (filling_after f p.0 got.sizes) ps.0 (got_after f got).sizes) (got_after f got))) (sym (same-number (has_room f) f got))
number-more k f got (Err e) = refl

-- ---- a type and those behind it

abbrev behind_types : Parts → List (Option Corners) × Left → Outcome
behind_types got cs = blocks cs.1 >>= in_attributes (with_cells cs.0 got)

-- the end looks at the points and cells alone
cell-more : (ten : Bool) (cs : List (Option Corners)) (got : Parts) (l : Left)
    → in_attributes (with_cells (cond ten ((first_row got.rows).cell ∷ cs) cs) got) l ≡ in_attributes (with_cells cs (cond ten (with_first_kept got) (without_first got))) l
unfolding in_attributes
cell-more true cs got l = rw (append_assoc got.cells ((first_row got.rows).cell ∷ []) cs) refl
cell-more false cs got l = refl

same-rows : (ten : Bool) (got : Parts) → (cond ten (with_first_kept got) (without_first got)).rows ≡ drop 1 got.rows
same-rows true got = refl
same-rows false got = refl

type-more : (k : ℕ) (got : Parts) (r : Read ℕ)
    → ((r >>= λ type. types_left k (drop 1 got.rows) type.1 >>= with_kept type.0 (first_row got.rows).cell) >>= behind_types got)
    ≡ (r >>= λ type. in_types k (with_type type.0 got) type.1)
unfolding in_types
type-more k got (Ok type) =
    let cell = (first_row got.rows).cell in
    bind_assoc (types_left k (drop 1 got.rows) type.1) (with_kept type.0 cell) (behind_types got)
    ∙ bind_same (types_left k (drop 1 got.rows) type.1) _ _ (λ cs. bind_same (blocks cs.1) _ _ (λ l. cell-more (type.0 == 10) cs.0 got l))
    ∙ ap (λ (rows : List Waiting). types_left k rows type.1 >>= λ cs. behind_types (with_type type.0 got) cs) (sym (same-rows (type.0 == 10) got))
type-more k got (Err e) = refl

-- ---- every stage

pub goes_on-token : (s : Stage) (got : Parts) (l : Left) (t : Token × Left) → WantsToken s → next_token l ≡ Some t → goes_on s got l ≡ taking s got t
unfolding goes_on taking in_format in_dataset in_grid in_point_count in_point_type in_places places in_y in_z in_cell_count in_cell_size in_heads counted_rows in_row indices in_offset_count in_number_count in_maybe_offsets in_offset_word in_offset_type in_offsets offsets in_number_type in_filling in_type_count in_types types_left
goes_on-token stage.Format got l t w e = rw e refl
goes_on-token stage.Dataset got l t w e = rw e refl
goes_on-token stage.Grid got l t w e = rw e refl
goes_on-token (stage.Between s) got l t w e = between-token s got l t e
goes_on-token (stage.Within s b) got l t w e = ap (λ (r : Result Left Fault). r >>= in_section s got) (block-token b l t e)
goes_on-token stage.Version got l t w e = absurd w
goes_on-token stage.Title got l t w e = absurd w
goes_on-token (stage.MetadataLine s) got l t w e = absurd w
goes_on-token (stage.MetadataLines s) got l t w e = absurd w
goes_on-token stage.PointCount got l t w e = rw e refl
goes_on-token (stage.PointType n) got l t w e = rw e refl
goes_on-token (stage.PointX n) got l t w e = rw e (point-x n got (coordinate_taken t))
goes_on-token (stage.PointY n x) got l t w e = rw e refl
goes_on-token (stage.PointZ n x y) got l t w e = rw e refl
goes_on-token stage.CellCount got l t w e = rw e refl
goes_on-token (stage.CellSize m) got l t w e = rw e refl
goes_on-token (stage.CellHead m room place) got l t w e = rw e (head-more m room place got (head_taken room t))
goes_on-token (stage.CellPoint row k m room place) got l t w e = rw e (point-more row k m room place got (indexed got.number t))
goes_on-token stage.OffsetCount got l t w e = rw e refl
goes_on-token (stage.NumberCount a) got l t w e = rw e refl
goes_on-token stage.MaybeOffsets got l t w e = maybe-token got l t e
goes_on-token (stage.OffsetWord a b) got l t w e = rw e refl
goes_on-token (stage.OffsetType a b) got l t w e = rw e refl
goes_on-token (stage.Offset k first before b) got l t w e = rw e (offset-more k first before b got (offset_taken first (k == 0) before b t))
goes_on-token (stage.NumberType b) got l t w e = rw e refl
goes_on-token (stage.Number k f) got l t w e = rw e (number-more k f got (indexed got.number t))
goes_on-token stage.TypeCount got l t w e = rw e refl
goes_on-token (stage.CellType k) got l t w e = rw e (type-more k got (typed_kept (first_row got.rows) t))
goes_on-token stage.Passed got l t w e = absurd w
