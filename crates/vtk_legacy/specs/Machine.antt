-- How a reader works: what comes of the rest of a text, from each of its stages. A text's meaning is defined without
-- it, in MeshText.
use Rattle.std.specs.Prelude.{◌≡◌, ℕ, suc, ◌+◌, ◌-◌, ◌*◌, ◌<◌, ◌≤◌, ◌==◌, Bool, true, false, if◌then◌else◌, List, [], ◌∷◌, length, map, Option, Some, None, Result, Ok, Err, ℤ, codes}
use Rattle.mesh_base.specs.Mesh.{MeshView}
use Rattle.oct_text.specs.Rest.{Left, Token, next_token, Rest, continued, MayCome}
use Rattle.vtk_legacy.specs.declared.fault.MeshKind.TheVariants as kinds
use Rattle.vtk_legacy.specs.declared.fault.MeshFault.{MeshFault}
use Rattle.vtk_legacy.specs.declared.gathered.CellForm.{CellForm}
use Rattle.vtk_legacy.specs.declared.gathered.CellForm.TheVariants as form
use Rattle.vtk_legacy.specs.declared.gathered.CellRow.{CellRow}
use Rattle.vtk_legacy.specs.declared.gathered.Filling.{Filling}
use Rattle.vtk_legacy.specs.declared.stage.Block.{Block}
use Rattle.vtk_legacy.specs.declared.stage.Block.TheVariants as block
use Rattle.vtk_legacy.specs.declared.stage.Section.{Section}
use Rattle.vtk_legacy.specs.declared.stage.Section.TheVariants as section
use Rattle.vtk_legacy.specs.declared.stage.Stage.{Stage}
use Rattle.vtk_legacy.specs.declared.stage.Stage.TheVariants as stage
use Rattle.vtk_legacy.specs.Words.{word_is}
use Rattle.vtk_legacy.specs.Outcome.{IsFault}
use Rattle.vtk_legacy.specs.MeshText.{Fault, fault, ◌>>=◌, token, expect, expected, count, count_taken, most_count, numeric, numeric_taken, coordinate, coordinate_taken, skip, places, arrays, after_blank_line, metadata, blocks, version, title, format, format_taken, indices, indexed, counted_rows, head_taken, offsets, offset_taken, numbers_taken, count_again, mesh_of, ends}
use Rattle.vtk_legacy.specs.Kept.{Parts, with_form, with_number, with_points, with_sizes, with_rows, with_cells, with_corner, with_last, with_filled, kept, empty_row, offset_sizes, put_from, begin_from, filling_after, got_after, first_row, typed_kept, types_left, with_first_kept, without_first}
use Rattle.mesh_base.specs.Limits.{most_cells, most_points}

-- ---- blocks

-- so many arrays are left, and then any number of blocks
unfoldable pub in_arrays : ℕ → Left → Result Left Fault
in_arrays n l = arrays n l >>= blocks

unfoldable pub in_values : ℕ → ℕ → Left → Result Left Fault
in_values n v l = skip v l >>= in_arrays n

unfoldable pub in_type : ℕ → ℕ → Left → Result Left Fault
in_type n v l = numeric kinds.Field l >>= in_values n v

unfoldable pub in_tuples : ℕ → ℕ → Left → Result Left Fault
in_tuples n c l = count most_count l >>= λ t. in_type n (c * t.0) t.1

unfoldable pub in_components : ℕ → Left → Result Left Fault
in_components n l = count most_count l >>= λ c. in_tuples n c.0 c.1

unfoldable pub in_name : ℕ → Left → Result Left Fault
in_name n l = token l >>= λ t. in_components n t.1

unfoldable pub in_field_count : Left → Result Left Fault
in_field_count l = count most_count l >>= λ n. in_arrays n.0 n.1

unfoldable pub in_field_name : Left → Result Left Fault
in_field_name l = token l >>= λ t. in_field_count t.1

abbrev pub in_block : Block → Left → Result Left Fault
in_block block.Name l = in_field_name l
in_block block.Count l = in_field_count l
in_block (block.ArrayName n) l = in_name n l
in_block (block.ArrayComponents n) l = in_components n l
in_block (block.ArrayTuples n c) l = in_tuples n c l
in_block (block.ArrayType n v) l = in_type n v l
in_block (block.ArrayValues n v) l = in_values n (suc v) l

-- ---- the end and the types

-- what comes of a text
abbrev pub Outcome : Type 0
Outcome = Result MeshView Fault

unfoldable pub in_attributes : Parts → Left → Outcome
in_attributes got l = ends (mesh_of got.points got.cells) (next_token l)

-- so many types are left
unfoldable pub in_types : ℕ → Parts → Left → Outcome
in_types k got l = types_left k got.rows l >>= λ cs. blocks cs.1 >>= in_attributes (with_cells cs.0 got)

unfoldable pub in_type_count : Parts → Left → Outcome
in_type_count got l = (token l >>= count_again (length got.rows)) >>= in_types (length got.rows) got

unfoldable pub in_type_word : Parts → Left → Outcome
in_type_word got l = expect (codes "cell_types") kinds.Keyword l >>= in_type_count got

-- ---- cells with offsets

-- so many point numbers are left, and this row is in work
unfoldable pub in_filling : ℕ → Filling → Parts → Left → Outcome
in_filling k filling got l = indices got.number k l >>= λ ps.
    blocks ps.1 >>= in_type_word (with_filled (put_from filling ps.0 got.sizes) got)

-- all of so many point numbers are left
unfoldable pub in_numbers : ℕ → Parts → Left → Outcome
in_numbers k got l = indices got.number k l >>= λ ps.
    blocks ps.1 >>= in_type_word (with_filled (begin_from ps.0 got.sizes) got)

unfoldable pub in_number_type : ℕ → Parts → Left → Outcome
in_number_type b got l = numeric kinds.Keyword l >>= in_numbers b got

unfoldable pub in_connectivity : ℕ → Parts → Left → Outcome
in_connectivity b got l = expect (codes "connectivity") kinds.Keyword l >>= in_number_type b got

-- so many offsets are left
unfoldable pub in_offsets : ℕ → Bool → ℕ → ℕ → Parts → Left → Outcome
in_offsets k first before b got l = offsets k first before b l >>= λ os.
    blocks os.1 >>= in_connectivity b (with_sizes (offset_sizes first before os.0) got)

unfoldable pub in_offset_type : ℕ → ℕ → Parts → Left → Outcome
in_offset_type a b got l = numeric kinds.Keyword l >>= in_offsets a true 0 b got

unfoldable pub in_offset_word : ℕ → ℕ → Parts → Left → Outcome
in_offset_word a b got l = expect (codes "offsets") kinds.Keyword l >>= in_offset_type a b got

abbrev pub or_offsets : Parts → Option (Token × Left) → Left → Outcome
or_offsets got None l = blocks l >>= in_type_word got
or_offsets got (Some t) l = if word_is t.0.text (codes "offsets") then in_offset_type 0 0 got t.1
    else (blocks l >>= in_type_word got)

unfoldable pub in_maybe_offsets : Parts → Left → Outcome
in_maybe_offsets got l = or_offsets got (next_token l) l

abbrev pub behind_counts : ℕ → Parts → ℕ × Left → Outcome
behind_counts a got b = if a == 0 then in_maybe_offsets got b.1 else in_offset_word a b.0 got b.1

abbrev pub number_count_taken : ℕ → Parts → Token × Left → Outcome
number_count_taken a got t = count_taken most_count t >>= λ c. numbers_taken a t c >>= behind_counts a got

unfoldable pub in_number_count : ℕ → Parts → Left → Outcome
in_number_count a got l = token l >>= number_count_taken a got

unfoldable pub in_offset_count : Parts → Left → Outcome
in_offset_count got l = count 4000001 l >>= λ a. in_number_count a.0 got a.1

-- ---- cells with counts

-- so many cells are left
unfoldable pub in_heads : ℕ → ℕ → ℕ → Parts → Left → Outcome
in_heads m room place got l = counted_rows got.number m room place l >>= λ rs.
    blocks rs.1 >>= in_type_word (with_rows (map kept rs.0) got)

-- so many point numbers of this cell are left
unfoldable pub in_row : CellRow → ℕ → ℕ → ℕ → ℕ → Parts → Left → Outcome
in_row row k m room place got l = indices got.number k l >>= λ ps. in_heads m room place (with_last k ps.0 row got) ps.1

abbrev pub cell_size_taken : ℕ → Parts → Token × Left → Outcome
cell_size_taken m got t = count_taken most_count t >>= λ s. in_heads m s.0 t.0.place got s.1

unfoldable pub in_cell_size : ℕ → Parts → Left → Outcome
in_cell_size m got l = token l >>= cell_size_taken m got

unfoldable pub in_cell_count : Parts → Left → Outcome
in_cell_count got l = count most_cells l >>= λ m. in_cell_size m.0 got m.1

abbrev pub in_form : CellForm → Parts → Left → Outcome
in_form form.Counts got l = in_cell_count got l
in_form form.Offsets got l = in_offset_count got l

unfoldable pub in_cells : Parts → Left → Outcome
in_cells got l = expect (codes "cells") kinds.Keyword l >>= in_form got.form got

-- ---- points

-- so many points are left
unfoldable pub in_places : ℕ → Parts → Left → Outcome
in_places k got l = places k l >>= λ ps. blocks ps.1 >>= in_cells (with_points ps.0 got)

unfoldable pub in_z : ℕ → ℤ → ℤ → Parts → Left → Outcome
in_z k x y got l = coordinate l >>= λ z. in_places k (with_points ((x, y, z.0) ∷ []) got) z.1

unfoldable pub in_y : ℕ → ℤ → Parts → Left → Outcome
in_y k x got l = coordinate l >>= λ y. in_z k x y.0 got y.1

unfoldable pub in_point_type : ℕ → Parts → Left → Outcome
in_point_type n got l = numeric kinds.Keyword l >>= in_places n got

unfoldable pub in_point_count : Parts → Left → Outcome
in_point_count got l = count most_points l >>= λ n. in_point_type n.0 (with_number n.0 got) n.1

unfoldable pub in_points : Parts → Left → Outcome
in_points got l = expect (codes "points") kinds.Keyword l >>= in_point_count got

-- ---- sections behind blocks

unfoldable pub in_section : Section → Parts → Left → Outcome
in_section section.Points got l = in_points got l
in_section section.Cells got l = in_cells got l
in_section (section.Connectivity b) got l = in_connectivity b got l
in_section section.Types got l = in_type_word got l
in_section section.Attributes got l = in_attributes got l

-- what stands behind the blocks follows a block
abbrev pub then_section : Section → Parts → Result Left Fault → Outcome
then_section s got r = r >>= in_section s got

unfoldable pub in_between : Section → Parts → Left → Outcome
in_between s got l = blocks l >>= in_section s got

-- ---- the first rules

unfoldable pub in_grid : Parts → Left → Outcome
in_grid got l = expect (codes "unstructured_grid") kinds.DataSet l >>= in_between section.Points got

unfoldable pub in_dataset : Parts → Left → Outcome
in_dataset got l = expect (codes "dataset") kinds.Keyword l >>= in_grid got

unfoldable pub in_format : Parts → Left → Outcome
in_format got l = format l >>= in_dataset got

unfoldable pub in_title : Parts → Left → Outcome
in_title got l = title l >>= in_format got

unfoldable pub in_version : Parts → Left → Outcome
in_version got l = version l >>= λ f. in_title (with_form f.0 got) f.1

-- ---- all stages

-- what comes of what is left, from this stage with these parts
unfoldable pub goes_on : Stage → Parts → Left → Outcome
goes_on stage.Version got l = in_version got l
goes_on stage.Title got l = in_title got l
goes_on stage.Format got l = in_format got l
goes_on stage.Dataset got l = in_dataset got l
goes_on stage.Grid got l = in_grid got l
goes_on (stage.Between s) got l = in_between s got l
goes_on (stage.Within s b) got l = in_block b l >>= in_section s got
goes_on (stage.MetadataLine s) got l = in_between s got (metadata l)
goes_on (stage.MetadataLines s) got l = in_between s got (after_blank_line l)
goes_on stage.PointCount got l = in_point_count got l
goes_on (stage.PointType n) got l = in_point_type n got l
goes_on (stage.PointX more) got l = in_places (suc more) got l
goes_on (stage.PointY more x) got l = in_y more x got l
goes_on (stage.PointZ more x y) got l = in_z more x y got l
goes_on stage.CellCount got l = in_cell_count got l
goes_on (stage.CellSize m) got l = in_cell_size m got l
goes_on (stage.CellHead more room place) got l = in_heads (suc more) room place got l
goes_on (stage.CellPoint row more cells room place) got l = in_row row (suc more) cells room place got l
goes_on stage.OffsetCount got l = in_offset_count got l
goes_on (stage.NumberCount a) got l = in_number_count a got l
goes_on stage.MaybeOffsets got l = in_maybe_offsets got l
goes_on (stage.OffsetWord a b) got l = in_offset_word a b got l
goes_on (stage.OffsetType a b) got l = in_offset_type a b got l
goes_on (stage.Offset more first before b) got l = in_offsets (suc more) first before b got l
goes_on (stage.NumberType b) got l = in_number_type b got l
goes_on (stage.Number more filling) got l = in_filling (suc more) filling got l
goes_on stage.TypeCount got l = in_type_count got l
goes_on (stage.CellType more) got l = in_types (suc more) got l
goes_on stage.Passed got l = Ok (mesh_of got.points got.cells)

-- ---- what a token does

abbrev pub taking_block : Block → Token × Left → Result Left Fault
taking_block block.Name t = in_field_count t.1
taking_block block.Count t = count_taken most_count t >>= λ n. in_arrays n.0 n.1
taking_block (block.ArrayName n) t = in_components n t.1
taking_block (block.ArrayComponents n) t = count_taken most_count t >>= λ c. in_tuples n c.0 c.1
taking_block (block.ArrayTuples n c) t = count_taken most_count t >>= λ x. in_type n (c * x.0) x.1
taking_block (block.ArrayType n v) t = numeric_taken kinds.Field t >>= in_values n v
taking_block (block.ArrayValues n v) t = in_values n v t.1

unfoldable pub taking_section : Section → Parts → Token × Left → Outcome
taking_section section.Points got t = expected (codes "points") kinds.Keyword t >>= in_point_count got
taking_section section.Cells got t = expected (codes "cells") kinds.Keyword t >>= in_form got.form got
taking_section (section.Connectivity b) got t = expected (codes "connectivity") kinds.Keyword t >>= in_number_type b got
taking_section section.Types got t = expected (codes "cell_types") kinds.Keyword t >>= in_type_count got
taking_section section.Attributes got t = ends (mesh_of got.points got.cells) (Some t)

-- between two blocks: a block begins, or what stands behind the blocks
unfoldable pub taking_between : Section → Parts → Token × Left → Outcome
taking_between s got t =
    if word_is t.0.text (codes "field") then in_block block.Name t.1 >>= in_section s got
    else if word_is t.0.text (codes "metadata") then in_between s got (metadata t.1)
    else taking_section s got t

abbrev pub taking_maybe : Parts → Token × Left → Outcome
taking_maybe got t = if word_is t.0.text (codes "offsets") then in_offset_type 0 0 got t.1
    else taking_between section.Types got t

-- a count of points begins a row
abbrev pub taking_head : ℕ → ℕ → ℕ → Parts → Token × Left → Outcome
taking_head m room place got t = head_taken room t >>= λ c.
    in_row (empty_row c.0) c.0 m (room - (1 + c.0)) place got c.1

-- the row gets one number, and so many come after it
abbrev pub with_point : CellRow → ℕ → ℕ → CellRow
with_point row more p = with_corner row (row.count - more - 1) p

abbrev pub taking_cell_point : CellRow → ℕ → ℕ → ℕ → ℕ → Parts → Token × Left → Outcome
taking_cell_point row more m room place got t = indexed got.number t >>= λ p.
    in_row (with_point row more p.0) more m room place got p.1

abbrev pub taking_offset : ℕ → Bool → ℕ → ℕ → Parts → Token × Left → Outcome
taking_offset more first before b got t =
    offset_taken first (more == 0) before b t >>= λ o.
    in_offsets more false o.0 b (if first then got else with_sizes ((o.0 - before) ∷ []) got) o.1

abbrev pub taking_number : ℕ → Filling → Parts → Token × Left → Outcome
taking_number more filling got t = indexed got.number t >>= λ p.
    in_filling more (filling_after filling p.0 got.sizes) (got_after filling got) p.1

abbrev pub with_type : ℕ → Parts → Parts
with_type type got = if type == 10 then with_first_kept got else without_first got

abbrev pub taking_type : ℕ → Parts → Token × Left → Outcome
taking_type more got t = typed_kept (first_row got.rows) t >>= λ type. in_types more (with_type type.0 got) type.1

-- what comes of the rest of the text, where this token is taken
unfoldable pub taking : Stage → Parts → Token × Left → Outcome
taking stage.Version got t = Ok (mesh_of got.points got.cells)
taking stage.Title got t = Ok (mesh_of got.points got.cells)
taking stage.Format got t = format_taken t >>= in_dataset got
taking stage.Dataset got t = expected (codes "dataset") kinds.Keyword t >>= in_grid got
taking stage.Grid got t = expected (codes "unstructured_grid") kinds.DataSet t >>= in_between section.Points got
taking (stage.Between s) got t = taking_between s got t
taking (stage.Within s b) got t = taking_block b t >>= in_section s got
taking (stage.MetadataLine s) got t = Ok (mesh_of got.points got.cells)
taking (stage.MetadataLines s) got t = Ok (mesh_of got.points got.cells)
taking stage.PointCount got t = count_taken most_points t >>= λ n. in_point_type n.0 (with_number n.0 got) n.1
taking (stage.PointType n) got t = numeric_taken kinds.Keyword t >>= in_places n got
taking (stage.PointX more) got t = coordinate_taken t >>= λ x. in_y more x.0 got x.1
taking (stage.PointY more x) got t = coordinate_taken t >>= λ y. in_z more x y.0 got y.1
taking (stage.PointZ more x y) got t = coordinate_taken t >>= λ z.
    in_places more (with_points ((x, y, z.0) ∷ []) got) z.1
taking stage.CellCount got t = count_taken most_cells t >>= λ m. in_cell_size m.0 got m.1
taking (stage.CellSize m) got t = cell_size_taken m got t
taking (stage.CellHead more room place) got t = taking_head more room place got t
taking (stage.CellPoint row more cells room place) got t = taking_cell_point row more cells room place got t
taking stage.OffsetCount got t = count_taken 4000001 t >>= λ a. in_number_count a.0 got a.1
taking (stage.NumberCount a) got t = number_count_taken a got t
taking stage.MaybeOffsets got t = taking_maybe got t
taking (stage.OffsetWord a b) got t = expected (codes "offsets") kinds.Keyword t >>= in_offset_type a b got
taking (stage.OffsetType a b) got t = numeric_taken kinds.Keyword t >>= in_offsets a true 0 b got
taking (stage.Offset more first before b) got t = taking_offset more first before b got t
taking (stage.NumberType b) got t = numeric_taken kinds.Keyword t >>= in_numbers b got
taking (stage.Number more filling) got t = taking_number more filling got t
taking stage.TypeCount got t = count_again (length got.rows) t >>= in_types (length got.rows) got
taking (stage.CellType more) got t = taking_type more got t
taking stage.Passed got t = Ok (mesh_of got.points got.cells)

-- the stages that want a line, or nothing
abbrev pub WantsToken : Stage → Type 0
WantsToken stage.Version = ⊥
WantsToken stage.Title = ⊥
WantsToken (stage.MetadataLine s) = ⊥
WantsToken (stage.MetadataLines s) = ⊥
WantsToken stage.Passed = ⊥
WantsToken other = Unit {0}

-- ---- steps

-- What comes of a text is what comes of the new stage, or is the fault, whatever is left behind the token.
abbrev pub Moves : (Left → Outcome) → Result Stage MeshFault → Parts → Type 0
Moves taken (Ok new) got = (after : Left) → taken after ≡ goes_on new got after
Moves taken (Err e) got = (after : Left) → IsFault e (taken after)

-- ---- at the end of the text

abbrev pub truncated : ℕ → Outcome
truncated place = Err (fault kinds.Truncated place)

-- what comes of a text of which only blanks are left, with the place of its end
abbrev pub at_end : Stage → Parts → ℕ → Outcome
at_end (stage.Between section.Attributes) got place = Ok (mesh_of got.points got.cells)
at_end (stage.MetadataLine section.Attributes) got place = Ok (mesh_of got.points got.cells)
at_end (stage.MetadataLines section.Attributes) got place = Ok (mesh_of got.points got.cells)
at_end stage.Passed got place = Ok (mesh_of got.points got.cells)
at_end other got place = truncated place

-- ---- runs

-- Whatever bytes may come, the rest of the text decides as it did before.
abbrev pub Keeps : Stage → Parts → Rest → Stage → Parts → Rest → Type 0
Keeps old got r new got' r' = (more : List ℕ) → MayCome r more
    → goes_on old got (continued r more) ≡ goes_on new got' (continued r' more)

-- what comes, if no more bytes come
abbrev pub IsSpent : Stage → Parts → Rest → Type 0
IsSpent s got r = r.ended ≡ true → goes_on s got (continued r []) ≡ at_end s got (r.place + length r.bytes)

-- bytes were taken and none were added
pub record SameText (old new : Rest) : Type 0 where
  pub ended : new.ended ≡ old.ended
  pub end : new.place + length new.bytes ≡ old.place + length old.bytes

-- a fault that the text has, however it goes on
abbrev pub FaultsWith : Stage → Parts → Rest → MeshFault → Type 0
FaultsWith old got r e = (more : List ℕ) → MayCome r more → IsFault e (goes_on old got (continued r more))

-- One step: whether there is more to do, or a fault.
abbrev pub Advances : Stage → Parts → Rest → Result Bool MeshFault → Stage → Parts → Rest → Type 0
Advances old got r (Ok true) new got' r' = Keeps old got r new got' r' × (length r'.bytes < length r.bytes)
    × SameText r r'
Advances old got r (Ok false) new got' r' = Keeps old got r new got' r' × IsSpent new got' r' × SameText r r'
Advances old got r (Err e) new got' r' = FaultsWith old got r e × SameText r r'

-- what reading on from here gave: a new stage with nothing to do, or a fault
abbrev pub Runs : Stage → Parts → Rest → Result (Unit {0}) MeshFault → Stage → Parts → Rest → Type 0
Runs old got r (Ok done) new got' r' = Keeps old got r new got' r' × IsSpent new got' r' × SameText r r'
Runs old got r (Err e) new got' r' = FaultsWith old got r e × SameText r r'

-- ---- reading on where parts are spelled plainly

-- What comes of the text stays the same, and no more bytes are left than before.
abbrev pub Passes : Stage → Parts → Rest → Stage → Parts → Rest → Type 0
Passes old got r new got' r' = Keeps old got r new got' r' × (length r'.bytes ≤ length r.bytes) × SameText r r'

-- One part was read, or none and nothing has changed, or there is a fault.
abbrev pub Steps : Stage → Parts → Rest → Result Bool MeshFault → Stage → Parts → Rest → Type 0
Steps old got r (Ok true) new got' r' = Passes old got r new got' r'
Steps old got r (Ok false) new got' r' = (got' ≡ got) × (r' ≡ r)
Steps old got r (Err e) new got' r' = FaultsWith old got r e × SameText r r'

-- One part was read, on whose value the new stage depends, or none and nothing has changed, or there is a fault.
abbrev pub StepsTo : {X : Type 0} → Stage → Parts → Rest → (X → Stage) → Result (Option X) MeshFault → Parts → Rest
    → Type 0
StepsTo old got r new (Ok (Some x)) got' r' = Passes old got r (new x) got' r'
StepsTo old got r new (Ok None) got' r' = (got' ≡ got) × (r' ≡ r)
StepsTo old got r new (Err e) got' r' = FaultsWith old got r e × SameText r r'

-- Parts were read up to a stage, or there is a fault.
abbrev pub PassesTo : Stage → Parts → Rest → Result Stage MeshFault → Parts → Rest → Type 0
PassesTo old got r (Ok new) got' r' = Passes old got r new got' r'
PassesTo old got r (Err e) got' r' = FaultsWith old got r e × SameText r r'

-- Parts were read, or none, or there is a fault.
abbrev pub ReadsOn : Stage → Parts → Rest → Result (Unit {0}) MeshFault → Stage → Parts → Rest → Type 0
ReadsOn old got r (Ok done) new got' r' = Passes old got r new got' r'
ReadsOn old got r (Err e) new got' r' = FaultsWith old got r e × SameText r r'
