-- The rules of a text, one after another, are what comes from the first stage.
use Rattle.std.proofs.Common.{◌≡◌, ℕ, zero, suc, Bool, true, false, cond, List, [], ◌∷◌, length, map, Option, Some, None, Ok, refl, sym, ap, ◌∙◌}
use Rattle.std.specs.Prelude.{codes, ◌==◌}
use Rattle.std.proofs.lemmas.List.{length-map}
use Rattle.mesh_base.specs.Mesh.{Corners}
use Rattle.mesh_base.specs.Place.{Place}
use Rattle.oct_text.specs.Rest.{Left, Token, next_token}
use Rattle.vtk_legacy.specs.declared.fault.MeshKind.TheVariants as kinds
use Rattle.vtk_legacy.specs.declared.gathered.CellForm.{CellForm}
use Rattle.vtk_legacy.specs.declared.gathered.CellForm.TheVariants as form
use Rattle.vtk_legacy.specs.declared.stage.Section.TheVariants as section
use Rattle.vtk_legacy.specs.declared.stage.Stage.TheVariants as stage
use Rattle.vtk_legacy.specs.Words.{word_is}
use Rattle.vtk_legacy.specs.MeshText.{Read, Row, ◌>>=◌, token, expect, count, count_taken, most_count, numeric, point, places, with_first, blocks, version, title, format, dataset, points, indices, counted_rows, counted_cells, offsets, cut_by, rows_of, offset_rows, maybe_offsets, numbers_taken, offset_cells, cells_in, cells, count_again, types, cell_types, attributes, mesh_of, whole_text, mesh_text}
use Rattle.vtk_legacy.specs.Kept.{Parts, Waiting, nothing_in, with_form, kept, offset_sizes}
use Rattle.vtk_legacy.specs.Machine.{Outcome, goes_on, in_section, in_between, in_places, in_point_type, in_point_count, in_points, in_cells, in_form, in_cell_count, in_cell_size, in_heads, in_offset_count, in_number_count, in_maybe_offsets, or_offsets, in_offset_word, in_offset_type, in_offsets, in_connectivity, in_number_type, in_numbers, in_type_word, in_type_count, in_types, in_attributes, in_grid, in_dataset, in_format, in_title, in_version}
use Rattle.vtk_legacy.proofs.StepLemmas.{bind_assoc, bind_same, bind_ok_same, bind_ok}
use Rattle.vtk_legacy.proofs.CellLemmas.{indices-length}
use Rattle.vtk_legacy.proofs.KeptTypes.{types-kept}
use Rattle.vtk_legacy.proofs.FillLemmas.{filled-cut}

-- the points came, and these rows
abbrev parts_of : CellForm → ℕ → List Place → List Waiting → Parts
parts_of f n ps rows = record { form = f; number = n; points = ps; sizes = []; rows = rows; cells = [] }

-- the points came, and these sizes
abbrev sized_parts : CellForm → ℕ → List Place → List ℕ → Parts
sized_parts f n ps sizes = record { form = f; number = n; points = ps; sizes = sizes; rows = []; cells = [] }

-- the rules behind the cells
abbrev behind_types : List Place → List (Option Corners) × Left → Outcome
behind_types ps ts = attributes (mesh_of ps ts.0) ts.1

abbrev behind_cells : List Place → List Row × Left → Outcome
behind_cells ps rows = cell_types rows.0 rows.1 >>= behind_types ps

-- ---- types

types-left : (f : CellForm) (n : ℕ) (ps : List Place) (rows : List Row) (l : Left) → (types rows l >>= behind_types ps) ≡ in_types (length rows) (parts_of f n ps (map kept rows)) l
unfolding in_types in_attributes
types-left f n ps rows l = ap (λ (r : Read (List (Option Corners))). r >>= behind_types ps) (types-kept rows l)

types-count : (f : CellForm) (n : ℕ) (ps : List Place) (rows : List Row) (l : Left)
    → ((token l >>= count_again (length rows)) >>= λ first. types rows first >>= behind_types ps) ≡ in_type_count (parts_of f n ps (map kept rows)) l
unfolding in_type_count
types-count f n ps rows l =
    rw (length-map rows kept) (bind_same (token l >>= count_again (length rows)) _ _ (types-left f n ps rows))

types-then : (f : CellForm) (n : ℕ) (ps : List Place) (rows : List Row) (l : Left) → behind_cells ps (rows, l) ≡ (blocks l >>= in_type_word (parts_of f n ps (map kept rows)))
unfolding in_type_word
types-then f n ps rows l =
    bind_assoc (blocks l) (λ word. expect (codes "cell_types") kinds.Keyword word >>= λ after. (token after >>= count_again (length rows)) >>= types rows) (behind_types ps)
    ∙ bind_same (blocks l) _ _ (λ word.
    bind_assoc (expect (codes "cell_types") kinds.Keyword word) (λ after. (token after >>= count_again (length rows)) >>= types rows) (behind_types ps)
    ∙ bind_same (expect (codes "cell_types") kinds.Keyword word) _ _ (λ after.
    bind_assoc (token after >>= count_again (length rows)) (types rows) (behind_types ps)
    ∙ types-count f n ps rows after))

-- ---- cells with counts

counts-then : (f : CellForm) (n : ℕ) (ps : List Place) (l : Left) → (counted_cells n l >>= behind_cells ps) ≡ in_cell_count (parts_of f n ps []) l
unfolding in_cell_count in_cell_size in_heads
counts-then f n ps l =
    bind_assoc (count 4000000 l) (λ m. token m.1 >>= λ t. count_taken most_count t >>= λ size. counted_rows n m.0 size.0 t.0.place size.1) (behind_cells ps)
    ∙ bind_same (count 4000000 l) _ _ (λ m.
    bind_assoc (token m.1) (λ t. count_taken most_count t >>= λ size. counted_rows n m.0 size.0 t.0.place size.1) (behind_cells ps)
    ∙ bind_same (token m.1) _ _ (λ t.
    bind_assoc (count_taken most_count t) (λ size. counted_rows n m.0 size.0 t.0.place size.1) (behind_cells ps)
    ∙ bind_same (count_taken most_count t) _ _ (λ size.
    bind_same (counted_rows n m.0 size.0 t.0.place size.1) _ _ (λ rs. types-then f n ps rs.0 rs.1))))

-- ---- cells with offsets

numbers-then : (f : CellForm) (n a b : ℕ) (ps : List Place) (os : List ℕ × Left) (l l' : Left) → (a ≡ 0 → b ≡ 0) → offsets a true 0 b l' ≡ Ok os
    → ((indices n b l >>= cut_by os.0) >>= behind_cells ps) ≡ in_numbers b (sized_parts f n ps (offset_sizes true 0 os.0)) l
unfolding in_numbers
numbers-then f n a b ps os l l' none e =
    bind_assoc (indices n b l) (cut_by os.0) (behind_cells ps)
    ∙ bind_ok_same (indices n b l) _ _ (λ numbers h.
    types-then f n ps (rows_of numbers.0 os.0) numbers.1
    ∙ ap (λ (rows : List Waiting). blocks numbers.1 >>= in_type_word (parts_of f n ps rows)) (sym (filled-cut a b l' os numbers.0 none e (indices-length n b l numbers h))))

connectivity-then : (f : CellForm) (n a b : ℕ) (ps : List Place) (os : List ℕ × Left) (l l' : Left) → (a ≡ 0 → b ≡ 0) → offsets a true 0 b l' ≡ Ok os
    → ((expect (codes "connectivity") kinds.Keyword l >>= λ after. numeric kinds.Keyword after >>= λ second. indices n b second >>= cut_by os.0) >>= behind_cells ps)
    ≡ in_connectivity b (sized_parts f n ps (offset_sizes true 0 os.0)) l
unfolding in_connectivity in_number_type
connectivity-then f n a b ps os l l' none e =
    bind_assoc (expect (codes "connectivity") kinds.Keyword l) (λ after. numeric kinds.Keyword after >>= λ second. indices n b second >>= cut_by os.0) (behind_cells ps)
    ∙ bind_same (expect (codes "connectivity") kinds.Keyword l) _ _ (λ after.
    bind_assoc (numeric kinds.Keyword after) (λ second. indices n b second >>= cut_by os.0) (behind_cells ps)
    ∙ bind_same (numeric kinds.Keyword after) _ _ (λ second. numbers-then f n a b ps os second l' none e))

abbrev behind_offsets : ℕ → ℕ → List ℕ × Left → Read (List Row)
behind_offsets n b os =
    blocks os.1 >>= λ word. expect (codes "connectivity") kinds.Keyword word >>= λ after. numeric kinds.Keyword after >>= λ second. indices n b second >>= cut_by os.0

rows-then : (f : CellForm) (n a b : ℕ) (ps : List Place) (l : Left) → (a ≡ 0 → b ≡ 0) → (offset_rows n a b l >>= behind_cells ps) ≡ in_offset_type a b (parts_of f n ps []) l
unfolding in_offset_type in_offsets
rows-then f n a b ps l none =
    bind_assoc (numeric kinds.Keyword l) (λ type. offsets a true 0 b type >>= behind_offsets n b) (behind_cells ps)
    ∙ bind_same (numeric kinds.Keyword l) _ _ (λ type.
    bind_assoc (offsets a true 0 b type) (behind_offsets n b) (behind_cells ps)
    ∙ bind_ok_same (offsets a true 0 b type) _ _ (λ os e.
    bind_assoc (blocks os.1) (λ word. expect (codes "connectivity") kinds.Keyword word >>= λ after. numeric kinds.Keyword after >>= λ second. indices n b second >>= cut_by os.0) (behind_cells ps)
    ∙ bind_same (blocks os.1) _ _ (λ word. connectivity-then f n a b ps os word type none e)))

where_offsets : (w : Bool) (f : CellForm) (n : ℕ) (ps : List Place) (l l' : Left)
    → (cond w (offset_rows n 0 0 l') (Ok ([], l)) >>= behind_cells ps) ≡ cond w (in_offset_type 0 0 (parts_of f n ps []) l') (blocks l >>= in_type_word (parts_of f n ps []))
where_offsets true f n ps l l' = rows-then f n 0 0 ps l' (λ h. refl)
where_offsets false f n ps l l' = types-then f n ps [] l

maybe-then : (o : Option (Token × Left)) (f : CellForm) (n : ℕ) (ps : List Place) (l : Left) → (maybe_offsets n o l >>= behind_cells ps) ≡ or_offsets (parts_of f n ps []) o l
maybe-then None f n ps l = types-then f n ps [] l
maybe-then (Some t) f n ps l = where_offsets (word_is t.0.text (codes "offsets")) f n ps l t.1

by_count : (c : Bool) (f : CellForm) (n a : ℕ) (ps : List Place) (b : ℕ × Left) → (c ≡ false → a ≡ 0 → b.0 ≡ 0)
    → (cond c (maybe_offsets n (next_token b.1) b.1) (expect (codes "offsets") kinds.Keyword b.1 >>= offset_rows n a b.0) >>= behind_cells ps)
    ≡ cond c (in_maybe_offsets (parts_of f n ps []) b.1) (in_offset_word a b.0 (parts_of f n ps []) b.1)
unfolding in_maybe_offsets in_offset_word
by_count true f n a ps b none = maybe-then (next_token b.1) f n ps b.1
by_count false f n a ps b none =
    bind_assoc (expect (codes "offsets") kinds.Keyword b.1) (offset_rows n a b.0) (behind_cells ps)
    ∙ bind_same (expect (codes "offsets") kinds.Keyword b.1) _ _ (λ after. rows-then f n a b.0 ps after (none refl))

no_offset : (a b : ℕ) → (a == 0) ≡ false → a ≡ 0 → b ≡ 0
no_offset a b some none = let h : true ≡ false = rw none at some in absurd cc

abbrev behind_numbers : ℕ → ℕ → ℕ × Left → Read (List Row)
behind_numbers n a b = cond (a == 0) (maybe_offsets n (next_token b.1) b.1) (expect (codes "offsets") kinds.Keyword b.1 >>= offset_rows n a b.0)

offsets-then : (f : CellForm) (n : ℕ) (ps : List Place) (l : Left) → (offset_cells n l >>= behind_cells ps) ≡ in_offset_count (parts_of f n ps []) l
unfolding in_offset_count in_number_count
offsets-then f n ps l =
    bind_assoc (count 4000001 l) (λ a. token a.1 >>= λ t. count_taken most_count t >>= λ counts. numbers_taken a.0 t counts >>= behind_numbers n a.0) (behind_cells ps)
    ∙ bind_same (count 4000001 l) _ _ (λ a.
    bind_assoc (token a.1) (λ t. count_taken most_count t >>= λ counts. numbers_taken a.0 t counts >>= behind_numbers n a.0) (behind_cells ps)
    ∙ bind_same (token a.1) _ _ (λ t.
    bind_assoc (count_taken most_count t) (λ counts. numbers_taken a.0 t counts >>= behind_numbers n a.0) (behind_cells ps)
    ∙ bind_same (count_taken most_count t) _ _ (λ counts.
    bind_assoc (numbers_taken a.0 t counts) (behind_numbers n a.0) (behind_cells ps)
    ∙ bind_same (numbers_taken a.0 t counts) _ _ (λ b. by_count (a.0 == 0) f n a.0 ps b (no_offset a.0 b.0)))))

-- ---- cells

form-then : (f : CellForm) (n : ℕ) (ps : List Place) (l : Left) → (cells_in f n l >>= behind_cells ps) ≡ in_form f (parts_of f n ps []) l
form-then form.Counts n ps l = counts-then form.Counts n ps l
form-then form.Offsets n ps l = offsets-then form.Offsets n ps l

cells-then : (f : CellForm) (n : ℕ) (ps : List Place) (l : Left) → (cells f n l >>= behind_cells ps) ≡ (blocks l >>= in_cells (parts_of f n ps []))
unfolding in_cells
cells-then f n ps l =
    bind_assoc (blocks l) (λ word. expect (codes "cells") kinds.Keyword word >>= cells_in f n) (behind_cells ps)
    ∙ bind_same (blocks l) _ _ (λ word.
    bind_assoc (expect (codes "cells") kinds.Keyword word) (cells_in f n) (behind_cells ps)
    ∙ bind_same (expect (codes "cells") kinds.Keyword word) _ _ (form-then f n ps))

-- ---- points

-- so many points are that many
pub places-length : (n : ℕ) (l : Left) (x : List Place × Left) → places n l ≡ Ok x → length x.0 ≡ n
unfolding places
places-length zero l x e = let h : ([], l) ≡ x = cc in ap (λ (y : List Place × Left). length y.0) (sym h)
places-length (suc n) l x e =
    let p = bind_ok (point l) _ x e in
    let ps = bind_ok (places n p.0.1) (with_first p.0.0) x p.2 in
    let h : (p.0.0 ∷ ps.0.0, ps.0.1) ≡ x = cc (ps.2) in
    ap (λ (y : List Place × Left). length y.0) (sym h) ∙ ap suc (places-length n p.0.1 ps.0 ps.1)

abbrev behind_points : CellForm → List Place × Left → Outcome
behind_points f ps = cells f (length ps.0) ps.1 >>= behind_cells ps.0

points-then : (f : CellForm) (l : Left) → (points l >>= behind_points f) ≡ in_between section.Points (with_form f (nothing_in form.Counts)) l
unfolding in_between in_section in_points in_point_count in_point_type in_places
points-then f l =
    bind_assoc (blocks l) (λ word. expect (codes "points") kinds.Keyword word >>= λ after. count 1000000 after >>= λ n. numeric kinds.Keyword n.1 >>= places n.0) (behind_points f)
    ∙ bind_same (blocks l) _ _ (λ word.
    bind_assoc (expect (codes "points") kinds.Keyword word) (λ after. count 1000000 after >>= λ n. numeric kinds.Keyword n.1 >>= places n.0) (behind_points f)
    ∙ bind_same (expect (codes "points") kinds.Keyword word) _ _ (λ after.
    bind_assoc (count 1000000 after) (λ n. numeric kinds.Keyword n.1 >>= places n.0) (behind_points f)
    ∙ bind_same (count 1000000 after) _ _ (λ n.
    bind_assoc (numeric kinds.Keyword n.1) (places n.0) (behind_points f)
    ∙ bind_same (numeric kinds.Keyword n.1) _ _ (λ type.
    bind_ok_same (places n.0 type) _ _ (λ ps e.
    rw (places-length n.0 type ps e) (cells-then f n.0 ps.0 ps.1))))))

-- ---- the whole text

dataset-then : (f : CellForm) (l : Left) → (dataset l >>= λ second. points second >>= behind_points f) ≡ in_dataset (with_form f (nothing_in form.Counts)) l
unfolding in_dataset in_grid
dataset-then f l =
    bind_assoc (expect (codes "dataset") kinds.Keyword l) (expect (codes "unstructured_grid") kinds.DataSet) (λ second. points second >>= behind_points f)
    ∙ bind_same (expect (codes "dataset") kinds.Keyword l) _ _ (λ word. bind_same (expect (codes "unstructured_grid") kinds.DataSet word) _ _ (points-then f))

pub from_start : (text : List ℕ) → mesh_text text ≡ goes_on stage.Version (nothing_in form.Counts) (whole_text text)
unfolding mesh_text goes_on in_version in_title in_format
from_start text =
    bind_same (version (whole_text text)) _ _ (λ f.
    bind_same (title f.1) _ _ (λ behind. bind_same (format behind) _ _ (dataset-then f.0)))
