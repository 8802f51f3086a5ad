-- The text that is written is read as the mesh without its absent cells.
use Rattle.std.proofs.Common.{◌≡◌, ℕ, ◌+◌, ◌*◌, ◌<◌, ◌≤◌, true, false, List, [], ◌∷◌, ◌++◌, length, drop, map, flat_map, Option, Some, None, Ok, All, IfSome, ℤ, refl, sym, ap, subst, ◌∙◌, append_assoc, arith}
use Rattle.std.specs.Prelude.{codes}
use Rattle.std.specs.List.{list_any}
use Rattle.std.specs.Option.{is_some}
use Rattle.std.specs.Fmt.{signed_decimal}
use Rattle.std.proofs.lemmas.Bool.{lt-ltb, le-leb, or_parts}
use Rattle.std.proofs.lemmas.Int.{ints}
use Rattle.std.proofs.lemmas.List.{append-nil, take_at, drop_at, length-append, length-map}
use Rattle.std.proofs.lemmas.List.Elements.{All-cons, All-head, All-tail}
use Rattle.std.proofs.lemmas.List.Sums.{count_by-le-length}
use Rattle.std.proofs.lemmas.Grind.{flat_map-append}
use Rattle.mesh_base.specs.Mesh.{MeshView, IsMesh, Corners, live, IsWithin, AreDifferent}
use Rattle.mesh_base.specs.Place.{Place, IsPlace, IsCoordinate}
use Rattle.oct_text.specs.Rest.{is_lf, line_len, after_line, is_word}
use Rattle.oct_text.specs.Line.{IsLine, line_front, without_cr}
use Rattle.oct_text.proofs.Written.{is_word-decimal, is_word-signed_decimal}
use Rattle.vtk_legacy.specs.declared.gathered.CellForm.TheVariants as form
use Rattle.vtk_legacy.specs.Version.{has_magic, version_form}
use Rattle.vtk_legacy.specs.MeshText.{mesh_text, version, title, whole_text}
use Rattle.vtk_legacy.specs.Written.{line, first_lines, point_line, point_lines, cell_line, cell_lines, type_lines, mesh_spelling, without_absent}
use Rattle.vtk_legacy.proofs.WrittenLists.{count_by-live, live-whole}
use Rattle.vtk_legacy.proofs.WrittenWords.{left_at, Follows, AreLines, AreLines-append, words_of, follows-lines}
use Rattle.vtk_legacy.proofs.WrittenRules.{points-read, cells-read, cell_types-read, format-passes, dataset-passes, attributes-end}

-- ---- the first two lines

line_len-text : (text rest : List ℕ) → list_any is_lf text ≡ false → line_len (text ++ 10 ∷ rest) ≡ length text
line_len-text [] rest h = refl
line_len-text (b ∷ text) rest h =
    let p = or_parts (is_lf b) (list_any is_lf text) h in
    let later = line_len-text text rest p.1 in
    simp p.0 (omega (arith, later))

after_line-text : (place : ℕ) (text rest : List ℕ) → list_any is_lf text ≡ false → after_line (left_at place (text ++ 10 ∷ rest)) ≡ left_at (place + (length text + 1)) rest
after_line-text place text rest h =
    let len = line_len-text text rest h in
    let lt : length text < length (text ++ 10 ∷ rest) = omega (arith, length-append text (10 ∷ rest)) in
    let all : drop (length text + 1) (text ++ 10 ∷ rest) ≡ rest =
    ap (drop (length text + 1)) (sym (append_assoc text (10 ∷ []) rest)) ∙ drop_at (text ++ 10 ∷ []) rest (length text + 1) (length-append text (10 ∷ [])) in
    rw (len, lt-ltb (length text) (length (text ++ 10 ∷ rest)) lt, all) refl

line_front-text : (text rest : List ℕ) → list_any is_lf text ≡ false → length text ≤ 256 → without_cr text ≡ text → line_front 256 (text ++ 10 ∷ rest) ≡ IsLine text
unfolding line_front
line_front-text text rest h few same =
    let len = line_len-text text rest h in
    let lt : length text < length (text ++ 10 ∷ rest) = omega (arith, length-append text (10 ∷ rest)) in
    rw (len, lt-ltb (length text) (length (text ++ 10 ∷ rest)) lt, lt-ltb (length text) 258 (omega arith), take_at text (10 ∷ rest) (length text) refl, same, le-leb (length text) 256 few) refl

abbrev first_line : List ℕ
first_line = codes "# vtk DataFile Version 3.0"

abbrev second_line : List ℕ
second_line = codes "octopus mesh"

version-reads : (rest : List ℕ) → version (whole_text (first_line ++ 10 ∷ rest)) ≡ Ok (form.Counts, left_at 27 rest)
unfolding has_magic version_form
version-reads rest = rw (line_front-text first_line rest refl (omega arith) refl, after_line-text 0 first_line rest refl) refl

title-passes : (place : ℕ) (rest : List ℕ) → title (left_at place (second_line ++ 10 ∷ rest)) ≡ Ok (left_at (place + 13) rest)
title-passes place rest = rw (line_front-text second_line rest refl (omega arith) refl, after_line-text place second_line rest refl) refl

-- ---- the lines of a mesh have words

fits_word : (z : ℤ) → IsCoordinate z → is_word (signed_decimal z) ≡ true
fits_word z h = is_word-signed_decimal z (omega (arith, ints, h.0, h.1))

point_lines-words : (ps : List Place) → All IsPlace ps → AreLines (map point_line ps)
point_lines-words [] h = tt
point_lines-words (p ∷ ps) h =
    let here = All-head IsPlace p ps h in
    ((fits_word p.0 here.0, (fits_word p.1 here.1, fits_word p.2 here.2)), point_lines-words ps (All-tail IsPlace p ps h))

cell_lines-words : (n : ℕ) (cells : List Corners) → n ≤ 1000000 → All (IsWithin n) cells → AreLines (map cell_line cells)
cell_lines-words n [] few h = tt
cell_lines-words n (c ∷ cells) few h =
    let here = All-head (IsWithin n) c cells h in
    let word = λ (i : ℕ) (lt : i < n). is_word-decimal i (omega (arith, lt, few)) in
    ((refl, (word c.0 here.0, (word c.1 here.1, (word c.2 here.2, word c.3 here.3)))), cell_lines-words n cells few (All-tail (IsWithin n) c cells h))

type_lines-words : (cells : List Corners) → AreLines (map (λ _. codes "10" ∷ []) cells)
type_lines-words [] = tt
type_lines-words (c ∷ cells) = (refl, type_lines-words cells)

-- ---- live cells

live-all : (P : Corners → Type 0) (cells : List (Option Corners)) → All (λ cell. IfSome cell P) cells → All P (live cells)
live-all P [] h = λ k d lt. absurd (omega arith)
live-all P (None ∷ cells) h = live-all P cells (All-tail (λ cell. IfSome cell P) None cells h)
live-all P (Some c ∷ cells) h = All-cons P c (live cells) (All-head (λ cell. IfSome cell P) (Some c) cells h) (live-all P cells (All-tail (λ cell. IfSome cell P) (Some c) cells h))

live-few : (cells : List (Option Corners)) → length (live cells) ≤ length cells
live-few cells = omega (arith, count_by-live cells, count_by-le-length (λ c. is_some c) cells)

-- ---- the whole text

-- the lines behind the title
abbrev further_lines : List Place → List Corners → List (List (List ℕ))
further_lines ps cs = (codes "ASCII" ∷ []) ∷ (codes "DATASET" ∷ codes "UNSTRUCTURED_GRID" ∷ []) ∷ point_lines ps ++ (cell_lines cs ++ type_lines cs)

all_words : (ps : List Place) (cs : List Corners) → words_of (point_lines ps ++ (cell_lines cs ++ type_lines cs)) ≡ words_of (point_lines ps) ++ (words_of (cell_lines cs) ++ (words_of (type_lines cs) ++ []))
all_words ps cs =
    flat_map-append (λ l. l) (point_lines ps) (cell_lines cs ++ type_lines cs)
    ∙ ap (λ (l : List (List ℕ)). words_of (point_lines ps) ++ l) (flat_map-append (λ l. l) (cell_lines cs) (type_lines cs) ∙ ap (λ (l : List (List ℕ)). words_of (cell_lines cs) ++ l) (sym (append-nil (words_of (type_lines cs)))))

parts_again : (ps : List Place) (cs : List Corners) → length ps ≤ 1000000 → length cs ≤ 4000000 → All IsPlace ps → All (IsWithin (length ps)) cs → All AreDifferent cs
    → mesh_text (first_line ++ 10 ∷ (second_line ++ 10 ∷ flat_map line (further_lines ps cs))) ≡ Ok (record { points = ps; cells = map (λ c. Some c) cs })
unfolding mesh_text
parts_again ps cs few_points few in_range within different =
    let heads = λ (n : ℕ) (le : n ≤ 20000000). is_word-decimal n (omega (arith, le)) in
    let of_points : AreLines (point_lines ps) = ((refl, (heads (length ps) (omega arith), refl)), point_lines-words ps in_range) in
    let of_cells : AreLines (cell_lines cs) = ((refl, (heads (length cs) (omega arith), heads (5 * length cs) (omega arith))), cell_lines-words (length ps) cs few_points within) in
    let of_types : AreLines (type_lines cs) = ((refl, heads (length cs) (omega arith)), type_lines-words cs) in
    let are_lines : AreLines (further_lines ps cs) =
    (refl, ((refl, refl), AreLines-append (point_lines ps) (cell_lines cs ++ type_lines cs) of_points (AreLines-append (cell_lines cs) (type_lines cs) of_cells of_types))) in
    let tail = flat_map line (further_lines ps cs) in
    let after_types : List (List ℕ) = words_of (type_lines cs) ++ [] in
    let after_cells : List (List ℕ) = words_of (cell_lines cs) ++ after_types in
    let after_points : List (List ℕ) = words_of (point_lines ps) ++ after_cells in
    let f = subst (λ (ws : List (List ℕ)). Follows (codes "ASCII" ∷ codes "DATASET" ∷ codes "UNSTRUCTURED_GRID" ∷ ws) (left_at 40 tail)) (all_words ps cs) (follows-lines (further_lines ps cs) are_lines 40) in
    let a = format-passes (codes "DATASET" ∷ codes "UNSTRUCTURED_GRID" ∷ after_points) (left_at 40 tail) f in
    let b = dataset-passes after_points a.left a.rest in
    let c = points-read ps after_cells b.left few_points in_range b.rest in
    let d = cells-read (length ps) cs after_types c.left few_points few within c.rest in
    let e = cell_types-read cs [] d.left few different d.rest in
    let g = attributes-end (record { points = ps; cells = map (λ x. Some x) cs }) e.left e.rest in
    rw (version-reads (second_line ++ 10 ∷ tail), title-passes 27 tail, a.is, b.is, c.is, d.is, e.is, g) refl

pub written_again : (mesh : MeshView) → IsMesh mesh.points mesh.cells → All IsPlace mesh.points → mesh_text (mesh_spelling mesh) ≡ Ok (without_absent mesh)
unfolding mesh_spelling
written_again mesh valid places =
    parts_again mesh.points (live mesh.cells) valid.few_points (omega (arith, valid.few_cells, live-few mesh.cells)) places (live-all (IsWithin (length mesh.points)) mesh.cells valid.within) (live-all AreDifferent mesh.cells valid.different)

-- ---- the mesh that is read

some-all : (P : Corners → Type 0) (cells : List Corners) → All P cells → All (λ cell. IfSome cell P) (map (λ c. Some c) cells)
some-all P [] h = λ k d lt. absurd (omega arith)
some-all P (c ∷ cells) h = All-cons (λ cell. IfSome cell P) (Some c) (map (λ x. Some x) cells) (All-head P c cells h) (some-all P cells (All-tail P c cells h))

pub whole_mesh : (mesh : MeshView) → IsMesh mesh.points mesh.cells → IsMesh (without_absent mesh).points (without_absent mesh).cells
whole_mesh mesh valid = record {
  few_points = valid.few_points;
  few_cells = omega (arith, length-map (live mesh.cells) (λ c. Some c), live-few mesh.cells, valid.few_cells);
  within = some-all (IsWithin (length mesh.points)) (live mesh.cells) (live-all (IsWithin (length mesh.points)) mesh.cells valid.within);
  different = some-all AreDifferent (live mesh.cells) (live-all AreDifferent mesh.cells valid.different);
}

pub same_text : (mesh : MeshView) → mesh_spelling (without_absent mesh) ≡ mesh_spelling mesh
unfolding mesh_spelling
same_text mesh = ap (λ (cells : List Corners). flat_map line (first_lines ++ (point_lines mesh.points ++ (cell_lines cells ++ type_lines cells)))) (live-whole (live mesh.cells))
