-- What the rules of the mesh text make of words that are left.
use Rattle.std.proofs.Common.{◌≡◌, ℕ, suc, ◌-◌, ◌*◌, ◌<◌, ◌≤◌, true, false, List, [], ◌∷◌, ◌++◌, length, map, Some, Result, Ok, ℤ, refl, ap, ◌∙◌, arith}
use Rattle.std.specs.Prelude.{codes, All}
use Rattle.std.specs.Fmt.{decimal, signed_decimal}
use Rattle.std.specs.Str.Parse.{digits_value}
use Rattle.std.proofs.lemmas.Bool.{lt-ltb, le-ltb, le-leb, ne_eqb, eq-eqb}
use Rattle.std.proofs.lemmas.List.{length-map}
use Rattle.std.proofs.lemmas.List.Elements.{All-head, All-tail}
use Rattle.mesh_base.specs.Mesh.{MeshView, Corners, AreDifferent, IsWithin}
use Rattle.mesh_base.specs.Place.{Place, IsPlace}
use Rattle.oct_text.specs.Rest.{Left, end_of}
use Rattle.oct_text.specs.Numbers.{count_of, coordinate_of, is_numeral}
use Rattle.oct_text.proofs.Written.{IsPrinted, decimal-printed, count_of-decimal, coordinate_of-decimal}
use Rattle.vtk_legacy.specs.declared.fault.MeshKind.{MeshKind}
use Rattle.vtk_legacy.specs.declared.fault.MeshKind.TheVariants as kinds
use Rattle.vtk_legacy.specs.declared.gathered.CellForm.TheVariants as form
use Rattle.vtk_legacy.specs.Words.{word_is, is_numeric}
use Rattle.vtk_legacy.specs.Readings.{Fault, Read, ◌>>=◌, or_truncated, token, expect, expected, count, count_taken, counted, coordinate, coordinate_taken, placed, numeric, numeric_taken, most_count}
use Rattle.vtk_legacy.specs.MeshText.{blocks, blocks_within, on_block, point, places, points, Row, indexed, indices, head_taken, head_sized, counted_rows, cells as cells_of, typed, types, has_twins, count_again, same_count, cell_types, format, format_taken, dataset, attributes}
use Rattle.vtk_legacy.specs.Written.{point_line, point_lines, cell_line, cell_lines, type_lines}
use Rattle.vtk_legacy.proofs.WrittenWords.{First, Follows, words_of}

-- a rule reads this, and these words are left
pub record Reads {A : Type 0} (read : Read A) (value : A) (ws : List (List ℕ)) : Type 0 where
  pub left : Left
  pub is : read ≡ Ok (value, left)
  pub rest : Follows ws left

-- a rule passes, and these words are left
pub record Passes (read : Result Left Fault) (ws : List (List ℕ)) : Type 0 where
  pub left : Left
  pub is : read ≡ Ok left
  pub rest : Follows ws left

-- ---- one token

token-first : {Then : Left → Type 0} (w : List ℕ) (l : Left) → (f : First w l Then) → token l ≡ Ok f.token
token-first w l f = ap (or_truncated (end_of l)) f.is

taken-count : {Then : Left → Type 0} (most n : ℕ) (w : List ℕ) (l : Left) → count_of w most ≡ Ok n → (f : First w l Then) → count_taken most f.token ≡ Ok (n, f.token.1)
taken-count most n w l e f = ap (λ text. counted f.token (count_of text most)) f.text ∙ ap (counted f.token) e

pub count-reads : (most n : ℕ) (w : List ℕ) (ws : List (List ℕ)) (l : Left) → count_of w most ≡ Ok n → Follows (w ∷ ws) l → Reads (count most l) n ws
count-reads most n w ws l e f = record {
  left = f.token.1;
  is = ap (λ r. r >>= count_taken most) (token-first w l f) ∙ taken-count most n w l e f;
  rest = f.rest;
}

pub coordinate-reads : (z : ℤ) (w : List ℕ) (ws : List (List ℕ)) (l : Left) → coordinate_of w ≡ Ok z → Follows (w ∷ ws) l → Reads (coordinate l) z ws
coordinate-reads z w ws l e f = record {
  left = f.token.1;
  is = ap (λ r. r >>= coordinate_taken) (token-first w l f) ∙ ap (λ text. placed f.token (coordinate_of text)) f.text ∙ ap (placed f.token) e;
  rest = f.rest;
}

pub expect-passes : (word : List ℕ) (kind : MeshKind) (w : List ℕ) (ws : List (List ℕ)) (l : Left) → word_is w word ≡ true → Follows (w ∷ ws) l → Passes (expect word kind l) ws
expect-passes word kind w ws l e f =
    let test : word_is f.token.0.text word ≡ true = ap (λ t. word_is t word) f.text ∙ e in
    record { left = f.token.1; is = ap (λ r. r >>= expected word kind) (token-first w l f) ∙ rw test refl; rest = f.rest }

pub numeric-passes : (kind : MeshKind) (w : List ℕ) (ws : List (List ℕ)) (l : Left) → is_numeric w ≡ true → Follows (w ∷ ws) l → Passes (numeric kind l) ws
numeric-passes kind w ws l e f =
    let test : is_numeric f.token.0.text ≡ true = ap is_numeric f.text ∙ e in
    record { left = f.token.1; is = ap (λ r. r >>= numeric_taken kind) (token-first w l f) ∙ rw test refl; rest = f.rest }

-- no block stands in front of this word
pub blocks-none : (w : List ℕ) (ws : List (List ℕ)) (l : Left) → word_is w (codes "field") ≡ false → word_is w (codes "metadata") ≡ false → Follows (w ∷ ws) l → blocks l ≡ Ok l
unfolding blocks_within
blocks-none w ws l a b f =
    let field : word_is f.token.0.text (codes "field") ≡ false = ap (λ t. word_is t (codes "field")) f.text ∙ a in
    let metadata : word_is f.token.0.text (codes "metadata") ≡ false = ap (λ t. word_is t (codes "metadata")) f.text ∙ b in
    ap (λ o. on_block o l (blocks_within (length l.bytes))) f.is ∙ rw (field, metadata) refl

pub blocks-end : (l : Left) → Follows [] l → blocks l ≡ Ok l
unfolding blocks_within
blocks-end l f = ap (λ o. on_block o l (blocks_within (length l.bytes))) f

numeral-printed : (n : ℕ) (ds : List ℕ) → IsPrinted n ds → is_numeral ds ≡ true
numeral-printed n ds p = rw (lt-ltb 0 (length ds) p.some, le-leb (length ds) 40 (omega (arith, p.short)), p.digits) refl

-- ---- points

point-reads : (p : Place) (ws : List (List ℕ)) (l : Left) → IsPlace p → Follows (point_line p ++ ws) l → Reads (point l) p ws
point-reads p ws l h f =
    let x = coordinate-reads p.0 (signed_decimal p.0) (signed_decimal p.1 ∷ signed_decimal p.2 ∷ ws) l (coordinate_of-decimal p.0 h.0.0 h.0.1) f in
    let y = coordinate-reads p.1 (signed_decimal p.1) (signed_decimal p.2 ∷ ws) x.left (coordinate_of-decimal p.1 h.1.0 h.1.1) x.rest in
    let z = coordinate-reads p.2 (signed_decimal p.2) ws y.left (coordinate_of-decimal p.2 h.2.0 h.2.1) y.rest in
    record { left = z.left; is = rw (x.is, y.is, z.is) refl; rest = z.rest }

places-read : (ps : List Place) (ws : List (List ℕ)) (l : Left) → All IsPlace ps → Follows (words_of (map point_line ps) ++ ws) l → Reads (places (length ps) l) ps ws
unfolding places
places-read [] ws l h f = record { left = l; is = refl; rest = f }
places-read (p ∷ ps) ws l h f =
    let x = point-reads p (words_of (map point_line ps) ++ ws) l (All-head IsPlace p ps h) f in
    let y = places-read ps ws x.left (All-tail IsPlace p ps h) x.rest in
    record { left = y.left; is = rw (x.is, y.is) refl; rest = y.rest }

pub points-read : (ps : List Place) (ws : List (List ℕ)) (l : Left) → length ps ≤ 1000000 → All IsPlace ps → Follows (words_of (point_lines ps) ++ ws) l → Reads (points l) ps ws
unfolding Rattle.vtk_legacy.specs.Words.is_unsigned Rattle.vtk_legacy.specs.Words.is_signed
points-read ps ws l few h f =
    let n = decimal (length ps) in
    let more : List (List ℕ) = words_of (map point_line ps) ++ ws in
    let b = blocks-none (codes "POINTS") (n ∷ codes "int" ∷ more) l refl refl f in
    let e = expect-passes (codes "points") kinds.Keyword (codes "POINTS") (n ∷ codes "int" ∷ more) l refl f in
    let k = count-reads 1000000 (length ps) n (codes "int" ∷ more) e.left (count_of-decimal (length ps) 1000000 few (omega arith)) e.rest in
    let t = numeric-passes kinds.Keyword (codes "int") more k.left refl k.rest in
    let r = places-read ps ws t.left h t.rest in
    record { left = r.left; is = rw (b, e.is, k.is, t.is, r.is) refl; rest = r.rest }

-- ---- cells

-- the corners of a cell as a list
abbrev pub row_of : Corners → Row
row_of c = c.0 ∷ c.1 ∷ c.2 ∷ c.3 ∷ []

index-reads : (n i : ℕ) (ws : List (List ℕ)) (l : Left) → n ≤ 1000000 → i < n → Follows (decimal i ∷ ws) l → Reads (token l >>= indexed n) i ws
index-reads n i ws l few lt f =
    let p = decimal-printed i (omega arith) in
    let numeral : is_numeral f.token.0.text ≡ true = ap is_numeral f.text ∙ numeral-printed i (decimal i) p in
    let value : digits_value 10 f.token.0.text ≡ i = ap (digits_value 10) f.text ∙ p.value in
    record { left = f.token.1; is = ap (λ r. r >>= indexed n) (token-first (decimal i) l f) ∙ rw (numeral, value, lt-ltb i n lt) refl; rest = f.rest }

row-reads : (n : ℕ) (c : Corners) (ws : List (List ℕ)) (l : Left) → n ≤ 1000000 → IsWithin n c → Follows (decimal c.0 ∷ decimal c.1 ∷ decimal c.2 ∷ decimal c.3 ∷ ws) l → Reads (indices n 4 l) (row_of c) ws
unfolding indices
row-reads n c ws l few h f =
    let x = index-reads n c.0 (decimal c.1 ∷ decimal c.2 ∷ decimal c.3 ∷ ws) l few h.0 f in
    let y = index-reads n c.1 (decimal c.2 ∷ decimal c.3 ∷ ws) x.left few h.1 x.rest in
    let z = index-reads n c.2 (decimal c.3 ∷ ws) y.left few h.2 y.rest in
    let t = index-reads n c.3 ws z.left few h.3 z.rest in
    record { left = t.left; is = rw (x.is, y.is, z.is, t.is) refl; rest = t.rest }

head-reads : (room : ℕ) (ws : List (List ℕ)) (l : Left) → 5 ≤ room → Follows (codes "4" ∷ ws) l → Reads (token l >>= head_taken room) 4 ws
unfolding count_of
head-reads room ws l le f = record {
  left = f.token.1;
  is = ap (λ r. r >>= head_taken room) (token-first (codes "4") l f) ∙ ap (λ text. counted f.token (count_of text most_count) >>= head_sized room f.token) f.text ∙ rw (le-ltb room 5 le) refl;
  rest = f.rest;
}

rows-read : (n place : ℕ) (cells : List Corners) (ws : List (List ℕ)) (l : Left) → n ≤ 1000000 → All (IsWithin n) cells → Follows (words_of (map cell_line cells) ++ ws) l
    → Reads (counted_rows n (length cells) (5 * length cells) place l) (map row_of cells) ws
unfolding counted_rows
rows-read n place [] ws l few h f = record { left = l; is = refl; rest = f }
rows-read n place (c ∷ cells) ws l few h f =
    let more : List (List ℕ) = words_of (map cell_line cells) ++ ws in
    let x = head-reads (5 * suc (length cells)) (decimal c.0 ∷ decimal c.1 ∷ decimal c.2 ∷ decimal c.3 ∷ more) l (omega arith) f in
    let y = row-reads n c more x.left few (All-head (IsWithin n) c cells h) x.rest in
    let z = rows-read n place cells ws y.left few (All-tail (IsWithin n) c cells h) y.rest in
    let room : 5 * suc (length cells) - 5 ≡ 5 * length cells = omega arith in
    record { left = z.left; is = rw (x.is, y.is, room, z.is) refl; rest = z.rest }

pub cells-read : (n : ℕ) (cells : List Corners) (ws : List (List ℕ)) (l : Left) → n ≤ 1000000 → length cells ≤ 4000000 → All (IsWithin n) cells → Follows (words_of (cell_lines cells) ++ ws) l
    → Reads (cells_of form.Counts n l) (map row_of cells) ws
cells-read n cells ws l few_points few h f =
    let m = decimal (length cells) in
    let size = decimal (5 * length cells) in
    let more : List (List ℕ) = words_of (map cell_line cells) ++ ws in
    let b = blocks-none (codes "CELLS") (m ∷ size ∷ more) l refl refl f in
    let e = expect-passes (codes "cells") kinds.Keyword (codes "CELLS") (m ∷ size ∷ more) l refl f in
    let k = count-reads 4000000 (length cells) m (size ∷ more) e.left (count_of-decimal (length cells) 4000000 few (omega arith)) e.rest in
    let t = token-first size k.left k.rest in
    let s = taken-count most_count (5 * length cells) size k.left (count_of-decimal (5 * length cells) most_count (omega arith) (omega arith)) k.rest in
    let r = rows-read n k.rest.token.0.place cells ws k.rest.token.1 few_points h k.rest.rest in
    record { left = r.left; is = rw (b, e.is, k.is, t, s, r.is) refl; rest = r.rest }

-- ---- types

no_twins : (c : Corners) → AreDifferent c → has_twins c ≡ false
no_twins c h = rw (ne_eqb c.0 c.1 h.0, ne_eqb c.0 c.2 h.1, ne_eqb c.0 c.3 h.2, ne_eqb c.1 c.2 h.3, ne_eqb c.1 c.3 h.4, ne_eqb c.2 c.3 h.5) refl

type-reads : (c : Corners) (ws : List (List ℕ)) (l : Left) → AreDifferent c → Follows (codes "10" ∷ ws) l → Reads (token l >>= typed (row_of c)) 10 ws
type-reads c ws l h f = record { left = f.token.1; is = ap (λ r. r >>= typed (row_of c)) (token-first (codes "10") l f) ∙ rw (f.text, no_twins c h) refl; rest = f.rest }

types-read : (cells : List Corners) (ws : List (List ℕ)) (l : Left) → All AreDifferent cells → Follows (words_of (map (λ _. codes "10" ∷ []) cells) ++ ws) l → Reads (types (map row_of cells) l) (map (λ c. Some c) cells) ws
unfolding types
types-read [] ws l h f = record { left = l; is = refl; rest = f }
types-read (c ∷ cells) ws l h f =
    let x = type-reads c (words_of (map (λ _. codes "10" ∷ []) cells) ++ ws) l (All-head AreDifferent c cells h) f in
    let y = types-read cells ws x.left (All-tail AreDifferent c cells h) x.rest in
    record { left = y.left; is = rw (x.is, y.is) refl; rest = y.rest }

again-passes : (m : ℕ) (w : List ℕ) (ws : List (List ℕ)) (l : Left) → count_of w most_count ≡ Ok m → Follows (w ∷ ws) l → Passes (token l >>= count_again m) ws
again-passes m w ws l e f = record {
  left = f.token.1;
  is = ap (λ r. r >>= count_again m) (token-first w l f) ∙ ap (λ r. r >>= same_count m f.token) (taken-count most_count m w l e f) ∙ rw (eq-eqb m m refl) refl;
  rest = f.rest;
}

pub cell_types-read : (cells : List Corners) (ws : List (List ℕ)) (l : Left) → length cells ≤ 4000000 → All AreDifferent cells → Follows (words_of (type_lines cells) ++ ws) l → Reads (cell_types (map row_of cells) l) (map (λ c. Some c) cells) ws
cell_types-read cells ws l few h f =
    let m = decimal (length cells) in
    let more : List (List ℕ) = words_of (map (λ _. codes "10" ∷ []) cells) ++ ws in
    let b = blocks-none (codes "CELL_TYPES") (m ∷ more) l refl refl f in
    let e = expect-passes (codes "cell_types") kinds.Keyword (codes "CELL_TYPES") (m ∷ more) l refl f in
    let k = again-passes (length cells) m more e.left (count_of-decimal (length cells) most_count (omega arith) (omega arith)) e.rest in
    let r = types-read cells ws k.left h k.rest in
    record { left = r.left; is = rw (b, e.is, length-map cells row_of, k.is, r.is) refl; rest = r.rest }

-- ---- the words in front, and the end

pub format-passes : (ws : List (List ℕ)) (l : Left) → Follows (codes "ASCII" ∷ ws) l → Passes (format l) ws
format-passes ws l f = record { left = f.token.1; is = ap (λ r. r >>= format_taken) (token-first (codes "ASCII") l f) ∙ rw f.text refl; rest = f.rest }

pub dataset-passes : (ws : List (List ℕ)) (l : Left) → Follows (codes "DATASET" ∷ codes "UNSTRUCTURED_GRID" ∷ ws) l → Passes (dataset l) ws
dataset-passes ws l f =
    let x = expect-passes (codes "dataset") kinds.Keyword (codes "DATASET") (codes "UNSTRUCTURED_GRID" ∷ ws) l refl f in
    let y = expect-passes (codes "unstructured_grid") kinds.DataSet (codes "UNSTRUCTURED_GRID") ws x.left refl x.rest in
    record { left = y.left; is = rw (x.is, y.is) refl; rest = y.rest }

pub attributes-end : (mesh : MeshView) (l : Left) → Follows [] l → attributes mesh l ≡ Ok mesh
attributes-end mesh l f = rw (blocks-end l f, f) refl
