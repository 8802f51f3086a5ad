-- The points and cells of a mesh text are a mesh.
use Rattle.std.proofs.Common.{◌≡◌, ℕ, zero, suc, ◌+◌, ◌-◌, ◌<◌, ◌≤◌, Bool, true, false, not, cond, List, [], ◌∷◌, length, take, drop, Result, Ok, Err, Option, Some, None, refl, sym, ap, subst, ◌∙◌, arith}
use Rattle.std.specs.Prelude.{◌&&◌, ◌||◌, ◌==◌, nat_lt, nat_le, codes, IfSome}
use Rattle.std.specs.Str.Parse.{digits_value}
use Rattle.std.proofs.lemmas.Bool.{ltb-true, leb-true, eqb-true, eqb-false}
use Rattle.std.proofs.lemmas.List.Elements.{All-cons, All-nil}
use Rattle.mesh_base.specs.Mesh.{MeshView, IsMesh, Corners, corners_of, IsWithin, AreWithin, AreDifferent, AreAllDifferent}
use Rattle.mesh_base.specs.Place.{Place}
use Rattle.oct_text.specs.Rest.{Left, Token, next_token}
use Rattle.oct_text.specs.Numbers.{is_numeral, count_of}
use Rattle.oct_text.specs.declared.numbers.CountFault.TheVariants as count_faults
use Rattle.vtk_legacy.specs.declared.fault.MeshKind.TheVariants as kinds
use Rattle.vtk_legacy.specs.declared.gathered.CellForm.{CellForm}
use Rattle.vtk_legacy.specs.declared.gathered.CellForm.TheVariants as form
use Rattle.vtk_legacy.specs.Words.{word_is}
use Rattle.vtk_legacy.specs.MeshText.{Fault, Read, Row, ◌>>=◌, fault, token, expect, count, count_taken, counted, most_count, numeric, with_first, blocks, version, title, format, dataset, points, indexed, indices, head_taken, counted_rows, counted_cells, offset_taken, offsets, cut_by, rows_from, rows_of, offset_rows, maybe_offsets, numbers_taken, offset_cells, cells_in, cells, tested, typed, types, with_cell, has_twins, size_fits, known_type, count_again, cell_types, ends, mesh_of, whole_text, mesh_text}
use Rattle.vtk_legacy.proofs.StepLemmas.{bind_ok}
use Rattle.vtk_legacy.proofs.Start.{places-length}

-- ---- what holds of each

abbrev Each : {A : Type 0} → (A → Type 0) → List A → Type 0
Each P [] = Unit {0}
Each P (x ∷ xs) = P x × Each P xs

each-take : {A : Type 0} (P : A → Type 0) (n : ℕ) (xs : List A) → Each P xs → Each P (take n xs)
each-take P zero xs h = tt
each-take P (suc n) [] h = tt
each-take P (suc n) (x ∷ xs) h = (h.0, each-take P n xs h.1)

each-drop : {A : Type 0} (P : A → Type 0) (n : ℕ) (xs : List A) → Each P xs → Each P (drop n xs)
each-drop P zero xs h = h
each-drop P (suc n) [] h = tt
each-drop P (suc n) (x ∷ xs) h = each-drop P n xs h.1

ok_part : {A : Type 0} (y x : A × Left) → (let r : Read A = Ok y in r) ≡ Ok x → y.0 ≡ x.0
ok_part y x e = let h : y ≡ x = cc in ap (λ (z : _ × Left). z.0) h

where_ok : {A : Type 0} (good : Bool) (y x : A × Left) (f : Fault) → cond {A = Read A} good (Ok y) (Err f) ≡ Ok x → (good ≡ true) × (y ≡ x)
where_ok true y x f e = (refl, cc)
where_ok false y x f e = absurd cc

-- ---- counts

count_where : (good small : Bool) (n most : ℕ) (t : Token × Left) (x : ℕ × Left) → (small ≡ true → n ≤ most)
    → counted t (cond good (cond small (Ok n) (Err count_faults.Over)) (Err count_faults.Bad)) ≡ Ok x → x.0 ≤ most
count_where true true n most t x h e = let same : n ≡ x.0 = ok_part (n, t.1) x e in omega (arith, same, h refl)
count_where true false n most t x h e = absurd cc
count_where false small n most t x h e = absurd cc

count-within : (most : ℕ) (l : Left) (x : ℕ × Left) → count most l ≡ Ok x → x.0 ≤ most
unfolding count_of
count-within most l x e =
    let t = bind_ok (token l) (count_taken most) x e in
    let n = digits_value 10 t.0.0.text in
    count_where (is_numeral t.0.0.text) (nat_le n most) n most t.0 x (leb-true n most) t.2

-- ---- point numbers

abbrev AllBelow : ℕ → Row → Type 0
AllBelow n row = Each (λ p. p < n) row

index_where : (numeral below : Bool) (n p : ℕ) (t : Token × Left) (x : ℕ × Left) → (below ≡ true → p < n)
    → cond {A = Read ℕ} (not numeral) (Err (fault kinds.Number t.0.place)) (cond {A = Read ℕ} (not below) (Err (fault kinds.Index t.0.place)) (Ok (p, t.1))) ≡ Ok x → x.0 < n
index_where true true n p t x h e = let same : p ≡ x.0 = ok_part (p, t.1) x e in omega (arith, same, h refl)
index_where true false n p t x h e = absurd cc
index_where false below n p t x h e = absurd cc

index-below : (n : ℕ) (l : Left) (x : ℕ × Left) → (token l >>= indexed n) ≡ Ok x → x.0 < n
index-below n l x e =
    let t = bind_ok (token l) (indexed n) x e in
    let p = digits_value 10 t.0.0.text in
    index_where (is_numeral t.0.0.text) (nat_lt p n) n p t.0 x (ltb-true p n) t.2

indices-below : (n k : ℕ) (l : Left) (x : Row × Left) → indices n k l ≡ Ok x → AllBelow n x.0
unfolding indices
indices-below n zero l x e = subst (AllBelow n) (ok_part ([], l) x e) tt
indices-below n (suc k) l x e =
    let p = bind_ok (token l >>= indexed n) (λ p. indices n k p.1 >>= with_first p.0) x e in
    let ps = bind_ok (indices n k p.0.1) (with_first p.0.0) x p.2 in
    subst (AllBelow n) (ok_part (p.0.0 ∷ ps.0.0, ps.0.1) x ps.2) (index-below n l p.0 p.1, indices-below n k p.0.1 ps.0 ps.1)

-- ---- rows

abbrev AreRows : ℕ → ℕ → List Row → Type 0
AreRows n m rows = (length rows ≤ m) × Each (AllBelow n) rows

counted-rows : (n m room place : ℕ) (l : Left) (x : List Row × Left) → counted_rows n m room place l ≡ Ok x → AreRows n m x.0
unfolding counted_rows
counted-rows n zero room place l x e = subst (AreRows n 0) (ok_part ([], l) x (let h = where_ok (room == 0) ([], l) x _ e in ap Ok h.1)) (omega arith, tt)
counted-rows n (suc m) room place l x e =
    let c = bind_ok (token l >>= head_taken room) (λ c. indices n c.0 c.1 >>= λ row. counted_rows n m (room - (1 + c.0)) place row.1 >>= with_first row.0) x e in
    let row = bind_ok (indices n c.0.0 c.0.1) (λ row. counted_rows n m (room - (1 + c.0.0)) place row.1 >>= with_first row.0) x c.2 in
    let rows = bind_ok (counted_rows n m (room - (1 + c.0.0)) place row.0.1) (with_first row.0.0) x row.2 in
    let behind = counted-rows n m (room - (1 + c.0.0)) place row.0.1 rows.0 rows.1 in
    subst (AreRows n (suc m)) (ok_part (row.0.0 ∷ rows.0.0, rows.0.1) x rows.2) (omega (arith, behind.0), (indices-below n c.0.0 c.0.1 row.0 row.1, behind.1))

counted-cells : (n : ℕ) (l : Left) (x : List Row × Left) → counted_cells n l ≡ Ok x → AreRows n 4000000 x.0
counted-cells n l x e =
    let m = bind_ok (count 4000000 l) _ x e in
    let t = bind_ok (token m.0.1) _ x m.2 in
    let size = bind_ok (count_taken most_count t.0) _ x t.2 in
    let rows = counted-rows n m.0.0 size.0.0 t.0.0.place size.0.1 x size.2 in
    (omega (arith, rows.0, count-within 4000000 l m.0 m.1), rows.1)

offsets-length : (k : ℕ) (first : Bool) (before b : ℕ) (l : Left) (x : List ℕ × Left) → offsets k first before b l ≡ Ok x → length x.0 ≡ k
unfolding offsets
offsets-length zero first before b l x e = ap length (sym (ok_part ([], l) x e))
offsets-length (suc k) first before b l x e =
    let o = bind_ok (token l >>= offset_taken first (k == 0) before b) (λ o. offsets k false o.0 b o.1 >>= with_first o.0) x e in
    let os = bind_ok (offsets k false o.0.0 b o.0.1) (with_first o.0.0) x o.2 in
    ap length (sym (ok_part (o.0.0 ∷ os.0.0, os.0.1) x os.2)) ∙ ap suc (offsets-length k false o.0.0 b o.0.1 os.0 os.1)

rows_from-rows : (n : ℕ) (os numbers : List ℕ) (o : ℕ) → AllBelow n numbers → AreRows n (length os) (rows_from numbers o os)
rows_from-rows n [] numbers o h = (omega arith, tt)
rows_from-rows n (next ∷ os) numbers o h =
    let behind = rows_from-rows n os numbers next h in
    (omega (arith, behind.0), (each-take (λ p. p < n) (next - o) (drop o numbers) (each-drop (λ p. p < n) o numbers h), behind.1))

rows_of-rows : (n : ℕ) (os numbers : List ℕ) → AllBelow n numbers → AreRows n (length os - 1) (rows_of numbers os)
rows_of-rows n [] numbers h = (omega arith, tt)
rows_of-rows n (o ∷ os) numbers h = let rows = rows_from-rows n os numbers o h in (omega (arith, rows.0), rows.1)

offset-rows : (n a b : ℕ) (l : Left) (x : List Row × Left) → offset_rows n a b l ≡ Ok x → AreRows n (a - 1) x.0
offset-rows n a b l x e =
    let type = bind_ok (numeric kinds.Keyword l) _ x e in
    let os = bind_ok (offsets a true 0 b type.0) _ x type.2 in
    let word = bind_ok (blocks os.0.1) _ x os.2 in
    let after = bind_ok (expect (codes "connectivity") kinds.Keyword word.0) _ x word.2 in
    let second = bind_ok (numeric kinds.Keyword after.0) _ x after.2 in
    let numbers = bind_ok (indices n b second.0) (cut_by os.0.0) x second.2 in
    let rows = rows_of-rows n os.0.0 numbers.0.0 (indices-below n b second.0 numbers.0 numbers.1) in
    subst (AreRows n (a - 1)) (ok_part (rows_of numbers.0.0 os.0.0, numbers.0.1) x numbers.2) (omega (arith, rows.0, offsets-length a true 0 b type.0 os.0 os.1), rows.1)

no_offsets : (n : ℕ) (w : Bool) (l l' : Left) (x : List Row × Left) → cond {A = Read (List Row)} w (offset_rows n 0 0 l') (Ok ([], l)) ≡ Ok x → AreRows n 4000000 x.0
no_offsets n true l l' x e = let rows = offset-rows n 0 0 l' x e in (omega (arith, rows.0), rows.1)
no_offsets n false l l' x e = subst (AreRows n 4000000) (ok_part ([], l) x e) (omega arith, tt)

maybe-rows : (n : ℕ) (o : Option (Token × Left)) (l : Left) (x : List Row × Left) → maybe_offsets n o l ≡ Ok x → AreRows n 4000000 x.0
maybe-rows n None l x e = subst (AreRows n 4000000) (ok_part ([], l) x e) (omega arith, tt)
maybe-rows n (Some t) l x e = no_offsets n (word_is t.0.text (codes "offsets")) l t.1 x e

by_count : (n a b : ℕ) (c : Bool) (l : Left) (x : List Row × Left) → a ≤ 4000001
    → cond {A = Read (List Row)} c (maybe_offsets n (next_token l) l) (expect (codes "offsets") kinds.Keyword l >>= offset_rows n a b) ≡ Ok x → AreRows n 4000000 x.0
by_count n a b true l x le e = maybe-rows n (next_token l) l x e
by_count n a b false l x le e =
    let word = bind_ok (expect (codes "offsets") kinds.Keyword l) (offset_rows n a b) x e in
    let rows = offset-rows n a b word.0 x word.2 in
    (omega (arith, rows.0, le), rows.1)

offset-cells : (n : ℕ) (l : Left) (x : List Row × Left) → offset_cells n l ≡ Ok x → AreRows n 4000000 x.0
offset-cells n l x e =
    let a = bind_ok (count 4000001 l) _ x e in
    let t = bind_ok (token a.0.1) _ x a.2 in
    let counts = bind_ok (count_taken most_count t.0) _ x t.2 in
    let b = bind_ok (numbers_taken a.0.0 t.0 counts.0) _ x counts.2 in
    by_count n a.0.0 b.0.0 (a.0.0 == 0) b.0.1 x (count-within 4000001 l a.0 a.1) b.2

form-cells : (f : CellForm) (n : ℕ) (l : Left) (x : List Row × Left) → cells_in f n l ≡ Ok x → AreRows n 4000000 x.0
form-cells form.Counts n l x e = counted-cells n l x e
form-cells form.Offsets n l x e = offset-cells n l x e

cells-rows : (f : CellForm) (n : ℕ) (l : Left) (x : List Row × Left) → cells f n l ≡ Ok x → AreRows n 4000000 x.0
cells-rows f n l x e =
    let word = bind_ok (blocks l) _ x e in
    let after = bind_ok (expect (codes "cells") kinds.Keyword word.0) _ x word.2 in
    form-cells f n after.0 x after.2

-- ---- cells

-- a cell of the mesh
abbrev IsGood : ℕ → Option Corners → Type 0
IsGood n cell = IfSome cell (λ c. IsWithin n c × AreDifferent c)

four-within : (n : ℕ) (row : Row) → length row ≡ 4 → AllBelow n row → IsWithin n (corners_of row)
four-within n (a ∷ b ∷ c ∷ d ∷ []) e h = (h.0, h.1.0, h.1.1.0, h.1.1.1.0)
four-within n [] e h = absurd (omega arith)
four-within n (a ∷ []) e h = absurd (omega arith)
four-within n (a ∷ b ∷ []) e h = absurd (omega arith)
four-within n (a ∷ b ∷ c ∷ []) e h = absurd (omega arith)
four-within n (a ∷ b ∷ c ∷ d ∷ f ∷ row) e h = absurd (omega arith)

neither : (x y : Bool) → (x || y) ≡ false → (x ≡ false) × (y ≡ false)
neither false y e = (refl, e)
neither true y e = absurd cc

no_twins : (c : Corners) → has_twins c ≡ false → AreDifferent c
no_twins c e =
    let f = neither ((c.0 == c.1) || (c.0 == c.2) || (c.0 == c.3) || (c.1 == c.2) || (c.1 == c.3)) (c.2 == c.3) e in
    let g = neither ((c.0 == c.1) || (c.0 == c.2) || (c.0 == c.3) || (c.1 == c.2)) (c.1 == c.3) f.0 in
    let h = neither ((c.0 == c.1) || (c.0 == c.2) || (c.0 == c.3)) (c.1 == c.2) g.0 in
    let i = neither ((c.0 == c.1) || (c.0 == c.2)) (c.0 == c.3) h.0 in
    let j = neither (c.0 == c.1) (c.0 == c.2) i.0 in
    (eqb-false c.0 c.1 j.0, eqb-false c.0 c.2 j.1, eqb-false c.0 c.3 i.1, eqb-false c.1 c.2 h.1, eqb-false c.1 c.3 g.1, eqb-false c.2 c.3 f.1)

passed_tests : (numeral known fits ten twins : Bool) (v : ℕ) (t : Token × Left) (x : ℕ × Left) → tested numeral known fits (not (ten && twins)) v t ≡ Ok x
    → (fits ≡ true) × (v ≡ x.0) × (ten ≡ true → twins ≡ false)
passed_tests false known fits ten twins v t x e = absurd cc
passed_tests true false fits ten twins v t x e = absurd cc
passed_tests true true false ten twins v t x e = absurd cc
passed_tests true true true true true v t x e = absurd cc
passed_tests true true true true false v t x e = (refl, ok_part (v, t.1) x e, λ _. refl)
passed_tests true true true false twins v t x e = (refl, ok_part (v, t.1) x e, λ h. absurd cc)

tetra_size : (type size : ℕ) → type ≡ 10 → size_fits type size ≡ true → size ≡ 4
tetra_size type size is h = let fits = rw is at h in eqb-true size 4 fits

typed-good : (n : ℕ) (row : Row) (l : Left) (x : ℕ × Left) → (token l >>= typed row) ≡ Ok x → AllBelow n row → (x.0 == 10) ≡ true → IsWithin n (corners_of row) × AreDifferent (corners_of row)
typed-good n row l x e below ten =
    let t = bind_ok (token l) (typed row) x e in
    let v = digits_value 10 t.0.0.text in
    let p = passed_tests (is_numeral t.0.0.text) (known_type v) (size_fits v (length row)) (v == 10) (has_twins (corners_of row)) v t.0 x t.2 in
    let is : v ≡ 10 = p.1 ∙ eqb-true x.0 10 ten in
    (four-within n row (tetra_size v (length row) is p.0) below, no_twins (corners_of row) (p.2 (rw is refl)))

abbrev AreCells : ℕ → ℕ → List (Option Corners) → Type 0
AreCells n m cells = (length cells ≤ m) × Each (IsGood n) cells

one_more : (n m : ℕ) (ten : Bool) (c : Corners) (cells : List (Option Corners)) → (ten ≡ true → IsWithin n c × AreDifferent c) → AreCells n m cells → AreCells n (suc m) (cond ten (Some c ∷ cells) cells)
one_more n m true c cells h good = (omega (arith, good.0), (h refl, good.1))
one_more n m false c cells h good = (omega (arith, good.0), good.1)

types-cells : (n : ℕ) (rows : List Row) (l : Left) (x : List (Option Corners) × Left) → types rows l ≡ Ok x → Each (AllBelow n) rows → AreCells n (length rows) x.0
unfolding types
types-cells n [] l x e below = subst (AreCells n 0) (ok_part ([], l) x e) (omega arith, tt)
types-cells n (row ∷ rows) l x e below =
    let type = bind_ok (token l >>= typed row) (λ type. types rows type.1 >>= with_cell type.0 (corners_of row)) x e in
    let rest = bind_ok (types rows type.0.1) (with_cell type.0.0 (corners_of row)) x type.2 in
    subst (AreCells n (suc (length rows))) (ok_part (cond (type.0.0 == 10) (Some (corners_of row) ∷ rest.0.0) rest.0.0, rest.0.1) x rest.2)
    (one_more n (length rows) (type.0.0 == 10) (corners_of row) rest.0.0 (typed-good n row l type.0 type.1 below.0) (types-cells n rows type.0.1 rest.0 rest.1 below.1))

good-within : (n : ℕ) (cells : List (Option Corners)) → Each (IsGood n) cells → AreWithin n cells
good-within n [] h = All-nil _
good-within n (Some c ∷ cells) h = All-cons (λ cell. IfSome cell (IsWithin n)) (Some c) cells h.0.0 (good-within n cells h.1)
good-within n (None ∷ cells) h = All-cons (λ cell. IfSome cell (IsWithin n)) None cells tt (good-within n cells h.1)

good-different : (n : ℕ) (cells : List (Option Corners)) → Each (IsGood n) cells → AreAllDifferent cells
good-different n [] h = All-nil _
good-different n (Some c ∷ cells) h = All-cons (λ cell. IfSome cell AreDifferent) (Some c) cells h.0.1 (good-different n cells h.1)
good-different n (None ∷ cells) h = All-cons (λ cell. IfSome cell AreDifferent) None cells tt (good-different n cells h.1)

-- ---- the whole text

points-few : (l : Left) (x : List Place × Left) → points l ≡ Ok x → length x.0 ≤ 1000000
points-few l x e =
    let word = bind_ok (blocks l) _ x e in
    let after = bind_ok (expect (codes "points") kinds.Keyword word.0) _ x word.2 in
    let n = bind_ok (count 1000000 after.0) _ x after.2 in
    let type = bind_ok (numeric kinds.Keyword n.0.1) _ x n.2 in
    omega (arith, places-length n.0.0 type.0 x type.2, count-within 1000000 after.0 n.0 n.1)

cell_types-cells : (n : ℕ) (rows : List Row) (l : Left) (x : List (Option Corners) × Left) → cell_types rows l ≡ Ok x → Each (AllBelow n) rows → AreCells n (length rows) x.0
cell_types-cells n rows l x e below =
    let word = bind_ok (blocks l) _ x e in
    let after = bind_ok (expect (codes "cell_types") kinds.Keyword word.0) _ x word.2 in
    let first = bind_ok (token after.0 >>= count_again (length rows)) (types rows) x after.2 in
    types-cells n rows first.0 x first.2 below

ends-same : (mesh : MeshView) (o : Option (Token × Left)) (x : MeshView) → ends mesh o ≡ Ok x → mesh ≡ x
ends-same mesh None x e = cc
ends-same mesh (Some t) x e = by_word (word_is t.0.text (codes "point_data") || word_is t.0.text (codes "cell_data")) e
  where
    by_word : (w : Bool) → cond {A = Result MeshView Fault} w (Ok mesh) (Err (fault kinds.Keyword t.0.place)) ≡ Ok x → mesh ≡ x
    by_word true h = cc
    by_word false h = absurd cc

pub accepted-mesh : (text : List ℕ) (mesh : MeshView) → mesh_text text ≡ Ok mesh → IsMesh mesh.points mesh.cells
unfolding mesh_text
accepted-mesh text mesh e =
    let f = bind_ok (version (whole_text text)) _ mesh e in
    let behind = bind_ok (title f.0.1) _ mesh f.2 in
    let first = bind_ok (format behind.0) _ mesh behind.2 in
    let second = bind_ok (dataset first.0) _ mesh first.2 in
    let ps = bind_ok (points second.0) _ mesh second.2 in
    let rows = bind_ok (cells f.0.0 (length ps.0.0) ps.0.1) _ mesh ps.2 in
    let ts = bind_ok (cell_types rows.0.0 rows.0.1) _ mesh rows.2 in
    let rest = bind_ok (blocks ts.0.1) _ mesh ts.2 in
    let same = ends-same (mesh_of ps.0.0 ts.0.0) (next_token rest.0) mesh rest.2 in
    let kept_rows = cells-rows f.0.0 (length ps.0.0) ps.0.1 rows.0 rows.1 in
    let good = cell_types-cells (length ps.0.0) rows.0.0 rows.0.1 ts.0 ts.1 kept_rows.1 in
    subst (λ (m : MeshView). IsMesh m.points m.cells) same
    (record {
      few_points = points-few second.0 ps.0 ps.1;
      few_cells = omega (arith, good.0, kept_rows.0);
      within = good-within (length ps.0.0) ts.0.0 good.1;
      different = good-different (length ps.0.0) ts.0.0 good.1;
    })
