-- What a reader keeps of a cell is enough for its type.
use Rattle.std.proofs.Common.{◌≡◌, ℕ, Bool, true, false, not, cond, eqb, List, [], ◌∷◌, length, map, Ok, Option, Some, None, refl, sym, ap, ◌∙◌, arith}
use Rattle.std.specs.Prelude.{◌&&◌, is_none}
use Rattle.std.specs.Str.Parse.{digits_value}
use Rattle.std.proofs.lemmas.Bool.{eqb-true}
use Rattle.mesh_base.specs.Mesh.{Corners, corners_of}
use Rattle.oct_text.specs.Rest.{Left, Token}
use Rattle.oct_text.specs.Numbers.{is_numeral}
use Rattle.vtk_legacy.specs.MeshText.{◌>>=◌, Read, Row, token, tested, typed, types, with_cell, has_twins, size_fits, known_type}
use Rattle.vtk_legacy.specs.Kept.{Waiting, types_left, typed_kept, with_kept, kept, filled, no_corners}
use Rattle.vtk_legacy.proofs.StepLemmas.{bind_assoc, bind_same, bind_ok_same}

-- four points are kept whole
pub corners-four : (row : List ℕ) → length row ≡ 4 → filled 0 row no_corners ≡ row
corners-four (a ∷ b ∷ c ∷ d ∷ []) h = refl
corners-four [] h = absurd (omega arith)
corners-four (a ∷ []) h = absurd (omega arith)
corners-four (a ∷ b ∷ []) h = absurd (omega arith)
corners-four (a ∷ b ∷ c ∷ []) h = absurd (omega arith)
corners-four (a ∷ b ∷ c ∷ d ∷ e ∷ row) h = absurd (omega arith)

-- a tetrahedron that passed the check of its size has four points
tetra_size : (size : ℕ) → size_fits 10 size ≡ true → size ≡ 4
tetra_size size h = eqb-true size 4 h

tetra_from : (type size : ℕ) → eqb type 10 ≡ true → size_fits type size ≡ true → size ≡ 4
tetra_from type size e h = tetra_size size (let is : type ≡ 10 = eqb-true type 10 e in rw is at h)

-- a row of four points is a tetrahedron, if no two of them are equal
none_if : (twins : Bool) (c : Corners) → is_none (cond {A = Option Corners} (not twins) (Some c) None) ≡ twins
none_if true c = refl
none_if false c = refl

four_kept : (row : List ℕ) → length row ≡ 4 → (kept row).cell ≡ cond (not (has_twins (corners_of row))) (Some (corners_of row)) None
four_kept row e = rw (corners-four row e, e) refl

by_tests : (numeral known fits tetra : Bool) (row : List ℕ) (t : Token × Left) (n : ℕ) → (tetra ≡ true → fits ≡ true → length row ≡ 4)
    → tested numeral known fits (not (tetra && has_twins (corners_of row))) n t ≡ tested numeral known fits (not (tetra && is_none (kept row).cell)) n t
by_tests false known fits tetra row t n h = refl
by_tests true false fits tetra row t n h = refl
by_tests true true false tetra row t n h = refl
by_tests true true true false row t n h = refl
by_tests true true true true row t n h =
    let e : length row ≡ 4 = h refl refl in
    ap (λ (twins : Bool). tested true true true (not twins) n t) (sym (none_if (has_twins (corners_of row)) (corners_of row)) ∙ ap (λ (c : Option Corners). is_none c) (sym (four_kept row e)))

typed-kept : (row : List ℕ) (t : Token × Left) → typed row t ≡ typed_kept (kept row) t
typed-kept row t =
    let v = digits_value 10 t.0.text in
    by_tests (is_numeral t.0.text) (known_type v) (size_fits v (length row)) (eqb v 10) row t v (tetra_from v (length row))

-- what a type that passed says
passed_tests : (numeral known fits differ : Bool) (n : ℕ) (t : Token × Left) (x : ℕ × Left) → tested numeral known fits differ n t ≡ Ok x → (fits ≡ true) × (x.0 ≡ n) × (differ ≡ true)
passed_tests false known fits differ n t x e = absurd cc
passed_tests true false fits differ n t x e = absurd cc
passed_tests true true false differ n t x e = absurd cc
passed_tests true true true false n t x e = absurd cc
passed_tests true true true true n t x e = (refl, cc, refl)

same_cells : (b : Bool) (c : Corners) (cell : Option Corners) (rest : List (Option Corners)) → (b ≡ true → Some c ≡ cell) → cond b (Some c ∷ rest) rest ≡ cond b (cell ∷ rest) rest
same_cells true c cell rest h = rw (h refl) refl
same_cells false c cell rest h = refl

-- a tetrahedron that passed has no two equal points
not_twins : (tetra twins : Bool) → not (tetra && twins) ≡ true → tetra ≡ true → twins ≡ false
not_twins false twins e h = absurd cc
not_twins true true e h = absurd cc
not_twins true false e h = refl

same-cell : (row : List ℕ) (t : Token × Left) (x : ℕ × Left) (rest : List (Option Corners) × Left) → typed row t ≡ Ok x → with_cell x.0 (corners_of row) rest ≡ with_kept x.0 (kept row).cell rest
same-cell row t x rest e =
    let v = digits_value 10 t.0.text in
    let p = passed_tests (is_numeral t.0.text) (known_type v) (size_fits v (length row)) (not (eqb v 10 && has_twins (corners_of row))) v t x e in
    ap (λ (cells : List (Option Corners)). let y : Read (List (Option Corners)) = Ok (cells, rest.1) in y)
    (same_cells (eqb x.0 10) (corners_of row) (kept row).cell rest.0 (λ h.
    let ten : eqb v 10 ≡ true = ap (λ (k : ℕ). eqb k 10) (sym p.1) ∙ h in
    let twins = not_twins (eqb v 10) (has_twins (corners_of row)) p.2 ten in
    sym (four_kept row (tetra_from v (length row) ten p.0) ∙ ap (λ (b : Bool). cond (not b) (Some (corners_of row)) None) twins)))

-- the types behind the first one
abbrev types_behind : ℕ → List Waiting → Waiting → ℕ × Left → Read (List (Option Corners))
types_behind k rows q type = types_left k rows type.1 >>= with_kept type.0 q.cell

-- the types of cells, by what was kept of them
pub types-kept : (rows : List Row) (l : Left) → types rows l ≡ types_left (length rows) (map kept rows) l
unfolding types types_left
types-kept [] l = refl
types-kept (row ∷ rows) l =
    let k = length rows in
    bind_assoc (token l) (typed row) (λ type. types rows type.1 >>= with_cell type.0 (corners_of row))
    ∙ bind_same (token l) _ _ (λ t.
    bind_ok_same (typed row t) _ _ (λ type e.
    bind_same (types rows type.1) _ _ (λ rest. same-cell row t type rest e)
    ∙ ap (λ (r : Read (List (Option Corners))). r >>= with_kept type.0 (kept row).cell) (types-kept rows type.1))
    ∙ ap (λ (r : Read ℕ). r >>= types_behind k (map kept rows) (kept row)) (typed-kept row t))
    ∙ sym (bind_assoc (token l) (typed_kept (kept row)) (types_behind k (map kept rows) (kept row)))
