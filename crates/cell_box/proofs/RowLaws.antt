-- rows of corners, and where they begin
use Rattle.std.proofs.Common.{◌≡◌, ◌≢◌, ℕ, zero, suc, ◌+◌, ◌*◌, ◌<◌, ◌≤◌, ◌⊎◌, inl, inr, Bool, true, false, cond, eqb, List, [], ◌∷◌, ◌++◌, length, get_or, map, filter, Option, Some, None, IfSome, refl, sym, ap, subst, ◌∙◌, arith, length-append}
use Rattle.std.proofs.lemmas.Bool.{cases_lt, cases_eq}
use Rattle.std.proofs.lemmas.Bool.Decides.{nat_tests}
use Rattle.std.proofs.lemmas.List.{append-nil}
use Rattle.std.proofs.lemmas.List.Elements.{All-get_or}
use Rattle.std.specs.Option.{option_map_or}
use Rattle.std.specs.List.{range_with_len}
use Rattle.mesh_base.specs.Mesh.{Corners, AreDifferent, AreAllDifferent, AreWithin, IsWithin, has_corner}
use Rattle.mesh_base.proofs.CellLists.{filter-range_more}
use Rattle.cell_box.specs.Cells.{is_live_with, cells_with}
use Rattle.cell_box.specs.Rows.{Corner, corners_at, corners_before, row_of, start_of}

pub row-append : (v : ℕ) (xs ys : List Corner) → row_of v (xs ++ ys) ≡ row_of v xs ++ row_of v ys
row-append v [] ys = refl
row-append v (c ∷ xs) ys = by (eqb c.0 v) (row-append v xs ys)
  where
    by : (b : Bool) → row_of v (xs ++ ys) ≡ row_of v xs ++ row_of v ys → cond b (c.1 ∷ row_of v (xs ++ ys)) (row_of v (xs ++ ys)) ≡ cond b (c.1 ∷ row_of v xs) (row_of v xs) ++ row_of v ys
    by true e = ap (λ l. c.1 ∷ l) e
    by false e = e

same : (v : ℕ) → eqb v v ≡ true
same v = grind (arith, nat_tests)

equal : (x v : ℕ) → x ≡ v → eqb x v ≡ true
equal x v e = grind (arith, nat_tests)

other : (v w : ℕ) → v ≢ w → eqb v w ≡ false
other v w n = grind (arith, nat_tests)

pub row_push : (v i : ℕ) (xs : List Corner) → row_of v (xs ++ (v, i) ∷ []) ≡ row_of v xs ++ i ∷ []
row_push v i xs = row-append v xs ((v, i) ∷ []) ∙ ap (λ b. row_of v xs ++ cond b (i ∷ []) []) (same v)

pub row_push_other : (v w i : ℕ) (xs : List Corner) → v ≢ w → row_of w (xs ++ (v, i) ∷ []) ≡ row_of w xs
row_push_other v w i xs n = row-append w xs ((v, i) ∷ []) ∙ ap (λ b. row_of w xs ++ cond b (i ∷ []) []) (other v w n) ∙ append-nil (row_of w xs)

pub length-row : (v : ℕ) (xs : List Corner) → length (row_of v xs) ≤ length xs
length-row v [] = omega arith
length-row v (c ∷ xs) = by (eqb c.0 v) (length-row v xs)
  where
    by : (b : Bool) → length (row_of v xs) ≤ length xs → length (cond b (c.1 ∷ row_of v xs) (row_of v xs)) ≤ suc (length xs)
    by true h = omega arith
    by false h = omega arith

length-corners_at : (o : Option Corners) (i : ℕ) → length (corners_at o i) ≤ 4
length-corners_at None i = omega arith
length-corners_at (Some c) i = omega arith

pub length-corners_before : (cells : List (Option Corners)) (n : ℕ) → length (corners_before cells n) ≤ 4 * n
length-corners_before cells zero = omega arith
length-corners_before cells (suc n) =
    let h = length-corners_before cells n in
    let g = length-corners_at (get_or cells n None) n in
    omega (arith, length-append (corners_before cells n) (corners_at (get_or cells n None) n))

-- a row ends before the next ones begin
pub start_after : (all : List Corner) (u v : ℕ) → u < v → start_of all u + length (row_of u all) ≤ start_of all v
start_after all u zero lt = absurd (omega arith)
start_after all u (suc v) lt = by (cases_lt u v) (start_after all u v)
  where
    by : (u < v) ⊎ (v ≤ u) → (u < v → start_of all u + length (row_of u all) ≤ start_of all v) → start_of all u + length (row_of u all) ≤ start_of all v + length (row_of v all)
    by (inl l) rest = let r = rest l in omega arith
    by (inr g) rest = let e : u ≡ v = omega arith in let f = ap (λ k. start_of all k + length (row_of k all)) e in omega arith

pub start_most : (all : List Corner) (v : ℕ) → length all ≤ 16000000 → start_of all v ≤ v * 16000000
start_most all zero h = omega arith
start_most all (suc v) h = let r = start_most all v h in let l = length-row v all in omega arith

-- what stands in all corners stands in the row
pub row_part : (v i w : ℕ) (all done rest : List Corner) → all ≡ (done ++ (v, i) ∷ []) ++ rest → length (row_of w (done ++ (v, i) ∷ [])) ≤ length (row_of w all)
row_part v i w all done rest e =
    let f = ap (λ l. length (row_of w l)) e in
    let g = ap length (row-append w (done ++ (v, i) ∷ []) rest) in
    omega (arith, length-append (row_of w (done ++ (v, i) ∷ [])) (row_of w rest))

-- a corner of a live cell is a point
pub corner_within : (n : ℕ) (cells : List (Option Corners)) (i k : ℕ) (c : Corners) → AreWithin n cells → i < length cells → get_or cells i None ≡ Some c → k < 4 → get_or (c.0 ∷ c.1 ∷ c.2 ∷ c.3 ∷ []) k 0 < n
corner_within n cells i k c within lt e few = by k (subst (λ o. IfSome o (IsWithin n)) e (All-get_or (λ cell. IfSome cell (IsWithin n)) cells i None lt within)) few
  where
    by : (k : ℕ) → IsWithin n c → k < 4 → get_or (c.0 ∷ c.1 ∷ c.2 ∷ c.3 ∷ []) k 0 < n
    by zero w l = w.0
    by (suc zero) w l = w.1
    by (suc (suc zero)) w l = w.2
    by (suc (suc (suc zero))) w l = w.3
    by (suc (suc (suc (suc k)))) w l = absurd (omega arith)

-- a live cell has one corner at a point that it has, and none at another
row_of_cell : (v i : ℕ) (c : Corners) → AreDifferent c → row_of v (corners_at (Some c) i) ≡ cond (has_corner c v) (i ∷ []) []
row_of_cell v i c d = by (cases_eq c.0 v) (cases_eq c.1 v) (cases_eq c.2 v) (cases_eq c.3 v)
  where
    by : (c.0 ≡ v) ⊎ (c.0 ≢ v) → (c.1 ≡ v) ⊎ (c.1 ≢ v) → (c.2 ≡ v) ⊎ (c.2 ≢ v) → (c.3 ≡ v) ⊎ (c.3 ≢ v) → row_of v (corners_at (Some c) i) ≡ cond (has_corner c v) (i ∷ []) []
    by (inl e) (inl f) g h = absurd (d.0 (e ∙ sym f))
    by (inl e) g (inl f) h = absurd (d.1 (e ∙ sym f))
    by (inl e) g h (inl f) = absurd (d.2 (e ∙ sym f))
    by (inl e) (inr f) (inr g) (inr h) = let a = equal c.0 v e in let b = other c.1 v f in let p = other c.2 v g in let q = other c.3 v h in simp (a, b, p, q)
    by (inr e) (inl f) (inl g) h = absurd (d.3 (f ∙ sym g))
    by (inr e) (inl f) g (inl h) = absurd (d.4 (f ∙ sym h))
    by (inr e) (inl f) (inr g) (inr h) = let a = other c.0 v e in let b = equal c.1 v f in let p = other c.2 v g in let q = other c.3 v h in simp (a, b, p, q)
    by (inr e) (inr f) (inl g) (inl h) = absurd (d.5 (g ∙ sym h))
    by (inr e) (inr f) (inl g) (inr h) = let a = other c.0 v e in let b = other c.1 v f in let p = equal c.2 v g in let q = other c.3 v h in simp (a, b, p, q)
    by (inr e) (inr f) (inr g) (inl h) = let a = other c.0 v e in let b = other c.1 v f in let p = other c.2 v g in let q = equal c.3 v h in simp (a, b, p, q)
    by (inr e) (inr f) (inr g) (inr h) = let a = other c.0 v e in let b = other c.1 v f in let p = other c.2 v g in let q = other c.3 v h in simp (a, b, p, q)

row_of_option : (v i : ℕ) (o : Option Corners) → IfSome o AreDifferent → row_of v (corners_at o i) ≡ cond (option_map_or (λ c. has_corner c v) o false) (i ∷ []) []
row_of_option v i None d = refl
row_of_option v i (Some c) d = row_of_cell v i c d

-- the row of a point has the cells that have it
pub row_cells : (cells : List (Option Corners)) (v n : ℕ) → AreAllDifferent cells → n ≤ length cells → row_of v (corners_before cells n) ≡ filter (is_live_with cells (λ c. has_corner c v)) (range_with_len 0 n)
row_cells cells v zero d le = refl
row_cells cells v (suc n) d le =
    let p = is_live_with cells (λ c. has_corner c v) in
    row-append v (corners_before cells n) (corners_at (get_or cells n None) n)
    ∙ ap (λ l. l ++ row_of v (corners_at (get_or cells n None) n)) (row_cells cells v n d (omega arith))
    ∙ ap (λ l. filter p (range_with_len 0 n) ++ l) (row_of_option v n (get_or cells n None) (All-get_or (λ cell. IfSome cell AreDifferent) cells n None (omega arith) d))
    ∙ sym (subst (λ k. filter p (range_with_len 0 k) ≡ filter p (range_with_len 0 n) ++ cond (p n) (n ∷ []) []) plus (filter-range_more p n))
  where
    plus : n + 1 ≡ suc n
    plus = omega arith
