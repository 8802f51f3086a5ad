-- how many corners of each cell are in a list of vertices
use Rattle.std.proofs.Common.{◌≡◌, ◌≢◌, ℕ, zero, suc, ◌+◌, ◌<◌, ◌≤◌, ◌⊎◌, inl, inr, Bool, true, false, cond, eqb, ◌&&◌, ◌||◌, List, [], ◌∷◌, ◌++◌, length, get_or, filter, map, sum_by, count_by, Option, Some, None, IfSome, Contains, refl, sym, ap, subst, ◌∙◌, arith, add-one}
use Rattle.std.proofs.lemmas.Bool.{cases_lt, cases_eq, false≢true, true≢false}
use Rattle.std.proofs.lemmas.Bool.Decides.{nat_tests}
use Rattle.std.proofs.lemmas.List.{get_or_past}
use Rattle.std.proofs.lemmas.List.FromFn.{get_or-map-range_with_len}
use Rattle.std.proofs.lemmas.List.Sums.{sum_by-cons, sum_by-append}
use Rattle.std.proofs.lemmas.List.Elements.{All-get_or}
use Rattle.std.specs.Option.{option_map_or}
use Rattle.std.specs.List.{list_any, range_with_len}
use Rattle.std.specs.List.Sorted.{IsStrictlyIncreasing}
use Rattle.mesh_base.specs.Numbers.{IsListOf}
use Rattle.mesh_base.specs.Mesh.{Corners, MeshView, AreDifferent, IsMesh, has_corner, vertices}
use Rattle.mesh_base.proofs.Ascending.{In, Asc, In-from_Contains, Contains-from_In, Asc-from_increasing, IsListOf-filter_range, same_increasing}
use Rattle.mesh_base.proofs.CellLists.{filter-range_more}
use Rattle.mesh_base.proofs.NumberLaws.{of_vertices}
use Rattle.mesh_base.proofs.Once.{bit, times-cons, times-In}
use Rattle.cell_box.specs.declared.how.How.{How}
use Rattle.cell_box.specs.declared.how.How.TheVariants.{Whole, Touching}
use Rattle.cell_box.specs.Often.{times}
use Rattle.cell_box.specs.Cells.{is_live_with, cells_where, is_listed, has_all, has_some, cells_with, incidence_of, cells_by, least_of}

same : (x w : ℕ) → x ≡ w → eqb x w ≡ true
same x w e = grind (arith, nat_tests)

other : (x w : ℕ) → x ≢ w → eqb x w ≡ false
other x w n = grind (arith, nat_tests)

-- an ascending list has each of its numbers once
times_asc : (xs : List ℕ) (w : ℕ) → Asc xs → times xs w ≡ bit (is_listed xs w)
times_asc [] w a = refl
times_asc (x ∷ xs) w a = times-cons x xs w ∙ by (cases_eq x w) (times_asc xs w a.1)
  where
    none : x ≡ w → times xs w ≡ 0
    none e = elim (cases_lt 0 (times xs w)) [
      | inl some ↦ (let l = a.0 w (times-In xs w some) in absurd (omega arith))
      | inr le ↦ omega arith
    ]

    by : (x ≡ w) ⊎ (x ≢ w) → times xs w ≡ bit (is_listed xs w) → bit (eqb x w) + times xs w ≡ bit (eqb x w || is_listed xs w)
    by (inl e) rest = let t = same x w e in let z = none e in rw t (omega arith)
    by (inr n) rest = let t = other x w n in rw t (omega arith)

-- how often a number stands in a filter of the first ones
pub times-append : (xs ys : List ℕ) (i : ℕ) → times (xs ++ ys) i ≡ times xs i + times ys i
times-append xs ys i = sum_by-append (λ x. bit (eqb x i)) xs ys

filter_at : (p : ℕ → Bool) (n : ℕ) → filter p (range_with_len 0 (suc n)) ≡ filter p (range_with_len 0 n) ++ cond (p n) (n ∷ []) []
filter_at p n = subst (λ k. filter p (range_with_len 0 k) ≡ filter p (range_with_len 0 n) ++ cond (p n) (n ∷ []) []) plus (filter-range_more p n)
  where
    plus : n + 1 ≡ suc n
    plus = omega arith

times_last : (b : Bool) (n i : ℕ) → n ≢ i → times (cond b (n ∷ []) []) i ≡ 0
times_last true n i d = times-cons n [] i ∙ ap (λ t. bit t + 0) (other n i d)
times_last false n i d = refl

times_it : (b : Bool) (n : ℕ) → times (cond b (n ∷ []) []) n ≡ bit b
times_it true n = times-cons n [] n ∙ ap (λ t. bit t + 0) (same n n refl)
times_it false n = refl

times_past : (p : ℕ → Bool) (n i : ℕ) → n ≤ i → times (filter p (range_with_len 0 n)) i ≡ 0
times_past p zero i le = refl
times_past p (suc n) i le =
    let d : n ≢ i = (λ e. omega arith) in
    let a = times-append (filter p (range_with_len 0 n)) (cond (p n) (n ∷ []) []) i in
    let b = times_past p n i (omega arith) in
    let t = times_last (p n) n i d in
    ap (λ l. times l i) (filter_at p n) ∙ omega arith

times_within : (p : ℕ → Bool) (n i : ℕ) → i < n → times (filter p (range_with_len 0 n)) i ≡ bit (p i)
times_within p zero i lt = absurd (omega arith)
times_within p (suc n) i lt = ap (λ l. times l i) (filter_at p n) ∙ times-append (filter p (range_with_len 0 n)) (cond (p n) (n ∷ []) []) i ∙ by (cases_eq n i) (times_within p n i)
  where
    by : (n ≡ i) ⊎ (n ≢ i) → (i < n → times (filter p (range_with_len 0 n)) i ≡ bit (p i)) → times (filter p (range_with_len 0 n)) i + times (cond (p n) (n ∷ []) []) i ≡ bit (p i)
    by (inl e) rest =
        subst (λ i. times (filter p (range_with_len 0 n)) i + times (cond (p n) (n ∷ []) []) i ≡ bit (p i)) e
        (let a = times_past p n n (omega arith) in let b = times_it (p n) n in omega arith)
    by (inr d) rest =
        let l : i < n = elim (cases_lt i n) [ inl l ↦ l | inr g ↦ absurd (d (omega arith)) ] in
        let a = rest l in
        let b = times_last (p n) n i d in
        omega arith

-- a cell stands once in the row of each of its corners
times_row : (cells : List (Option Corners)) (v i : ℕ) → times (cells_with cells v) i ≡ bit (option_map_or (λ c. has_corner c v) (get_or cells i None) false)
times_row cells v i = by (cases_lt i (length cells))
  where
    by : (i < length cells) ⊎ (length cells ≤ i) → times (cells_with cells v) i ≡ bit (option_map_or (λ c. has_corner c v) (get_or cells i None) false)
    by (inl lt) = times_within (is_live_with cells (λ c. has_corner c v)) (length cells) i lt
    by (inr ge) = times_past (is_live_with cells (λ c. has_corner c v)) (length cells) i ge ∙ ap (λ o. bit (option_map_or (λ c. has_corner c v) o false)) (sym (get_or_past cells i None ge))

sum_agree : (f g : ℕ → ℕ) (xs : List ℕ) → ((x : ℕ) → In xs x → f x ≡ g x) → sum_by f xs ≡ sum_by g xs
sum_agree f g [] h = refl
sum_agree f g (x ∷ xs) h =
    let a = h x (inl refl) in
    let r = sum_agree f g xs (λ y m. h y (inr m)) in
    sum_by-cons f x xs ∙ omega (arith, sum_by-cons g x xs)

sum_none : (xs : List ℕ) → sum_by (λ v. bit false) xs ≡ 0
sum_none [] = refl
sum_none (x ∷ xs) = sum_by-cons (λ (v : ℕ). bit false) x xs ∙ (let r = sum_none xs in omega arith)

-- v is at most one of four different corners
bit_corner : (c : Corners) (v : ℕ) → AreDifferent c → bit (has_corner c v) ≡ bit (eqb v c.0) + bit (eqb v c.1) + bit (eqb v c.2) + bit (eqb v c.3)
bit_corner c v d = by (cases_eq c.0 v) (cases_eq c.1 v) (cases_eq c.2 v) (cases_eq c.3 v)
  where
    yes : (x : ℕ) → x ≡ v → (eqb x v ≡ true) × (eqb v x ≡ true)
    yes x e = (same x v e, same v x (sym e))

    no : (x : ℕ) → x ≢ v → (eqb x v ≡ false) × (eqb v x ≡ false)
    no x n = (other x v n, other v x (λ e. n (sym e)))

    by : (c.0 ≡ v) ⊎ (c.0 ≢ v) → (c.1 ≡ v) ⊎ (c.1 ≢ v) → (c.2 ≡ v) ⊎ (c.2 ≢ v) → (c.3 ≡ v) ⊎ (c.3 ≢ v) → bit (has_corner c v) ≡ bit (eqb v c.0) + bit (eqb v c.1) + bit (eqb v c.2) + bit (eqb v c.3)
    by (inl e) (inl f) g h = absurd (d.0 (e ∙ sym f))
    by (inl e) g (inl f) h = absurd (d.1 (e ∙ sym f))
    by (inl e) g h (inl f) = absurd (d.2 (e ∙ sym f))
    by (inl e) (inr f) (inr g) (inr h) = let a = yes c.0 e in let b = no c.1 f in let p = no c.2 g in let q = no c.3 h in simp (a.0, a.1, b.0, b.1, p.0, p.1, q.0, q.1)
    by (inr e) (inl f) (inl g) h = absurd (d.3 (f ∙ sym g))
    by (inr e) (inl f) g (inl h) = absurd (d.4 (f ∙ sym h))
    by (inr e) (inl f) (inr g) (inr h) = let a = no c.0 e in let b = yes c.1 f in let p = no c.2 g in let q = no c.3 h in simp (a.0, a.1, b.0, b.1, p.0, p.1, q.0, q.1)
    by (inr e) (inr f) (inl g) (inl h) = absurd (d.5 (g ∙ sym h))
    by (inr e) (inr f) (inl g) (inr h) = let a = no c.0 e in let b = no c.1 f in let p = yes c.2 g in let q = no c.3 h in simp (a.0, a.1, b.0, b.1, p.0, p.1, q.0, q.1)
    by (inr e) (inr f) (inr g) (inl h) = let a = no c.0 e in let b = no c.1 f in let p = no c.2 g in let q = yes c.3 h in simp (a.0, a.1, b.0, b.1, p.0, p.1, q.0, q.1)
    by (inr e) (inr f) (inr g) (inr h) = let a = no c.0 e in let b = no c.1 f in let p = no c.2 g in let q = no c.3 h in simp (a.0, a.1, b.0, b.1, p.0, p.1, q.0, q.1)

sum_corners : (c : Corners) (vs : List ℕ) → AreDifferent c → sum_by (λ v. bit (has_corner c v)) vs ≡ times vs c.0 + times vs c.1 + times vs c.2 + times vs c.3
sum_corners c [] d = refl
sum_corners c (v ∷ vs) d =
    let r = sum_corners c vs d in
    let e = bit_corner c v d in
    let f = sum_by-cons (λ v. bit (has_corner c v)) v vs in
    omega (arith, times-cons v vs c.0, times-cons v vs c.1, times-cons v vs c.2, times-cons v vs c.3)

-- how many of the corners are in the list
corners_in : List ℕ → Corners → ℕ
corners_in vs c = bit (is_listed vs c.0) + bit (is_listed vs c.1) + bit (is_listed vs c.2) + bit (is_listed vs c.3)

test_of : How → List ℕ → Corners → Bool
test_of Whole vs c = has_all vs c
test_of Touching vs c = has_some vs c

sum_cell : (vs : List ℕ) (o : Option Corners) → Asc vs → IfSome o AreDifferent → sum_by (λ v. bit (option_map_or (λ c. has_corner c v) o false)) vs ≡ option_map_or (corners_in vs) o 0
unfolding corners_in
sum_cell vs None a d = sum_none vs
sum_cell vs (Some c) a d =
    sum_corners c vs d
    ∙ (let p = times_asc vs c.0 a in let q = times_asc vs c.1 a in let r = times_asc vs c.2 a in let s = times_asc vs c.3 a in omega arith)

-- all four, or one of four
all_of : (a b c d : Bool) → 4 ≤ bit a + bit b + bit c + bit d → (a && b && c && d) ≡ true
all_of true true true true h = refl
all_of true true true false h = absurd (omega arith)
all_of true true false true h = absurd (omega arith)
all_of true true false false h = absurd (omega arith)
all_of true false true true h = absurd (omega arith)
all_of true false true false h = absurd (omega arith)
all_of true false false true h = absurd (omega arith)
all_of true false false false h = absurd (omega arith)
all_of false true true true h = absurd (omega arith)
all_of false true true false h = absurd (omega arith)
all_of false true false true h = absurd (omega arith)
all_of false true false false h = absurd (omega arith)
all_of false false true true h = absurd (omega arith)
all_of false false true false h = absurd (omega arith)
all_of false false false true h = absurd (omega arith)
all_of false false false false h = absurd (omega arith)

of_all : (a b c d : Bool) → (a && b && c && d) ≡ true → 4 ≤ bit a + bit b + bit c + bit d
of_all true true true true h = omega arith
of_all true true true false h = absurd (false≢true h)
of_all true true false d h = absurd (false≢true h)
of_all true false c d h = absurd (false≢true h)
of_all false b c d h = absurd (false≢true h)

some_of : (a b c d : Bool) → 1 ≤ bit a + bit b + bit c + bit d → (a || b || c || d) ≡ true
some_of true b c d h = refl
some_of false true c d h = refl
some_of false false true d h = refl
some_of false false false true h = refl
some_of false false false false h = absurd (omega arith)

of_some : (a b c d : Bool) → (a || b || c || d) ≡ true → 1 ≤ bit a + bit b + bit c + bit d
of_some true b c d h = omega arith
of_some false true c d h = omega arith
of_some false false true d h = omega arith
of_some false false false true h = omega arith
of_some false false false false h = absurd (false≢true h)

enough : (how : How) (vs : List ℕ) (o : Option Corners) → least_of how ≤ option_map_or (corners_in vs) o 0 → option_map_or (test_of how vs) o false ≡ true
unfolding corners_in test_of
enough Whole vs None h = absurd (omega arith)
enough Touching vs None h = absurd (omega arith)
enough Whole vs (Some c) h = all_of (is_listed vs c.0) (is_listed vs c.1) (is_listed vs c.2) (is_listed vs c.3) h
enough Touching vs (Some c) h = some_of (is_listed vs c.0) (is_listed vs c.1) (is_listed vs c.2) (is_listed vs c.3) h

to_enough : (how : How) (vs : List ℕ) (o : Option Corners) → option_map_or (test_of how vs) o false ≡ true → least_of how ≤ option_map_or (corners_in vs) o 0
unfolding corners_in test_of
to_enough how vs None h = absurd (false≢true h)
to_enough Whole vs (Some c) h = of_all (is_listed vs c.0) (is_listed vs c.1) (is_listed vs c.2) (is_listed vs c.3) h
to_enough Touching vs (Some c) h = of_some (is_listed vs c.0) (is_listed vs c.1) (is_listed vs c.2) (is_listed vs c.3) h

is_cell : (how : How) (vs : List ℕ) (cells : List (Option Corners)) (i : ℕ) → option_map_or (test_of how vs) (get_or cells i None) false ≡ true → i < length cells
is_cell how vs cells i h = by (cases_lt i (length cells))
  where
    by : (i < length cells) ⊎ (length cells ≤ i) → i < length cells
    by (inl lt) = lt
    by (inr ge) = absurd (false≢true (sym (ap (λ o. option_map_or (test_of how vs) o false) (get_or_past cells i None ge)) ∙ h))

-- the filter that is asked for
by_test : (how : How) (mesh : MeshView) (vs : List ℕ) → cells_where mesh.cells (test_of how vs) ≡ cells_by how mesh vs
unfolding test_of
by_test Whole mesh vs = refl
by_test Touching mesh vs = refl

pub row_at : (mesh : MeshView) (v : ℕ) → v < length mesh.points → get_or (incidence_of mesh) v [] ≡ cells_with mesh.cells v
row_at mesh v lt = get_or-map-range_with_len (cells_with mesh.cells) 0 (length mesh.points) v v [] lt (omega arith)

-- the numbers that the rows of the vertices have often enough are the cells that are asked for
module _ (mesh : MeshView) (valid : IsMesh mesh.points mesh.cells) (vs : List ℕ) (up : IsStrictlyIncreasing vs) (points : (v : ℕ) → Contains vs v → v < length mesh.points) where
  total : (i : ℕ) → sum_by (λ v. times (get_or (incidence_of mesh) v []) i) vs ≡ option_map_or (corners_in vs) (get_or mesh.cells i None) 0
  total i =
      sum_agree _ (λ v. bit (option_map_or (λ c. has_corner c v) (get_or mesh.cells i None) false)) vs
      (λ v m. ap (λ l. times l i) (row_at mesh v (points v (Contains-from_In vs v m))) ∙ times_row mesh.cells v i)
      ∙ sum_cell vs (get_or mesh.cells i None) (Asc-from_increasing vs up) (different i (cases_lt i (length mesh.cells)))
    where
      different : (i : ℕ) → (i < length mesh.cells) ⊎ (length mesh.cells ≤ i) → IfSome (get_or mesh.cells i None) AreDifferent
      different i (inl lt) = All-get_or (λ cell. IfSome cell AreDifferent) mesh.cells i None lt valid.different
      different i (inr ge) = subst (λ o. IfSome o AreDifferent) (sym (get_or_past mesh.cells i None ge)) tt

  pub cells_found : (how : How) (ys found : List ℕ) → ((i : ℕ) → times ys i ≡ sum_by (λ v. times (get_or (incidence_of mesh) v []) i) vs) → IsListOf (λ i. least_of how ≤ times ys i) found → found ≡ cells_by how mesh vs
  cells_found how ys found sums h =
      let all = IsListOf-filter_range (is_live_with mesh.cells (test_of how vs)) (length mesh.cells) in
      same_increasing found (cells_where mesh.cells (test_of how vs)) h.ascending all.ascending
      (λ i m. let e = enough how vs (get_or mesh.cells i None) (subst (λ n. least_of how ≤ n) (sums i ∙ total i) (h.only i m)) in all.every i (is_cell how vs mesh.cells i e, e))
      (λ i m. h.every i (subst (λ n. least_of how ≤ n) (sym (sums i ∙ total i)) (to_enough how vs (get_or mesh.cells i None) (all.only i m).1)))
      ∙ by_test how mesh vs
