-- pairs by all live cells, and the neighbours that a row lists
use Rattle.std.proofs.Common.{inl, inr, ◌⊎◌, ◌≡◌, ℕ, zero, suc, ◌+◌, ◌<◌, ◌≤◌, Bool, true, false, cond, eqb, not, ◌&&◌, ◌||◌, List, [], ◌∷◌, ◌++◌, length, get_or, set, take, filter, sum_by, Option, Some, None, refl, sym, ap, ◌∙◌, arith}
use Rattle.std.proofs.lemmas.Bool.{false≢true, cases_lt, cases_order}
use Rattle.std.proofs.lemmas.List.{get_or-take, get_or_past, length-take-le}
use Rattle.mesh_base.specs.Mesh.{is_vertex}
use Rattle.mesh_base.proofs.AnswerLaws.{any_from}
use Rattle.std.proofs.lemmas.Bool.Decides.{nat_tests}
use Rattle.std.proofs.lemmas.List.{get_or_default}
use Rattle.std.proofs.lemmas.List.Sums.{sum_by-append, sum_by-cons, count_by-le-length}
use Rattle.std.specs.List.{list_any, range_with_len}
use Rattle.mesh_base.specs.Numbers.{IsListOf}
use Rattle.mesh_base.specs.Mesh.{Corners, has_corner, live, are_neighbours}
use Rattle.mesh_base.specs.Edit.{cell_at}
use Rattle.mesh_base.proofs.CellLists.{live-append}
use Rattle.mesh_base.proofs.Ascending.{Contains-from_In, Asc-from_increasing, IsListOf-filter_range, same_list_of}
use Rattle.edge_table.specs.Pairs.{RowView, number_at, pair_count, pair_share, cell_pairs, IsRow, IsPairsOf}
use Rattle.edge_table.proofs.RowLemmas.{number_at-some, number_at-place}

pub cell_pairs-push : (cells : List (Option Corners)) (c : Corners) (v w : ℕ) → cell_pairs (cells ++ Some c ∷ []) v w ≡ cell_pairs cells v w + pair_share c v w
cell_pairs-push cells c v w = ap (sum_by (λ k. pair_share k v w)) (live-append cells (Some c ∷ [])) ∙ sum_by-append (λ k. pair_share k v w) (live cells) (c ∷ []) ∙ omega arith

pub cell_pairs-append : (xs ys : List (Option Corners)) (v w : ℕ) → cell_pairs (xs ++ ys) v w ≡ cell_pairs xs v w + cell_pairs ys v w
cell_pairs-append xs ys v w = ap (sum_by (λ k. pair_share k v w)) (live-append xs ys) ∙ sum_by-append (λ k. pair_share k v w) (live xs) (live ys)

pub cell_pairs-set : (cells : List (Option Corners)) (i : ℕ) (c : Corners) (v w : ℕ) → cell_at cells i ≡ Some c → cell_pairs (set cells i None) v w + pair_share c v w ≡ cell_pairs cells v w
cell_pairs-set [] i c v w h = absurd (cc)
cell_pairs-set (None ∷ cells) zero c v w h = absurd (cc)
cell_pairs-set (Some d ∷ cells) zero c v w h =
    let e : d ≡ c = cc in
    let t = ap (λ k. pair_share k v w) e in
    omega (arith, t, sum_by-cons (λ k. pair_share k v w) d (live cells))
cell_pairs-set (None ∷ cells) (suc i) c v w h = cell_pairs-set cells i c v w h
cell_pairs-set (Some d ∷ cells) (suc i) c v w h =
    let r = cell_pairs-set cells i c v w h in
    omega (arith, r, sum_by-cons (λ k. pair_share k v w) d (live cells), sum_by-cons (λ k. pair_share k v w) d (live (set cells i None)))

-- a row lists exactly the numbers that are not 0
pub row_lists : (near counts : List ℕ) → IsRow near counts → IsListOf (λ w. 0 < number_at near counts w) near
row_lists near counts r = record {
  ascending = r.ascending;
  every = λ w h. Contains-from_In near w (number_at-some near counts w h);
  only = λ w (k, lt, e).
      let at = number_at-place near counts k (Asc-from_increasing near r.ascending) r.even lt in
      let some = r.some k 0 (let q = r.even in omega arith) in
      let same : get_or near k 0 ≡ w = get_or_default near k 0 w lt ∙ e in
      let f = ap (number_at near counts) same in
      omega arith;
}

abbrev one : Bool → ℕ
one b = cond b 1 0

-- two vertices are neighbours exactly where a live cell has both
any_of : (p : Corners → Bool) (cells : List Corners) → 0 < sum_by (λ c. cond (p c) 1 0) cells → list_any p cells ≡ true
any_of p [] lt = absurd (omega arith)
any_of p (c ∷ cells) lt = by (p c) refl (any_of p cells)
  where
    by : (b : Bool) → p c ≡ b → (0 < sum_by (λ c. cond (p c) 1 0) cells → list_any p cells ≡ true) → (p c || list_any p cells) ≡ true
    by true e rest = ap (λ b. b || list_any p cells) e
    by false e rest =
        let z = ap one e in
        ap (λ b. b || list_any p cells) e ∙ rest (omega (arith, sum_by-cons (λ c. cond (p c) 1 0) c cells))

of_any : (p : Corners → Bool) (cells : List Corners) → list_any p cells ≡ true → 0 < sum_by (λ c. cond (p c) 1 0) cells
of_any p [] h = absurd (false≢true h)
of_any p (c ∷ cells) h = by (p c) refl (of_any p cells)
  where
    by : (b : Bool) → p c ≡ b → (list_any p cells ≡ true → 0 < sum_by (λ c. cond (p c) 1 0) cells) → 0 < sum_by (λ c. cond (p c) 1 0) (c ∷ cells)
    by true e rest = let z = ap one e in omega (arith, sum_by-cons (λ c. cond (p c) 1 0) c cells)
    by false e rest = let r = rest (sym (ap (λ b. b || list_any p cells) e) ∙ h) in omega (arith, sum_by-cons (λ c. cond (p c) 1 0) c cells)

none : (p : Corners → Bool) (cells : List Corners) → sum_by (λ c. cond (false && p c) 1 0) cells ≡ 0
none p [] = refl
none p (c ∷ cells) = omega (arith, sum_by-cons (λ c. cond (false && p c) 1 0) c cells, none p cells)

pub to_neighbours : (cells : List (Option Corners)) (v w : ℕ) → 0 < cell_pairs cells v w → are_neighbours cells v w ≡ true
to_neighbours cells v w lt = by (not (eqb v w)) lt
  where
    by : (a : Bool) → 0 < sum_by (λ c. cond (a && (has_corner c v && has_corner c w)) 1 0) (live cells) → (a && list_any (λ c. has_corner c v && has_corner c w) (live cells)) ≡ true
    by true l = any_of (λ c. has_corner c v && has_corner c w) (live cells) l
    by false l = let z = none (λ c. has_corner c v && has_corner c w) (live cells) in absurd (omega arith)

pub from_neighbours : (cells : List (Option Corners)) (v w : ℕ) → are_neighbours cells v w ≡ true → 0 < cell_pairs cells v w
from_neighbours cells v w h = by (not (eqb v w)) h
  where
    by : (a : Bool) → (a && list_any (λ c. has_corner c v && has_corner c w) (live cells)) ≡ true → 0 < sum_by (λ c. cond (a && (has_corner c v && has_corner c w)) 1 0) (live cells)
    by true l = of_any (λ c. has_corner c v && has_corner c w) (live cells) l
    by false l = absurd (false≢true l)

and_right : (a b : Bool) → (a && b) ≡ true → b ≡ true
and_right true b h = h
and_right false b h = absurd (false≢true h)

pair_share-sym : (c : Corners) (v w : ℕ) → pair_share c v w ≡ pair_share c w v
pair_share-sym c v w = grind (arith, nat_tests)

shares-sym : (cells : List Corners) (v w : ℕ) → sum_by (λ c. pair_share c v w) cells ≡ sum_by (λ c. pair_share c w v) cells
shares-sym [] v w = refl
shares-sym (c ∷ cells) v w =
    omega (arith, sum_by-cons (λ c. pair_share c v w) c cells, sum_by-cons (λ c. pair_share c w v) c cells, pair_share-sym c v w, shares-sym cells v w)

-- only points have pairs
pub pair_count-within : (rows : List RowView) (v w : ℕ) → 0 < pair_count rows v w → v < length rows
pair_count-within rows v w lt = elim (cases_lt v (length rows)) [ inl l ↦ l | inr g ↦ absurd (past (ap (λ q. number_at q.0 q.1 w) (get_or_past rows v ([], []) g))) ]
  where
    past : pair_count rows v w ≡ 0 → ⊥
    past e = omega arith

-- so the neighbours of a point are points
pub neighbour_within : (cells : List (Option Corners)) (rows : List RowView) (v w : ℕ) → IsPairsOf cells rows → 0 < pair_count rows v w → w < length rows
neighbour_within cells rows v w pairs lt = pair_count-within rows w v (omega (arith, pairs v w, pairs w v, shares-sym (live cells) v w))

pub neighbours_are : (cells : List (Option Corners)) (rows : List RowView) (v : ℕ) (vs : List ℕ) → IsPairsOf cells rows
    → IsListOf (λ w. 0 < pair_count rows v w) vs → vs ≡ filter (are_neighbours cells v) (range_with_len 0 (length rows))
neighbours_are cells rows v vs pairs l =
    same_list_of (λ w. (w < length rows) × (are_neighbours cells v w ≡ true)) vs (filter (are_neighbours cells v) (range_with_len 0 (length rows)))
    (record {
      ascending = l.ascending;
      every = λ w p. let q = from_neighbours cells v w p.1 in let e = pairs v w in l.every w (omega arith);
      only = λ w m. let p = l.only w m in let e = pairs v w in (neighbour_within cells rows v w pairs p, to_neighbours cells v w (omega arith));
    })
    (IsListOf-filter_range (are_neighbours cells v) (length rows))

pad : {X : Type 0} (xs : List X) (d : X) (v : ℕ) → get_or (xs ++ d ∷ []) v d ≡ get_or xs v d
pad [] d zero = refl
pad [] d (suc v) = refl
pad (x ∷ xs) d zero = refl
pad (x ∷ xs) d (suc v) = pad xs d v

-- a new point has no pairs
pub pair_count-push : (rows : List RowView) (v w : ℕ) → pair_count (rows ++ ([], []) ∷ []) v w ≡ pair_count rows v w
pair_count-push rows v w = ap (λ q. number_at q.0 q.1 w) (pad rows ([], []) v)

length-live : (cells : List (Option Corners)) → length (live cells) ≤ length cells
length-live [] = omega arith
length-live (None ∷ cells) = omega (arith, length-live cells)
length-live (Some c ∷ cells) = omega (arith, length-live cells)

pub cell_pairs-le : (cells : List (Option Corners)) (v w : ℕ) → cell_pairs cells v w ≤ length cells
cell_pairs-le cells v w = omega (arith, length-live cells, count_by-le-length (λ c. not (eqb v w) && (has_corner c v && has_corner c w)) (live cells))

and_left : (a b : Bool) → (a && b) ≡ true → a ≡ true
and_left true b h = refl
and_left false b h = h

-- a number that no live cell has is in no pair
pub cell_pairs-free : (cells : List (Option Corners)) (v w : ℕ) → is_vertex cells v ≡ false → cell_pairs cells v w ≡ 0
cell_pairs-free cells v w none = elim (cases_lt 0 (cell_pairs cells v w)) [ inl l ↦ absurd (false≢true (sym none ∙ there l)) | inr g ↦ omega arith ]
  where
    there : 0 < cell_pairs cells v w → is_vertex cells v ≡ true
    there l =
        any_from (λ c. has_corner c v && has_corner c w) (λ c. has_corner c v) (live cells) (λ c h. and_left (has_corner c v) (has_corner c w) h)
        (and_right (not (eqb v w)) (list_any (λ c. has_corner c v && has_corner c w) (live cells)) (to_neighbours cells v w l))

pub IsPairsOf-take : (cells : List (Option Corners)) (rows : List RowView) (n : ℕ) → length rows ≡ n + 1 → is_vertex cells n ≡ false → IsPairsOf cells rows → IsPairsOf cells (take n rows)
IsPairsOf-take cells rows n len none h v w = elim (cases_lt v n) [
  | inl l ↦ ap (λ q. number_at q.0 q.1 w) (get_or-take n rows v ([], []) l) ∙ h v w
  | inr g ↦ ap (λ q. number_at q.0 q.1 w) (get_or_past (take n rows) v ([], []) (omega (arith, length-take-le n rows (omega arith)))) ∙ sym (elim (cases_order v n) [
    | inl e ↦ cell_pairs-free cells v w (ap (is_vertex cells) e ∙ none)
    | inr d ↦ sym (h v w) ∙ ap (λ q. number_at q.0 q.1 w) (get_or_past rows v ([], []) (beyond d g))
  ])
]
  where
    beyond : (v < n) ⊎ (n < v) → n ≤ v → length rows ≤ v
    beyond (inl l) g = absurd (omega arith)
    beyond (inr l) g = omega arith
