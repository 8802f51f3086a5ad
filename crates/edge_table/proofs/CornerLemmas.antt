-- each pair of a live cell is counted at one corner
use Rattle.std.proofs.Common.{◌≡◌, ◌≢◌, ℕ, ◌+◌, ◌<◌, ◌≤◌, inl, inr, Bool, true, false, cond, eqb, ltb, not, ◌&&◌, List, [], ◌∷◌, length, get_or, set, sum_by, Option, Some, None, IfSome, refl, sym, ap, subst, ◌∙◌, arith}
use Rattle.std.proofs.lemmas.Bool.Decides.{nat_tests}
use Rattle.std.proofs.lemmas.List.{get_or_past}
use Rattle.std.proofs.lemmas.List.Elements.{All-head, All-tail}
use Rattle.std.proofs.lemmas.List.Filters.{sum_by-filter_both}
use Rattle.std.proofs.lemmas.List.Sums.{sum_by-append, sum_by-cons}
use Rattle.mesh_base.specs.Mesh.{Corners, AreWithin, AreDifferent, AreAllDifferent, has_corner, is_vertex, live}
use Rattle.mesh_base.proofs.Corners.{eq_or}
use Rattle.mesh_base.proofs.Within.{vertex_within}
use Rattle.corner_ranges.specs.Ranges.{corners_of_cell, all_corners, range_of, corners_before}
use Rattle.edge_table.specs.Pairs.{RowView, number_at, pair_count, pair_share, cell_pairs}
use Rattle.edge_table.specs.Rows.{shown}
use Rattle.edge_table.specs.declared.row.Row.{Row}
use Rattle.edge_table.specs.Corner.{pair_of, pairs_at, corner_pairs}
use Rattle.edge_table.proofs.PairLemmas.{cell_pairs-free}
use Rattle.edge_table.proofs.TableLemmas.{share-0, share-1, share-2, share-3, pair_count-at, pair_count-set, pair_count-set_other}

same : (v : ℕ) → eqb v v ≡ true
same v = grind (arith, nat_tests)

apart : (v a : ℕ) → v ≢ a → eqb v a ≡ false
apart v a n = grind (arith, nat_tests)

abbrev three : Bool → ℕ → ℕ → ℕ → ℕ → ℕ
three t x y z u = cond (t && eqb x u) 1 0 + cond (t && eqb y u) 1 0 + cond (t && eqb z u) 1 0

own : (v x y z u : ℕ) → pairs_at v x y z v u ≡ cond (eqb x u) 1 0 + cond (eqb y u) 1 0 + cond (eqb z u) 1 0
own v x y z u = ap (λ t. three t x y z u) (same v)

other : (v x y z a u : ℕ) → v ≢ a → pairs_at v x y z a u ≡ 0
other v x y z a u n = ap (λ t. three t x y z u) (apart v a n)

never : (t : Bool) → (t && false) ≡ false
never true = refl
never false = refl

no_corner : (c : Corners) (a : ℕ) → c.0 ≢ a → c.1 ≢ a → c.2 ≢ a → c.3 ≢ a → has_corner c a ≡ false
no_corner c a w x y z = grind (arith, nat_tests)

no_pair : (c : Corners) (a u : ℕ) → c.0 ≢ a → c.1 ≢ a → c.2 ≢ a → c.3 ≢ a → pair_share c a u ≡ 0
no_pair c a u w x y z = ap (λ t. cond t 1 0) (ap (λ t. not (eqb a u) && (t && has_corner c u)) (no_corner c a w x y z) ∙ never (not (eqb a u)))

abbrev Once : Corners → ℕ → ℕ → Type 0
Once c u a = pairs_at c.0 c.1 c.2 c.3 a u + pairs_at c.1 c.0 c.2 c.3 a u + pairs_at c.2 c.0 c.1 c.3 a u + pairs_at c.3 c.0 c.1 c.2 a u ≡ pair_share c a u

once : (c : Corners) (a u : ℕ) → AreDifferent c → Once c u a
once c a u d = elim (eq_or a c.0) [
  | inl e ↦ subst (Once c u) (sym e) (omega (arith, own c.0 c.1 c.2 c.3 u, other c.1 c.0 c.2 c.3 c.0 u (λ q. d.0 (sym q)), other c.2 c.0 c.1 c.3 c.0 u (λ q. d.1 (sym q)), other c.3 c.0 c.1 c.2 c.0 u (λ q. d.2 (sym q)), share-0 c u d))
  | inr w ↦ elim (eq_or a c.1) [
    | inl e ↦ subst (Once c u) (sym e) (omega (arith, own c.1 c.0 c.2 c.3 u, other c.0 c.1 c.2 c.3 c.1 u d.0, other c.2 c.0 c.1 c.3 c.1 u (λ q. d.3 (sym q)), other c.3 c.0 c.1 c.2 c.1 u (λ q. d.4 (sym q)), share-1 c u d))
    | inr x ↦ elim (eq_or a c.2) [
      | inl e ↦ subst (Once c u) (sym e) (omega (arith, own c.2 c.0 c.1 c.3 u, other c.0 c.1 c.2 c.3 c.2 u d.1, other c.1 c.0 c.2 c.3 c.2 u d.3, other c.3 c.0 c.1 c.2 c.2 u (λ q. d.5 (sym q)), share-2 c u d))
      | inr y ↦ elim (eq_or a c.3) [
        | inl e ↦ subst (Once c u) (sym e) (omega (arith, own c.3 c.0 c.1 c.2 u, other c.0 c.1 c.2 c.3 c.3 u d.2, other c.1 c.0 c.2 c.3 c.3 u d.4, other c.2 c.0 c.1 c.3 c.3 u d.5, share-3 c u d))
        | inr z ↦ omega (arith, other c.0 c.1 c.2 c.3 a u (λ q. w (sym q)), other c.1 c.0 c.2 c.3 a u (λ q. x (sym q)), other c.2 c.0 c.1 c.3 a u (λ q. y (sym q)), other c.3 c.0 c.1 c.2 a u (λ q. z (sym q)), no_pair c a u (λ q. w (sym q)) (λ q. x (sym q)) (λ q. y (sym q)) (λ q. z (sym q)))
      ]
    ]
  ]
]

cell_once : (c : Corners) (a u : ℕ) → AreDifferent c → corner_pairs a u (c.0, c.1, c.2, c.3) + corner_pairs a u (c.1, c.0, c.2, c.3) + corner_pairs a u (c.2, c.0, c.1, c.3) + corner_pairs a u (c.3, c.0, c.1, c.2) ≡ pair_share c a u
cell_once c a u d = once c a u d

-- all corners together
pub pairs_are : (a u : ℕ) (cells : List (Option Corners)) → AreAllDifferent cells → sum_by (corner_pairs a u) (all_corners cells) ≡ cell_pairs cells a u
pairs_are a u [] d = refl
pairs_are a u (None ∷ cells) d = pairs_are a u cells (All-tail (λ cell. IfSome cell AreDifferent) None cells d)
pairs_are a u (Some c ∷ cells) d =
    let rest = pairs_are a u cells (All-tail (λ cell. IfSome cell AreDifferent) (Some c) cells d) in
    let one = cell_once c a u (All-head (λ cell. IfSome cell AreDifferent) (Some c) cells d) in
    let g = corner_pairs a u in
    let split : sum_by g (all_corners (Some c ∷ cells)) ≡ sum_by g (corners_of_cell c) + sum_by g (all_corners cells) = sum_by-append g (corners_of_cell c) (all_corners cells) in
    let four : sum_by g (corners_of_cell c) ≡ 0 + g (c.0, c.1, c.2, c.3) + g (c.1, c.0, c.2, c.3) + g (c.2, c.0, c.1, c.3) + g (c.3, c.0, c.1, c.2) = refl in
    let both : cell_pairs (Some c ∷ cells) a u ≡ pair_share c a u + cell_pairs cells a u = sum_by-cons (λ k. pair_share k a u) c (live cells) in
    omega (arith, rest, one, split, four, both)

-- the ranges before one have no more than all
pub before_le : (a u r : ℕ) (cells : List (Option Corners)) → AreAllDifferent cells → sum_by (corner_pairs a u) (corners_before r cells) ≤ cell_pairs cells a u
before_le a u r cells d =
    let p = λ (k : Corners). ltb (range_of k.0) r in
    omega (arith, sum_by-filter_both p (λ k. not (p k)) (λ k. refl) (corner_pairs a u) (all_corners cells), pairs_are a u cells d)

-- the rows after one of them counts a pair n times more
pub pairs-set : (rows : List Row) (v w n a u : ℕ) (r q : Row) → v < length rows → q ≡ get_or rows v q
    → ((u : ℕ) → number_at r.near.items r.counts.items u ≡ number_at q.near.items q.counts.items u + cond (eqb w u) n 0)
    → pair_count (shown (set rows v r)) a u ≡ pair_count (shown rows) a u + pair_of v w n a u
pairs-set rows v w n a u r q lt e h = elim (eq_or a v) [
  | inl d ↦ subst (λ t. pair_count (shown (set rows v r)) t u ≡ pair_count (shown rows) t u + pair_of v w n t u) (sym d)
      (pair_count-set rows v u r lt ∙ h u ∙ ap (λ k. k + cond (eqb w u) n 0) (sym (pair_count-at rows v u q lt e))
      ∙ ap (λ t. pair_count (shown rows) v u + cond (t && eqb w u) n 0) (sym (same v)))
  | inr x ↦ (
      let z : pair_of v w n a u ≡ 0 = ap (λ t. cond (t && eqb w u) n 0) (apart v a (λ k. x (sym k))) in
      let y = pair_count-set_other rows v a u r x in
      omega (arith, z, y))
]

-- a pair at its own points
pub pair_of-own : (v w n : ℕ) → pair_of v w n v w ≡ n
pair_of-own v w n = ap (λ t. cond (t && eqb w w) n 0) (same v) ∙ ap (λ t. cond t n 0) (same w)

-- past the points there are no pairs
pub none_past : (n : ℕ) (cells : List (Option Corners)) (v w : ℕ) → AreWithin n cells → n ≤ v → cell_pairs cells v w ≡ 0
none_past n cells v w a le = cell_pairs-free cells v w (by (is_vertex cells v) refl)
  where
    by : (b : Bool) → is_vertex cells v ≡ b → is_vertex cells v ≡ false
    by true q = absurd (let l = vertex_within n cells v a q in omega arith)
    by false q = q

pub pairs_past : (rows : List RowView) (v w : ℕ) → length rows ≤ v → pair_count rows v w ≡ 0
pairs_past rows v w le = ap (λ q. number_at q.0 q.1 w) (get_or_past rows v ([], []) le)
