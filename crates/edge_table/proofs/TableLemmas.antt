-- the rows after one of them changed
use Rattle.std.proofs.Common.{◌≡◌, ◌≢◌, ℕ, zero, suc, ◌+◌, ◌<◌, ◌≤◌, cond, eqb, Bool, true, false, not, ◌&&◌, List, [], ◌∷◌, ◌++◌, length, length-append, get_or, set, take, slice_get, Some, refl, sym, ap, subst, ◌∙◌, arith}
use Rattle.std.proofs.lemmas.List.{map-set, get_or-set_same, get_or-set_other, get_or-map}
use Rattle.std.proofs.lemmas.List.Elements.{All-set, All-push}
use Rattle.std.specs.Option.{IfSome}
use Rattle.smallvec.specs.SmallVec.{HasRoomFor}
use Rattle.edge_table.specs.Pairs.{RowView, number_at, pair_count, pair_share, IsRow}
use Rattle.std.proofs.lemmas.Bool.Decides.{nat_tests}
use Rattle.mesh_base.specs.Mesh.{Corners, AreDifferent, has_corner}
use Rattle.mesh_base.proofs.Corners.{IsArray, in_array, not_corner}
use Rattle.edge_table.specs.Rows.{shown, AreRows, HasRoomAt}
use Rattle.edge_table.specs.declared.row.Row.{Row}
use Rattle.mesh_base.specs.Numbers.{IsListOf}
use Rattle.edge_table.proofs.PairLemmas.{row_lists, pair_count-within}

abbrev view : Row → RowView
view r = (r.near.items, r.counts.items)

pub length_shown : (rows : List Row) → length (shown rows) ≡ length rows
length_shown [] = refl
length_shown (r ∷ rows) = ap suc (length_shown rows)

pub pair_count-at : (rows : List Row) (v u : ℕ) (r : Row) → v < length rows → r ≡ get_or rows v r → pair_count (shown rows) v u ≡ number_at r.near.items r.counts.items u
pair_count-at rows v u r lt e = ap (λ q. number_at q.0 q.1 u) (get_or-map view rows v r ([], []) lt ∙ ap view (sym e))

pub pair_count-set : (rows : List Row) (v u : ℕ) (r : Row) → v < length rows → pair_count (shown (set rows v r)) v u ≡ number_at r.near.items r.counts.items u
pair_count-set rows v u r lt = ap (λ q. number_at q.0 q.1 u) (ap (λ l. get_or l v ([], [])) (map-set view rows v r) ∙ get_or-set_same (shown rows) v (view r) ([], []) (subst (λ n. v < n) (sym (length_shown rows)) lt))

pub pair_count-set_other : (rows : List Row) (v w u : ℕ) (r : Row) → w ≢ v → pair_count (shown (set rows v r)) w u ≡ pair_count (shown rows) w u
pair_count-set_other rows v w u r n = ap (λ q. number_at q.0 q.1 u) (ap (λ l. get_or l w ([], [])) (map-set view rows v r) ∙ get_or-set_other (shown rows) v w (view r) ([], []) n)

pub AreRows-set : (rows : List Row) (v : ℕ) (r : Row) → IsRow r.near.items r.counts.items → AreRows (shown rows) → AreRows (shown (set rows v r))
AreRows-set rows v r i a = subst AreRows (sym (map-set view rows v r)) (All-set (λ q. IsRow q.0 q.1) (shown rows) v (view r) i a)

slice_get-other : {X : Type 0} (xs : List X) (v w : ℕ) (x : X) → w ≢ v → slice_get (set xs v x) w ≡ slice_get xs w
slice_get-other [] v w x n = refl
slice_get-other (y ∷ ys) zero zero x n = absurd (n refl)
slice_get-other (y ∷ ys) zero (suc w) x n = refl
slice_get-other (y ∷ ys) (suc v) zero x n = refl
slice_get-other (y ∷ ys) (suc v) (suc w) x n = slice_get-other ys v w x (λ e. n (ap suc e))

slice_get-same : {X : Type 0} (xs : List X) (v : ℕ) (x : X) → v < length xs → slice_get (set xs v x) v ≡ Some x
slice_get-same [] v x lt = absurd (omega arith)
slice_get-same (y ∷ ys) zero x lt = refl
slice_get-same (y ∷ ys) (suc v) x lt = slice_get-same ys v x (omega arith)

-- the room at the other rows stays
abbrev pub HasRoomIn : ℕ → Row → Type 0
HasRoomIn more r = HasRoomFor r.near more × HasRoomFor r.counts more

pub HasRoomAt-set_other : (more : ℕ) (rows : List Row) (v w : ℕ) (r : Row) → w ≢ v → HasRoomAt more rows w → HasRoomAt more (set rows v r) w
HasRoomAt-set_other more rows v w r n h = subst (λ o. IfSome o (HasRoomIn more)) (sym (slice_get-other rows v w r n)) h

pub HasRoomAt-set_same : (more : ℕ) (rows : List Row) (v : ℕ) (r : Row) → v < length rows → HasRoomIn more r → HasRoomAt more (set rows v r) v
HasRoomAt-set_same more rows v r lt h = subst (λ o. IfSome o (HasRoomIn more)) (sym (slice_get-same rows v r lt)) h

-- the row at v, as `slice_get` has it
pub room_of : (more : ℕ) (rows : List Row) (v : ℕ) (r : Row) → v < length rows → r ≡ get_or rows v r → HasRoomAt more rows v → HasRoomIn more r
room_of more [] v r lt e h = absurd (omega arith)
room_of more (q ∷ rows) zero r lt e h = subst (HasRoomIn more) (sym e) h
room_of more (q ∷ rows) (suc v) r lt e h = room_of more rows v r (omega arith) e h

pub shown-set_same : (rows : List Row) (v : ℕ) (r q : Row) → q ≡ get_or rows v q → r.near.items ≡ q.near.items → r.counts.items ≡ q.counts.items → shown (set rows v r) ≡ shown rows
shown-set_same [] v r q e f g = refl
shown-set_same (p ∷ rows) zero r q e f g = ap (λ h. h ∷ shown rows) (λ i. (f i, g i)) ∙ ap (λ k. view k ∷ shown rows) e
shown-set_same (p ∷ rows) (suc v) r q e f g = ap (λ l. view p ∷ l) (shown-set_same rows v r q e f g)

-- what a cell adds at each of its corners, and elsewhere
pub share-0 : (k : Corners) (u : ℕ) → AreDifferent k → (cond (eqb k.1 u) 1 0 + cond (eqb k.2 u) 1 0) + cond (eqb k.3 u) 1 0 ≡ pair_share k k.0 u
share-0 k u d = grind (arith, nat_tests)

pub share-1 : (k : Corners) (u : ℕ) → AreDifferent k → (cond (eqb k.0 u) 1 0 + cond (eqb k.2 u) 1 0) + cond (eqb k.3 u) 1 0 ≡ pair_share k k.1 u
share-1 k u d = grind (arith, nat_tests)

pub share-2 : (k : Corners) (u : ℕ) → AreDifferent k → (cond (eqb k.0 u) 1 0 + cond (eqb k.1 u) 1 0) + cond (eqb k.3 u) 1 0 ≡ pair_share k k.2 u
share-2 k u d = grind (arith, nat_tests)

pub share-3 : (k : Corners) (u : ℕ) → AreDifferent k → (cond (eqb k.0 u) 1 0 + cond (eqb k.1 u) 1 0) + cond (eqb k.2 u) 1 0 ≡ pair_share k k.3 u
share-3 k u d = grind (arith, nat_tests)

-- the same of the corners as an array has them
pub array-0 : (xs : List ℕ) (k : Corners) (u : ℕ) → IsArray xs k → AreDifferent k
    → (cond (eqb (get_or xs 1 0) u) 1 0 + cond (eqb (get_or xs 2 0) u) 1 0) + cond (eqb (get_or xs 3 0) u) 1 0 ≡ pair_share k (get_or xs 0 0) u
array-0 xs k u e d = in_array (λ a b f g. (cond (eqb b u) 1 0 + cond (eqb f u) 1 0) + cond (eqb g u) 1 0 ≡ pair_share k a u) xs k e (share-0 k u d)

pub array-1 : (xs : List ℕ) (k : Corners) (u : ℕ) → IsArray xs k → AreDifferent k
    → (cond (eqb (get_or xs 0 0) u) 1 0 + cond (eqb (get_or xs 2 0) u) 1 0) + cond (eqb (get_or xs 3 0) u) 1 0 ≡ pair_share k (get_or xs 1 0) u
array-1 xs k u e d = in_array (λ a b f g. (cond (eqb a u) 1 0 + cond (eqb f u) 1 0) + cond (eqb g u) 1 0 ≡ pair_share k b u) xs k e (share-1 k u d)

pub array-2 : (xs : List ℕ) (k : Corners) (u : ℕ) → IsArray xs k → AreDifferent k
    → (cond (eqb (get_or xs 0 0) u) 1 0 + cond (eqb (get_or xs 1 0) u) 1 0) + cond (eqb (get_or xs 3 0) u) 1 0 ≡ pair_share k (get_or xs 2 0) u
array-2 xs k u e d = in_array (λ a b f g. (cond (eqb a u) 1 0 + cond (eqb b u) 1 0) + cond (eqb g u) 1 0 ≡ pair_share k f u) xs k e (share-2 k u d)

pub array-3 : (xs : List ℕ) (k : Corners) (u : ℕ) → IsArray xs k → AreDifferent k
    → (cond (eqb (get_or xs 0 0) u) 1 0 + cond (eqb (get_or xs 1 0) u) 1 0) + cond (eqb (get_or xs 2 0) u) 1 0 ≡ pair_share k (get_or xs 3 0) u
array-3 xs k u e d = in_array (λ a b f g. (cond (eqb a u) 1 0 + cond (eqb b u) 1 0) + cond (eqb f u) 1 0 ≡ pair_share k g u) xs k e (share-3 k u d)

pub array-none : (xs : List ℕ) (k : Corners) (w u : ℕ) → IsArray xs k → w ≢ get_or xs 0 0 → w ≢ get_or xs 1 0 → w ≢ get_or xs 2 0 → w ≢ get_or xs 3 0 → pair_share k w u ≡ 0
array-none xs k w u e a b c d = ap (λ t. cond t 1 0) (ap (λ t. not (eqb w u) && (t && has_corner k u)) (not_corner xs k w e a b c d) ∙ never (not (eqb w u)))
  where
    never : (t : Bool) → (t && false) ≡ false
    never true = refl
    never false = refl

-- each corner has a pair with the others
pub array-pairs : (xs : List ℕ) (k : Corners) → IsArray xs k → AreDifferent k
    → (pair_share k (get_or xs 0 0) (get_or xs 1 0) ≡ 1) × (pair_share k (get_or xs 1 0) (get_or xs 0 0) ≡ 1)
    × (pair_share k (get_or xs 2 0) (get_or xs 0 0) ≡ 1) × (pair_share k (get_or xs 3 0) (get_or xs 0 0) ≡ 1)
array-pairs xs k e d =
    in_array (λ a b f g. (pair_share k a b ≡ 1) × (pair_share k b a ≡ 1) × (pair_share k f a ≡ 1) × (pair_share k g a ≡ 1)) xs k e
    (grind (arith, nat_tests), grind (arith, nat_tests), grind (arith, nat_tests), grind (arith, nat_tests))

-- the corners of a cell whose pairs are there are points
pub corners_within : (rows : List Row) (xs : List ℕ) (k : Corners) → IsArray xs k → AreDifferent k → ((v u : ℕ) → pair_share k v u ≤ pair_count (shown rows) v u)
    → (get_or xs 0 0 < length rows) × (get_or xs 1 0 < length rows) × (get_or xs 2 0 < length rows) × (get_or xs 3 0 < length rows)
corners_within rows xs k e d there =
    let p = array-pairs xs k e d in
    (at (get_or xs 0 0) (get_or xs 1 0) p.0, at (get_or xs 1 0) (get_or xs 0 0) p.1, at (get_or xs 2 0) (get_or xs 0 0) p.2, at (get_or xs 3 0) (get_or xs 0 0) p.3)
  where
    at : (v u : ℕ) → pair_share k v u ≡ 1 → v < length rows
    at v u one = subst (λ n. v < n) (length_shown rows) (pair_count-within (shown rows) v u (omega (arith, one, there v u)))

-- the row at v lists the vertices that have pairs with v
pub row_at : (rows : List Row) (v : ℕ) (r : Row) → v < length rows → r ≡ get_or rows v r → AreRows (shown rows) → IsListOf (λ w. 0 < pair_count (shown rows) v w) r.near.items
row_at rows v r lt e a =
    let same : get_or (shown rows) v ([], []) ≡ view r = get_or-map view rows v r ([], []) lt ∙ ap view (sym e) in
    let i : IsRow r.near.items r.counts.items = subst (λ q. IsRow q.0 q.1) same (a v ([], []) (subst (λ n. v < n) (sym (length_shown rows)) lt)) in
    subst (λ q. IsListOf (λ w. 0 < number_at q.0 q.1 w) r.near.items) (sym same) (row_lists r.near.items r.counts.items i)

pub shown-take : (n : ℕ) (rows : List Row) → shown (take n rows) ≡ take n (shown rows)
shown-take zero rows = refl
shown-take (suc n) [] = refl
shown-take (suc n) (r ∷ rows) = ap (λ l. view r ∷ l) (shown-take n rows)

-- one more row at the end
pub pair_count-push_row : (rows : List Row) (r : Row) (u : ℕ) → pair_count (shown (rows ++ r ∷ [])) (length rows) u ≡ number_at r.near.items r.counts.items u
pair_count-push_row [] r u = refl
pair_count-push_row (q ∷ rows) r u = pair_count-push_row rows r u

pub pair_count-push_other : (rows : List Row) (r : Row) (v u : ℕ) → v ≢ length rows → pair_count (shown (rows ++ r ∷ [])) v u ≡ pair_count (shown rows) v u
pair_count-push_other [] r zero u n = absurd (n refl)
pair_count-push_other [] r (suc v) u n = refl
pair_count-push_other (q ∷ rows) r zero u n = refl
pair_count-push_other (q ∷ rows) r (suc v) u n = pair_count-push_other rows r v u (λ e. n (ap suc e))

shown-push : (rows : List Row) (r : Row) → shown (rows ++ r ∷ []) ≡ shown rows ++ view r ∷ []
shown-push [] r = refl
shown-push (q ∷ rows) r = ap (λ l. view q ∷ l) (shown-push rows r)

pub AreRows-push : (rows : List Row) (r : Row) → AreRows (shown rows) → IsRow r.near.items r.counts.items → AreRows (shown (rows ++ r ∷ []))
AreRows-push rows r a i = subst AreRows (sym (shown-push rows r)) (All-push (λ q. IsRow q.0 q.1) (shown rows) (view r) a i)

pub length-push : (rows : List Row) (r : Row) → length (shown (rows ++ r ∷ [])) ≡ length (shown rows) + 1
length-push rows r = ap length (shown-push rows r) ∙ length-append (shown rows) (view r ∷ [])
