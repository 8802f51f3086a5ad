-- what a crawl has found spreads to all that inside paths lead to
use Rattle.std.proofs.Common.{◌≡◌, ℕ, ◌+◌, ◌<◌, ◌≤◌, ◌⊎◌, inl, inr, Bool, true, false, cond, eqb, not, ◌&&◌, List, [], ◌∷◌, ◌++◌, length, get_or, take, Contains, refl, sym, ap, subst, ◌∙◌, arith}
use Rattle.std.proofs.lemmas.Bool.{cases_lt}
use Rattle.std.proofs.lemmas.List.{append-nil, append_assoc, take_more, take-append-le, get_or_append_left, get_or_default}
use Rattle.std.proofs.lemmas.List.Sums.{sum_by_more, sum_by_more_le}
use Rattle.std.proofs.lemmas.List.Sorted.{Contains-permutation, IsPermutation-sym, sum_by-IsPermutation}
use Rattle.std.proofs.lemmas.List.Elements.{Contains-append_left, Contains-append_cases, Contains-push, Contains-push_cases, Contains-get_or}
use Rattle.std.specs.List.Sorted.{IsNonDecreasing, IsPermutation}
use Rattle.mesh_base.specs.Numbers.{IsListOf}
use Rattle.mesh_base.specs.Place.{Area, is_inside}
use Rattle.mesh_base.specs.Mesh.{MeshView, are_neighbours, neighbours, degree, place}
use Rattle.mesh_base.specs.Query.{is_in, scan, JoinedToOne, joined_to, degrees}
use Rattle.mesh_base.proofs.Ascending.{In-from_Contains, Contains-from_In}
use Rattle.mesh_base.proofs.AnswerLaws.{and_right}
use Rattle.mesh_base.proofs.JoinedLaws.{joined_is, joined_on}
use Rattle.mesh_base.proofs.NumberLaws.{of_scan, to_scan, of_neighbours, to_numbers, inside_in, in_inside}
use Rattle.mesh_base.proofs.Once.{bit, rises, sum_in}
use Rattle.box_crawl.specs.Marked.{is_marked}
use Rattle.box_crawl.specs.Found.{IsTally, IsMore}
use Rattle.box_crawl.proofs.Tally.{from_marked, once}

module _ (mesh : MeshView) (area : Area) where
  pub more_push : (v : ℕ) (xs ys zs : List ℕ) (w : ℕ) (m : Bool) → IsMore mesh area v xs ys → are_neighbours mesh.cells v w ≡ true → w < length mesh.points
      → zs ≡ ys ++ cond (not m && is_inside area (place mesh w)) (w ∷ []) [] → IsMore mesh area v xs zs
  more_push v xs ys zs w m h n lt e = by (not m && is_inside area (place mesh w)) refl e
    where
      by : (t : Bool) → (not m && is_inside area (place mesh w)) ≡ t → zs ≡ ys ++ cond t (w ∷ []) [] → IsMore mesh area v xs zs
      by true t e = record {
        more = h.more ++ w ∷ [];
        is = e ∙ ap (λ l. l ++ w ∷ []) h.is ∙ append_assoc xs h.more (w ∷ []);
        only = λ u c. elim (Contains-push_cases h.more w u c) [
          | inl k ↦ h.only u k
          | inr q ↦ subst (λ u. Contains (scan mesh area) u × (are_neighbours mesh.cells v u ≡ true)) q (to_scan mesh area w (inside_in mesh area v w n (and_right (not m) (is_inside area (place mesh w)) t)) lt, n)
        ];
      }
      by false t e = record { more = h.more; is = e ∙ append-nil ys ∙ h.is; only = h.only }

  pub look_done : (found zs : List ℕ) (marks : List Bool) (w : ℕ) → IsTally found marks
      → zs ≡ found ++ cond (not (is_marked marks w) && is_inside area (place mesh w)) (w ∷ []) [] → is_in mesh area w ≡ true → Contains zs w
  look_done found zs marks w t e i = by (is_marked marks w) refl e
    where
      by : (m : Bool) → is_marked marks w ≡ m → zs ≡ found ++ cond (not m && is_inside area (place mesh w)) (w ∷ []) [] → Contains zs w
      by true q e = subst (λ l. Contains l w) (sym e) (Contains-append_left found [] w (from_marked found marks w t q))
      by false q e = subst (λ l. Contains l w) (sym (e ∙ ap (λ b. found ++ cond b (w ∷ []) []) (in_inside mesh area w i))) (Contains-push found w)

  pub kept : (ys zs : List ℕ) (t : Bool) (w u : ℕ) → zs ≡ ys ++ cond t (w ∷ []) [] → Contains ys u → Contains zs u
  kept ys zs t w u e m = subst (λ l. Contains l u) (sym e) (Contains-append_left ys (cond t (w ∷ []) []) u m)

  pub more_keeps : (v : ℕ) (xs ys : List ℕ) (u : ℕ) → IsMore mesh area v xs ys → Contains xs u → Contains ys u
  more_keeps v xs ys u h m = subst (λ l. Contains l u) (sym h.is) (Contains-append_left xs h.more u m)

module _ (mesh : MeshView) (area : Area) where
  -- the neighbour at i
  pub near_item : (v i : ℕ) (near : List ℕ) → near ≡ neighbours mesh v → i < length near → (are_neighbours mesh.cells v (get_or near i 0) ≡ true) × (get_or near i 0 < length mesh.points)
  near_item v i near e lt = of_neighbours mesh v (get_or near i 0) (subst (λ l. Contains l (get_or near i 0)) e (Contains-get_or near i 0 lt))

  pub done_more : (v i : ℕ) (near found zs : List ℕ) (marks : List Bool) → near ≡ neighbours mesh v → i < length near → IsTally found marks
      → zs ≡ found ++ cond (not (is_marked marks (get_or near i 0)) && is_inside area (place mesh (get_or near i 0))) (get_or near i 0 ∷ []) []
      → ((w : ℕ) → Contains (take i (neighbours mesh v)) w → is_in mesh area w ≡ true → Contains found w)
      → (w : ℕ) → Contains (take (i + 1) (neighbours mesh v)) w → is_in mesh area w ≡ true → Contains zs w
  done_more v i near found zs marks e lt t z before w m inside =
      elim (Contains-push_cases (take i near) (get_or near i 0) w (subst (λ l. Contains l w) (take_more near i 0 lt) (subst (λ l. Contains (take (i + 1) l) w) (sym e) m))) [
        | inl k ↦ kept mesh area found zs (not (is_marked marks (get_or near i 0)) && is_inside area (place mesh (get_or near i 0))) (get_or near i 0) w z (before w (subst (λ l. Contains (take i l) w) e k) inside)
        | inr q ↦ subst (Contains zs) q (look_done mesh area found zs marks (get_or near i 0) t z (subst (λ u. is_in mesh area u ≡ true) (sym q) inside))
      ]

  pub degrees_most : (seeds found : List ℕ) (marks : List Bool) → IsTally found marks → ((w : ℕ) → Contains found w → JoinedToOne mesh area seeds w)
      → ((s : ℕ) → Contains seeds s → Contains (scan mesh area) s) → degrees mesh area found ≤ degrees mesh area (joined_to mesh area seeds)
  degrees_most seeds found marks t only inside =
      sum_in (degree mesh) found (joined_to mesh area seeds) (λ v. once found marks v t)
      (λ v m. In-from_Contains _ v ((joined_is mesh area seeds inside).every v (only v (Contains-from_In found v m))))

  pub reads_before : (seeds found : List ℕ) (marks : List Bool) (at v : ℕ) → at < length found → v ≡ get_or found at v → IsTally found marks → ((w : ℕ) → Contains found w → JoinedToOne mesh area seeds w)
      → ((s : ℕ) → Contains seeds s → Contains (scan mesh area) s) → degrees mesh area (take at found) + degree mesh v ≤ degrees mesh area (joined_to mesh area seeds)
  reads_before seeds found marks at v lt e t only inside =
      let a = degrees_most seeds found marks t only inside in
      let b = sum_by_more_le (degree mesh) found at v lt in
      let q = ap (degree mesh) e in
      omega arith

  pub reads_more : (xs ys : List ℕ) (at v : ℕ) → at < length xs → v ≡ get_or xs at v → IsMore mesh area v xs ys → degrees mesh area (take (at + 1) ys) ≡ degrees mesh area (take at xs) + degree mesh v
  reads_more xs ys at v lt e h =
      ap (λ l. degrees mesh area (take (at + 1) l)) h.is
      ∙ ap (λ l. degrees mesh area l) (take-append-le (at + 1) xs h.more (omega arith))
      ∙ sum_by_more (degree mesh) xs at v lt
      ∙ ap (λ k. degrees mesh area (take at xs) + degree mesh k) (sym e)

  pub only_more : (seeds xs ys : List ℕ) (v : ℕ) → Contains xs v → IsMore mesh area v xs ys → ((w : ℕ) → Contains xs w → JoinedToOne mesh area seeds w) → (w : ℕ) → Contains ys w → JoinedToOne mesh area seeds w
  only_more seeds xs ys v m h only w c =
      elim (Contains-append_cases xs h.more w (subst (λ l. Contains l w) h.is c)) [
        | inl k ↦ only w k
        | inr k ↦ (let o = h.only w k in joined_on mesh area seeds v w (only v m) o.1 o.0)
      ]

  pub closed_more : (xs ys : List ℕ) (at v : ℕ) → at < length xs → v ≡ get_or xs at v → IsMore mesh area v xs ys
      → ((w : ℕ) → Contains (neighbours mesh v) w → is_in mesh area w ≡ true → Contains ys w)
      → ((k w : ℕ) → k < at → are_neighbours mesh.cells (get_or xs k 0) w ≡ true → Contains (scan mesh area) w → Contains xs w)
      → (k w : ℕ) → k < at + 1 → are_neighbours mesh.cells (get_or ys k 0) w ≡ true → Contains (scan mesh area) w → Contains ys w
  closed_more xs ys at v lt e h done before k w kt n i = by (cases_lt k at)
    where
      same : get_or ys k 0 ≡ get_or xs k 0
      same = ap (λ l. get_or l k 0) h.is ∙ get_or_append_left xs h.more 0 k (omega arith)

      by : (k < at) ⊎ (at ≤ k) → Contains ys w
      by (inl l) = more_keeps mesh area v xs ys w h (before k w l (subst (λ u. are_neighbours mesh.cells u w ≡ true) same n) i)
      by (inr g) =
          let q : k ≡ at = omega arith in
          let is : get_or ys k 0 ≡ v = same ∙ ap (λ j. get_or xs j 0) q ∙ get_or_default xs at 0 v lt ∙ sym e in
          let s = of_scan mesh area w i in
          done w (to_numbers mesh (are_neighbours mesh.cells v) w (subst (λ u. are_neighbours mesh.cells u w ≡ true) is n) s.1) s.0

  pub closed_all : (found : List ℕ) (at : ℕ) → length found ≤ at
      → ((k w : ℕ) → k < at → are_neighbours mesh.cells (get_or found k 0) w ≡ true → Contains (scan mesh area) w → Contains found w)
      → (v w : ℕ) → Contains found v → are_neighbours mesh.cells v w ≡ true → Contains (scan mesh area) w → Contains found w
  closed_all found at le closed v w (k, lt, e) n i =
      closed k w (omega arith) (subst (λ u. are_neighbours mesh.cells u w ≡ true) (sym (get_or_default found k 0 v lt ∙ e)) n) i

-- a list with each number once, sorted
pub sorted_list : (P : ℕ → Type 0) (found sorted : List ℕ) (marks : List Bool) → IsTally found marks → IsPermutation found sorted → IsNonDecreasing sorted
    → ((w : ℕ) → P w → Contains found w) → ((w : ℕ) → Contains found w → P w) → IsListOf P sorted
sorted_list P found sorted marks t p up every only = record {
  ascending = rises sorted up (λ v. let a = once found marks v t in let e = sum_by-IsPermutation (λ x. bit (eqb x v)) found sorted p in omega arith);
  every = λ w h. Contains-permutation found sorted w p (every w h);
  only = λ w m. only w (Contains-permutation sorted found w (IsPermutation-sym found sorted p) m);
}
