-- the nearest of an ascending list, one more at a time
use Rattle.std.proofs.Common.{◌≡◌, ℕ, zero, suc, ◌+◌, ◌<◌, inl, inr, Bool, true, false, cond, eqb, ltb, ◌&&◌, ◌||◌, List, [], ◌∷◌, ◌++◌, length, get_or, take, Option, Some, None, refl, sym, ap, subst, ◌∙◌, arith}
use Rattle.std.proofs.lemmas.Bool.Decides.{nat_tests}
use Rattle.std.proofs.lemmas.List.{take_more}
use Rattle.std.specs.List.Sorted.{IsStrictlyIncreasing}
use Rattle.mesh_base.specs.Place.{Area}
use Rattle.mesh_base.specs.Mesh.{MeshView}
use Rattle.mesh_base.specs.Query.{distance, is_nearer}
use Rattle.mesh_base.proofs.Ascending.{In, Asc, Asc-from_increasing, In-get_or}
use Rattle.mesh_base.proofs.WalkLaws.{after, nearest_push, nearest_In}
use Rattle.probe_walk.specs.declared.near.Near.{Near}
use Rattle.probe_walk.specs.Nearest.{better, IsBest}

-- the order of pairs of a distance and a number
abbrev before : ℕ → ℕ → ℕ → ℕ → Bool
before d v e w = ltb d e || (eqb d e && ltb v w)

-- a greater number comes first only at a lesser distance
before_late : (d v e w : ℕ) → w < v → before d v e w ≡ ltb d e
before_late d v e w l = grind (arith, nat_tests)

-- in an ascending list what stands before i is less than what stands there
less_before : (xs : List ℕ) (i u : ℕ) → Asc xs → i < length xs → In (take i xs) u → u < get_or xs i 0
less_before [] i u a lt m = absurd (omega arith)
less_before (x ∷ xs) zero u a lt m = absurd m
less_before (x ∷ xs) (suc i) u a lt (inl e) = let p = a.0 (get_or xs i 0) (In-get_or xs i (omega arith)) in omega arith
less_before (x ∷ xs) (suc i) u a lt (inr m) = less_before xs i u a.1 (omega arith) m

module _ (mesh : MeshView) (area : Area) where
  best_push : (xs : List ℕ) (best : Option Near) (near : Near) → IsBest mesh area xs best → ((u : ℕ) → In xs u → u < near.vertex) → near.distance ≡ distance mesh area near.vertex
      → IsBest mesh area (xs ++ near.vertex ∷ []) (Some (better best near))
  best_push xs None near h late e = record { vertex = ap (λ o. Some (after mesh area o near.vertex)) h.vertex ∙ sym (nearest_push mesh area xs near.vertex); distance = e }
  best_push xs (Some m) near h late e = record {
    vertex = vertex (ltb near.distance m.distance) refl ∙ ap (λ o. Some (after mesh area o near.vertex)) h.vertex ∙ sym (nearest_push mesh area xs near.vertex);
    distance = far (ltb near.distance m.distance);
  }
    where
      same : ltb near.distance m.distance ≡ is_nearer mesh area near.vertex m.vertex
      same =
          sym (before_late near.distance near.vertex m.distance m.vertex (late m.vertex (nearest_In mesh area xs m.vertex (sym h.vertex))))
          ∙ ap (λ d. before d near.vertex m.distance m.vertex) e
          ∙ ap (λ d. before (distance mesh area near.vertex) near.vertex d m.vertex) h.distance

      vertex : (b : Bool) → ltb near.distance m.distance ≡ b → Some (cond b near m).vertex ≡ Some (cond (is_nearer mesh area near.vertex m.vertex) near.vertex m.vertex)
      vertex true p = ap (λ t. Some (cond t near.vertex m.vertex)) (sym p ∙ same)
      vertex false p = ap (λ t. Some (cond t near.vertex m.vertex)) (sym p ∙ same)

      far : (b : Bool) → (cond b near m).distance ≡ distance mesh area (cond b near m).vertex
      far true = e
      far false = h.distance

  -- the same over the first i
  pub best_more : (xs : List ℕ) (i : ℕ) (best : Option Near) (near : Near) → IsStrictlyIncreasing xs → i < length xs → near.vertex ≡ get_or xs i 0 → near.distance ≡ distance mesh area near.vertex
      → IsBest mesh area (take i xs) best → IsBest mesh area (take (i + 1) xs) (Some (better best near))
  best_more xs i best near up lt v e h =
      subst (λ l. IsBest mesh area l (Some (better best near))) (ap (λ k. take i xs ++ k ∷ []) v ∙ sym (take_more xs i 0 lt))
      (best_push (take i xs) best near h (λ u m. subst (λ k. u < k) (sym v) (less_before xs i u (Asc-from_increasing xs up) lt m)) e)
