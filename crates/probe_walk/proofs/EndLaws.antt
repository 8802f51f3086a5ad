-- ends and degrees of walks, one vertex at a time
use Rattle.std.proofs.Common.{◌≡◌, ℕ, suc, ◌+◌, ◌-◌, ◌≤◌, Bool, true, false, eqb, List, [], ◌∷◌, length, drop, Some, None, Contains, refl, sym, ap, ◌∙◌, arith}
use Rattle.std.proofs.lemmas.Bool.{false≢true}
use Rattle.std.proofs.lemmas.Bool.Decides.{nat_tests}
use Rattle.std.proofs.lemmas.List.Sums.{sum_by-cons}
use Rattle.std.specs.List.Sorted.{IsStrictlyIncreasing}
use Rattle.mesh_base.specs.Place.{Area, Place, is_inside, dist2}
use Rattle.mesh_base.specs.Mesh.{MeshView, degree, place, surface, is_surface, neighbours, are_neighbours}
use Rattle.mesh_base.specs.Query.{distance, is_in, next, walk, degrees}
use Rattle.mesh_base.proofs.AnswerLaws.{distance_zero}
use Rattle.mesh_base.proofs.Ascending.{IsListOf-filter_range}
use Rattle.mesh_base.proofs.Distances.{dist2-inside}
use Rattle.mesh_base.proofs.NumberLaws.{surface_in}
use Rattle.mesh_base.proofs.WalkLaws.{whole, walk_on, walk_stops}
use Rattle.probe_walk.specs.WalkEnds.{last_of}

-- a place is inside where it is at no distance
zero_inside : (area : Area) (p : Place) → eqb (dist2 area p) 0 ≡ is_inside area p
zero_inside area p = by (is_inside area p) refl
  where
    by : (b : Bool) → is_inside area p ≡ b → eqb (dist2 area p) 0 ≡ b
    by true e = let z = dist2-inside area p e in grind (arith, nat_tests)
    by false e = not_zero (dist2 area p) (λ z. absurd (false≢true (sym e ∙ distance_zero area p z)))
      where
        not_zero : (n : ℕ) → (n ≡ 0 → ⊥) → eqb n 0 ≡ false
        not_zero n f = grind (arith, nat_tests)

pub increasing_surface : (mesh : MeshView) → IsStrictlyIncreasing (surface mesh)
increasing_surface mesh = (IsListOf-filter_range (is_surface mesh.cells) (length mesh.points)).ascending

pub increasing_neighbours : (mesh : MeshView) (v : ℕ) → IsStrictlyIncreasing (neighbours mesh v)
increasing_neighbours mesh v = (IsListOf-filter_range (are_neighbours mesh.cells v) (length mesh.points)).ascending

module _ (mesh : MeshView) (area : Area) where
  last_cons : (v w : ℕ) (ws : List ℕ) → last_of (v ∷ w ∷ ws) ≡ last_of (w ∷ ws)
  last_cons v w ws = ap (λ n. drop n (v ∷ w ∷ ws)) one ∙ sym (ap (λ n. drop n (w ∷ ws)) two)
    where
      one : length (v ∷ w ∷ ws) - 1 ≡ suc (length ws)
      one = omega arith

      two : length (w ∷ ws) - 1 ≡ length ws
      two = omega arith

  pub last_on : (v w : ℕ) → next mesh area v ≡ Some w → last_of (walk mesh area w) ≡ last_of (walk mesh area v)
  last_on v w e =
      let r = whole mesh area w in
      sym (ap last_of (walk_on mesh area v w e ∙ ap (λ l. v ∷ l) r.1) ∙ last_cons v w r.0 ∙ ap last_of (sym r.1))

  pub last_stops : (v : ℕ) → next mesh area v ≡ None → last_of (walk mesh area v) ≡ v ∷ []
  last_stops v e = ap last_of (walk_stops mesh area v e)

  pub degrees_on : (v w : ℕ) → next mesh area v ≡ Some w → degrees mesh area (walk mesh area v) ≡ degree mesh v + degrees mesh area (walk mesh area w)
  degrees_on v w e = ap (degrees mesh area) (walk_on mesh area v w e) ∙ sum_by-cons (degree mesh) v (walk mesh area w)

  pub degrees_first : (v : ℕ) → degree mesh v ≤ degrees mesh area (walk mesh area v)
  degrees_first v = let r = whole mesh area v in let e = ap (degrees mesh area) r.1 in omega (arith, e, sum_by-cons (degree mesh) v r.0)

  -- a surface vertex is inside where it is at no distance
  pub surface_zero : (v : ℕ) → Contains (surface mesh) v → eqb (distance mesh area v) 0 ≡ is_in mesh area v
  surface_zero v m = zero_inside area (place mesh v) ∙ sym (surface_in mesh area v m)
