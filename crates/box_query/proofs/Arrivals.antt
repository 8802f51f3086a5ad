-- what a walk that ends inside arrives at
use Rattle.std.proofs.Common.{◌≡◌, ℕ, true, cond, eqb, List, [], ◌∷◌, length, filter, Option, Some, ap, ◌∙◌, arith}
use Rattle.std.specs.Option.{option_map_or}
use Rattle.std.proofs.lemmas.Bool.Decides.{nat_tests}
use Rattle.mesh_base.specs.Place.{Area}
use Rattle.mesh_base.specs.Mesh.{MeshView}
use Rattle.mesh_base.specs.Query.{distance, start, walk, probed, walked, arrived}
use Rattle.probe_walk.specs.WalkEnds.{last_of}

module _ (mesh : MeshView) (area : Area) where
  abbrev inside_of : List ℕ → List ℕ
  inside_of vs = filter (λ v. eqb (distance mesh area v) 0) vs

  walked_is : (o : Option ℕ) → eqb (length (probed mesh area)) 0 ≡ true → start mesh area ≡ o → walked mesh area ≡ option_map_or (walk mesh area) o []
  walked_is o h e = ap (λ b. cond b (option_map_or (walk mesh area) (start mesh area) []) []) h ∙ ap (λ o. option_map_or (walk mesh area) o []) e

  arrived_is : (ws vs : List ℕ) → walked mesh area ≡ ws → last_of ws ≡ vs → arrived mesh area ≡ inside_of vs
  arrived_is ws vs e f = ap (λ l. inside_of (last_of l)) e ∙ ap inside_of f

  pub arrived_at : (s v : ℕ) → eqb (length (probed mesh area)) 0 ≡ true → start mesh area ≡ Some s → last_of (walk mesh area s) ≡ v ∷ [] → distance mesh area v ≡ 0 → arrived mesh area ≡ v ∷ []
  arrived_at s v h e l z = let t : eqb (distance mesh area v) 0 ≡ true = grind (arith, nat_tests) in arrived_is (walk mesh area s) (v ∷ []) (walked_is (Some s) h e) l ∙ ap (λ b. cond b (v ∷ []) []) t
