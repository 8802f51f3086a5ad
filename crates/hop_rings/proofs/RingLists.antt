-- lists of rings
use Rattle.std.proofs.Common.{◌≡◌, ℕ, zero, suc, ◌<◌, ◌≤◌, ◌⊎◌, inl, inr, List, [], ◌∷◌, ◌++◌, length, get_or, Contains, sym, subst, ◌∙◌, arith, length-append}
use Rattle.std.proofs.lemmas.Bool.{cases_lt}
use Rattle.std.proofs.lemmas.List.{get_or_append_left, get_or_default, get_or_push}
use Rattle.mesh_base.specs.Mesh.{MeshView, vertices}
use Rattle.hop_rings.specs.declared.ring.Ring.{Ring}
use Rattle.hop_rings.specs.Rings.{AreRings, IsRing, no_ring, ring_at}
use Rattle.hop_rings.proofs.PathLaws.{path_point}

-- one ring alone
pub rings_one : (mesh : MeshView) (vs : List ℕ) (r : Ring) → IsRing mesh vs 0 r → AreRings mesh vs (r ∷ [])
rings_one mesh vs r h = record { each = λ n lt. by n lt }
  where
    by : (n : ℕ) → n < 1 → IsRing mesh vs n (ring_at (r ∷ []) n)
    by n lt = let e : 0 ≡ n = omega arith in subst (λ n. IsRing mesh vs n (ring_at (r ∷ []) n)) e h

-- one ring more
pub rings_push : (mesh : MeshView) (vs : List ℕ) (rings : List Ring) (r : Ring) (n : ℕ) → length rings ≡ n → AreRings mesh vs rings → IsRing mesh vs n r → AreRings mesh vs (rings ++ r ∷ [])
rings_push mesh vs rings r n len are next = record { each = λ k lt. by k lt (cases_lt k n) }
  where
    by : (k : ℕ) → k < length (rings ++ r ∷ []) → (k < n) ⊎ (n ≤ k) → IsRing mesh vs k (ring_at (rings ++ r ∷ []) k)
    by k lt (inl l) =
        let m : k < length rings = omega arith in
        subst (IsRing mesh vs k) (sym (get_or_append_left rings (r ∷ []) no_ring k m)) (are.each k m)
    by k lt (inr g) =
        let e : n ≡ k = omega (arith, length-append rings (r ∷ [])) in
        subst (λ k. IsRing mesh vs k (ring_at (rings ++ r ∷ []) k)) e (subst (IsRing mesh vs n) (sym (get_or_push rings r no_ring n len)) next)

-- ring n, as it was read
pub ring_read : (rings : List Ring) (n : ℕ) (r : Ring) → n < length rings → r ≡ get_or rings n r → ring_at rings n ≡ r
ring_read rings n r lt is = get_or_default rings n no_ring r lt ∙ sym is

pub ring_is : (mesh : MeshView) (vs : List ℕ) (rings : List Ring) (n : ℕ) (r : Ring) → AreRings mesh vs rings → n < length rings → r ≡ get_or rings n r → IsRing mesh vs n r
ring_is mesh vs rings n r are lt is = subst (IsRing mesh vs n) (ring_read rings n r lt is) (are.each n lt)

-- what a ring has are points
pub ring_points : (mesh : MeshView) (vs : List ℕ) (n : ℕ) (r : Ring) → ((v : ℕ) → Contains vs v → Contains (vertices mesh) v) → IsRing mesh vs n r → (u : ℕ) → Contains r.vertices u → u < length mesh.points
ring_points mesh vs n r inside h u m = path_point mesh vs inside n u (h.vertices.only u m).path

-- behind ring 0 there are as many sources as vertices
pub sources_many : (mesh : MeshView) (vs : List ℕ) (n : ℕ) (r : Ring) → 0 < n → IsRing mesh vs n r → length r.sources ≡ length r.vertices
sources_many mesh vs zero r some h = absurd (omega arith)
sources_many mesh vs (suc n) r some h = h.sources.0
