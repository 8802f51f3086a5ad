-- parts are equal or apart
use Rattle.std.proofs.Common.{◌≡◌, ◌≢◌, ℕ, ◌⊎◌, inl, inr, List, [], ◌∷◌, ◌++◌, Contains, sym, subst, arith}
use Rattle.mesh_base.specs.Place.{Area}
use Rattle.mesh_base.specs.Mesh.{MeshView}
use Rattle.mesh_base.specs.Scan.{scan}
use Rattle.mesh_base.specs.Paths.{InsidePath, Joined, JoinedToOne}
use Rattle.mesh_base.specs.Parts.{IsPart, part}
use Rattle.mesh_base.proofs.Ascending.{In, In-from_Contains, Contains-from_In, same_list_of}
use Rattle.mesh_base.proofs.Corners.{eq_or}
use Rattle.mesh_base.proofs.JoinedLaws.{joined_is, Joined-sym}

-- a number is in a list, or it isn't
In_or : (xs : List ℕ) (v : ℕ) → In xs v ⊎ (In xs v → ⊥)
In_or [] v = inr (λ h. h)
In_or (x ∷ xs) v = by (eq_or x v) (In_or xs v)
  where
    by : (x ≡ v) ⊎ (x ≢ v) → In xs v ⊎ (In xs v → ⊥) → In (x ∷ xs) v ⊎ (In (x ∷ xs) v → ⊥)
    by (inl e) rest = inl (inl e)
    by (inr n) (inl h) = inl (inr h)
    by (inr n) (inr f) = inr (λ h. elim h [ inl e ↦ n e | inr m ↦ f m ])

module _ (mesh : MeshView) (area : Area) where
  pub InsidePath-append : (v : ℕ) (us : List ℕ) (w : ℕ) (ws : List ℕ) (x : ℕ) → InsidePath mesh area v us w → InsidePath mesh area w ws x → InsidePath mesh area v (us ++ ws) x
  InsidePath-append v [] w ws x p q = subst (λ k. InsidePath mesh area k ws x) (sym p.1) q
  InsidePath-append v (u ∷ us) w ws x p q = (p.0, p.1, InsidePath-append u us w ws x p.2 q)

  pub Joined-trans : (v w x : ℕ) → Joined mesh area v w → Joined mesh area w x → Joined mesh area v x
  Joined-trans v w x (us, p) (ws, q) = (us ++ ws, InsidePath-append v us w ws x p q)

  -- what is joined to the one vertex of a list
  to_one : (v w : ℕ) → Joined mesh area v w → JoinedToOne mesh area (v ∷ []) w
  to_one v w j = (v, (0, omega arith, λ i. v), j)

  from_one : (v w : ℕ) → JoinedToOne mesh area (v ∷ []) w → Joined mesh area v w
  from_one v w (s, m, j) = by (In-from_Contains (v ∷ []) s m)
    where
      by : In (v ∷ []) s → Joined mesh area v w
      by (inl e) = subst (λ k. Joined mesh area k w) (sym e) j
      by (inr h) = absurd h

  -- the computed part is the part
  pub part_is : (v : ℕ) → Contains (scan mesh area) v → IsPart mesh area v (part mesh area v)
  part_is v inside =
      let l = joined_is mesh area (v ∷ []) (λ s m. elim (In-from_Contains (v ∷ []) s m) [ inl e ↦ subst (Contains (scan mesh area)) e inside | inr h ↦ absurd h ]) in
      record { ascending = l.ascending; every = λ w j. l.every w (to_one v w j); only = λ w m. from_one v w (l.only w m) }

  -- joined vertices have one part
  pub same_part : (v w : ℕ) (vs ws : List ℕ) → IsPart mesh area v vs → IsPart mesh area w ws → Joined mesh area v w → vs ≡ ws
  same_part v w vs ws a b j =
      same_list_of (Joined mesh area v) vs ws a
      (record {
        ascending = b.ascending;
        every = λ u k. b.every u (Joined-trans w v u (Joined-sym mesh area v w j) k);
        only = λ u m. Joined-trans v w u j (b.only u m);
      })

  pub parts_apart : (v w : ℕ) (vs ws : List ℕ) → IsPart mesh area v vs → IsPart mesh area w ws → (vs ≡ ws) ⊎ ((u : ℕ) → Contains vs u → Contains ws u → ⊥)
  parts_apart v w vs ws a b = by (In_or vs w)
    where
      by : In vs w ⊎ (In vs w → ⊥) → (vs ≡ ws) ⊎ ((u : ℕ) → Contains vs u → Contains ws u → ⊥)
      by (inl m) = inl (same_part v w vs ws a b (a.only w (Contains-from_In vs w m)))
      by (inr none) = inr (λ u m n. none (In-from_Contains vs w (a.every w (Joined-trans v u w (a.only u m) (Joined-sym mesh area w u (b.only u n))))))
