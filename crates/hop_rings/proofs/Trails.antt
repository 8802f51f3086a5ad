-- from a vertex back to ring 0
use Rattle.std.proofs.Common.{◌≡◌, ℕ, suc, ◌+◌, ◌-◌, ◌<◌, ◌≤◌, ◌⊎◌, ◌↔◌, inl, inr, IsTrue, Result, Ok, Err, MatchResult, List, [], ◌∷◌, length, get_or, set, replicate, Contains, refl, sym, ap, subst, ◌∙◌, ◌≢◌, arith, add-one, length-set, get_or-set_same, get_or-set_other}
use Rattle.std.proofs.lemmas.Bool.{cases_lt, false≢true}
use Rattle.std.proofs.lemmas.List.{get_or_default, get_or-replicate, length-replicate}
use Rattle.std.proofs.lemmas.List.Elements.{Contains-get_or}
use Rattle.std.specs.Result.{is_ok}
use Rattle.mesh_base.specs.Numbers.{IsPlaceOf}
use Rattle.mesh_base.specs.Mesh.{MeshView, neighbours}
use Rattle.hop_rings.specs.declared.ring.Ring.{Ring}
use Rattle.hop_rings.specs.Paths.{PathTo, IsLevel, IsSource, IsShortest}
use Rattle.hop_rings.specs.Rings.{AreRings, HasSource, IsInRing, IsTrail, ring_at}
use Rattle.hop_rings.proofs.PathLaws.{edges_of, source_edge, zero_path}

-- a number that belongs between others is not there
pub no_member : (xs : List ℕ) (v i : ℕ) → IsPlaceOf v xs i → Contains xs v → ⊥
no_member xs v i h m = by (cases_lt m.0 i)
  where
    by : (m.0 < i) ⊎ (i ≤ m.0) → ⊥
    by (inl lt) = let a = h.before m.0 lt in let e = m.2 in let d = get_or_default xs m.0 0 v m.1 in omega arith
    by (inr le) = let a = h.after m.0 le m.1 in let e = m.2 in let d = get_or_default xs m.0 0 v m.1 in omega arith

-- whether a number has a place is whether it is there
pub found_place : (r : Result ℕ ℕ) (xs : List ℕ) (v : ℕ) → MatchResult r (λ i. (i < length xs) × (get_or xs i 0 ≡ v)) (IsPlaceOf v xs) → IsTrue (is_ok r) ↔ Contains xs v
found_place (Ok i) xs v h = (λ _. subst (Contains xs) h.1 (Contains-get_or xs i 0 h.0), λ _. refl)
found_place (Err i) xs v h = (λ e. absurd (false≢true e), λ m. absurd (no_member xs v i h m))

module _ (mesh : MeshView) (vs : List ℕ) (rings : List Ring) (are : AreRings mesh vs rings) where
  -- a vertex of a ring has its level, and the other way round
  pub level_of : (n v : ℕ) → IsInRing rings n v → IsLevel mesh vs n v
  level_of n v h = (are.each n h.within).vertices.only v h.member

  pub in_ring : (n v : ℕ) → n < length rings → IsLevel mesh vs n v → IsInRing rings n v
  in_ring n v lt l = record { within = lt; member = (are.each n lt).vertices.every v l }

  -- what the list calls a source is one
  pub source_is : (n v s : ℕ) → suc n < length rings → HasSource (ring_at rings (suc n)) v s → IsSource mesh vs n v s
  source_is n v s lt h =
      let r = are.each (suc n) lt in
      subst (λ v. IsSource mesh vs n v s) h.vertex (subst (λ s. IsSource mesh vs n (get_or (ring_at rings (suc n)).vertices h.place 0) s) h.source (r.sources.1 h.place h.within))

  -- a trail is a shortest path
  pub trail_shortest : (v : ℕ) (path : List ℕ) → IsTrail rings v path → IsShortest mesh vs v path
  trail_shortest v path h = by path refl
    where
      by : (xs : List ℕ) → xs ≡ path → IsShortest mesh vs v path
      by [] e = let l = h.long in let f = ap length e in absurd (omega arith)
      by (s ∷ rest) e = record {
        start = s;
        rest = rest;
        is = sym e;
        from = subst (Contains vs) start_is (zero_path mesh vs (get_or path 0 0) (level_of 0 (get_or path 0 0) (h.each 0 (omega arith))).path);
        edges = edges_of mesh s rest v edge (ap (λ xs. get_or xs (length rest) 0) e ∙ ap (λ k. get_or path k 0) long ∙ h.ends);
        least = λ m p. let g = (level_of h.level (get_or path h.level 0) (h.each h.level (omega arith))).least m (subst (PathTo mesh vs m) (sym h.ends) p) in omega (arith, long, g);
      }
        where
          long : length rest ≡ h.level
          long = let l = h.long in let f = ap length e in omega arith

          some : length path ≡ h.level + 1
          some = h.long

          start_is : get_or path 0 0 ≡ s
          start_is = ap (λ xs. get_or xs 0 0) (sym e)

          edge : (k : ℕ) → k < length rest → Contains (neighbours mesh (get_or (s ∷ rest) k 0)) (get_or (s ∷ rest) (suc k) 0)
          edge k lt =
              let st : HasSource (ring_at rings (suc k)) (get_or path (suc k) 0) (get_or path k 0) = rw add-one at (h.steps k (omega (arith, lt, long))) in
              let next = h.each (suc k) (omega (arith, lt, long, some)) in
              let a = source_edge mesh vs k (get_or path (suc k) 0) (get_or path k 0) (level_of (suc k) (get_or path (suc k) 0) next) (source_is k (get_or path (suc k) 0) (get_or path k 0) next.within st) in
              subst (λ xs. Contains (neighbours mesh (get_or xs k 0)) (get_or xs (suc k) 0)) (sym e) a

-- from v in ring `level` back to ring n
pub record IsBack (rings : List Ring) (level v n : ℕ) (path : List ℕ) : Type 0 where
  pub within : n ≤ level
  pub long : length path ≡ level + 1
  pub ends : get_or path level 0 ≡ v
  pub each : (k : ℕ) → n ≤ k → k ≤ level → IsInRing rings k (get_or path k 0)
  pub steps : (k : ℕ) → n ≤ k → k < level → HasSource (ring_at rings (k + 1)) (get_or path (k + 1) 0) (get_or path k 0)

pub back_begin : (rings : List Ring) (level v : ℕ) (path : List ℕ) → IsInRing rings level v → path ≡ replicate (level + 1) v → IsBack rings level v level path
back_begin rings level v path h e = record {
  within = omega arith;
  long = ap length e ∙ length-replicate (level + 1) v;
  ends = last;
  each = λ k low high. let q : level ≡ k = omega arith in subst (λ k. IsInRing rings k (get_or path k 0)) q (subst (IsInRing rings level) (sym last) h);
  steps = λ k low high. absurd (omega arith);
}
  where
    last : get_or path level 0 ≡ v
    last = ap (λ l. get_or l level 0) e ∙ get_or-replicate (level + 1) level v 0 (omega arith)

pub back_end : (rings : List Ring) (level v n : ℕ) (path : List ℕ) → n ≤ 0 → IsBack rings level v n path → IsTrail rings v path
back_end rings level v n path z h = record {
  level = level;
  long = h.long;
  ends = h.ends;
  each = λ k lt. let l = h.long in h.each k (omega arith) (omega arith);
  steps = λ k lt. h.steps k (omega arith) lt;
}

-- one step further back
pub back_more : (mesh : MeshView) (vs : List ℕ) (rings : List Ring) (level v n s : ℕ) (path : List ℕ) → AreRings mesh vs rings → 0 < n → IsBack rings level v n path → HasSource (ring_at rings n) (get_or path n 0) s
    → IsBack rings level v (n - 1) (set path (n - 1) s)
back_more mesh vs rings level v n s path are some h here = by (n - 1) (omega arith)
  where
    by : (m : ℕ) → n ≡ suc m → IsBack rings level v m (set path m s)
    by m e = record {
      within = (let w = h.within in omega arith);
      long = length-set path m s ∙ h.long;
      ends = other level (let w = h.within in omega arith) ∙ h.ends;
      each = λ k low high. each k low high (cases_lt m k);
      steps = λ k low high. steps k low high (cases_lt m k);
    }
      where
        written : get_or (set path m s) m 0 ≡ s
        written = let l : m < length path = (let w = h.within in let g = h.long in omega arith) in get_or-set_same path m s 0 l

        other : (k : ℕ) → m < k → get_or (set path m s) k 0 ≡ get_or path k 0
        other k l = let d : k ≢ m = (λ q. omega arith) in get_or-set_other path m k s 0 d

        source : HasSource (ring_at rings (suc m)) (get_or path (suc m) 0) s
        source = subst (λ n. HasSource (ring_at rings n) (get_or path n 0) s) e here

        first : IsInRing rings m s
        first =
            let w = (h.each n (omega arith) h.within).within in
            let l : suc m < length rings = omega arith in
            in_ring mesh vs rings are m s (omega arith) (source_is mesh vs rings are m (get_or path (suc m) 0) s l source).level

        each : (k : ℕ) → m ≤ k → k ≤ level → (m < k) ⊎ (k ≤ m) → IsInRing rings k (get_or (set path m s) k 0)
        each k low high (inl l) = subst (IsInRing rings k) (sym (other k l)) (h.each k (omega arith) high)
        each k low high (inr g) = let q : m ≡ k = omega arith in subst (λ k. IsInRing rings k (get_or (set path m s) k 0)) q (subst (IsInRing rings m) (sym written) first)

        steps : (k : ℕ) → m ≤ k → k < level → (m < k) ⊎ (k ≤ m) → HasSource (ring_at rings (k + 1)) (get_or (set path m s) (k + 1) 0) (get_or (set path m s) k 0)
        steps k low high (inl l) =
            subst (λ v. HasSource (ring_at rings (k + 1)) v (get_or (set path m s) k 0)) (sym (other (k + 1) (omega arith)))
            (subst (HasSource (ring_at rings (k + 1)) (get_or path (k + 1) 0)) (sym (other k l)) (h.steps k (omega arith) high))
        steps k low high (inr g) =
            let q : m ≡ k = omega arith in
            let next : suc m ≡ m + 1 = omega arith in
            subst (λ k. HasSource (ring_at rings (k + 1)) (get_or (set path m s) (k + 1) 0) (get_or (set path m s) k 0)) q
            (subst (λ v. HasSource (ring_at rings (m + 1)) v (get_or (set path m s) m 0)) (sym (other (m + 1) (omega arith)))
            (subst (HasSource (ring_at rings (m + 1)) (get_or path (m + 1) 0)) (sym written) (subst (λ n. HasSource (ring_at rings n) (get_or path n 0) s) next source)))
