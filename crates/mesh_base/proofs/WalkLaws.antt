-- walks, one vertex at a time
use Rattle.std.proofs.Common.{◌≡◌, ℕ, zero, suc, ◌<◌, Bool, true, false, cond, eqb, ltb, ◌&&◌, ◌||◌, inl, inr, ◌⊎◌, List, [], ◌∷◌, ◌++◌, length, get_or, Option, Some, None, unwrap_or, refl, sym, ap, subst, ◌∙◌, arith}
use Rattle.std.proofs.lemmas.Bool.{cases_order}
use Rattle.std.proofs.lemmas.Bool.Decides.{nat_tests}
use Rattle.mesh_base.specs.Place.{Area}
use Rattle.mesh_base.specs.Mesh.{MeshView, neighbours}
use Rattle.mesh_base.specs.Walk.{distance, is_nearer, nearest, next, walk, IsWalk}
use Rattle.mesh_base.proofs.Ascending.{In, In-get_or}
use Rattle.mesh_base.proofs.JoinedLaws.{walk_whole, next_nearer}

less : (m n : ℕ) → m < n → m ≡ n → ⊥
less m n l e = omega arith

-- the order of pairs of a distance and a number
abbrev before : ℕ → ℕ → ℕ → ℕ → Bool
before d v e w = ltb d e || (eqb d e && ltb v w)

chained : (d v e w f u : ℕ) → before d v e w ≡ true → before e w f u ≡ true → before d v f u ≡ true
chained d v e w f u a b = grind (arith, nat_tests)

unchained : (d v e w f u : ℕ) → before d v e w ≡ false → before e w f u ≡ false → before d v f u ≡ false
unchained d v e w f u a b = grind (arith, nat_tests)

cond_same : (b : Bool) (n : ℕ) → cond b n n ≡ n
cond_same true n = refl
cond_same false n = refl

module _ (mesh : MeshView) (area : Area) where
  -- the nearer of v and the nearest so far
  abbrev pub after : Option ℕ → ℕ → ℕ
  after None v = v
  after (Some w) v = cond (is_nearer mesh area v w) v w

  turned : (v n x : ℕ) (a b c : Bool) → is_nearer mesh area v n ≡ a → is_nearer mesh area n x ≡ b → is_nearer mesh area v x ≡ c
      → cond (is_nearer mesh area (cond a v n) x) (cond a v n) x ≡ cond (is_nearer mesh area v (cond b n x)) v (cond b n x)
  turned v n x true true c p q r = ap (λ t. cond t v x) (chained (distance mesh area v) v (distance mesh area n) n (distance mesh area x) x p q) ∙ ap (λ t. cond t v n) (sym p)
  turned v n x true false c p q r = refl
  turned v n x false true c p q r = ap (λ t. cond t n x) q ∙ ap (λ t. cond t v n) (sym p)
  turned v n x false false c p q r = ap (λ t. cond t n x) q ∙ ap (λ t. cond t v x) (sym (unchained (distance mesh area v) v (distance mesh area n) n (distance mesh area x) x p q))

  -- the nearest of a list, one more at a time
  pub nearest_push : (xs : List ℕ) (v : ℕ) → nearest mesh area (xs ++ v ∷ []) ≡ Some (after (nearest mesh area xs) v)
  nearest_push [] v = ap Some (cond_same (is_nearer mesh area v v) v)
  nearest_push (x ∷ xs) v = ap (λ o. Some (let w = unwrap_or o x in cond (is_nearer mesh area w x) w x)) (nearest_push xs v) ∙ ap Some (by (nearest mesh area xs))
    where
      by : (o : Option ℕ) → cond (is_nearer mesh area (after o v) x) (after o v) x ≡ after (Some (let w = unwrap_or o x in cond (is_nearer mesh area w x) w x)) v
      by None = ap (λ k. cond (is_nearer mesh area v k) v k) (sym (cond_same (is_nearer mesh area x x) x))
      by (Some n) = turned v n x (is_nearer mesh area v n) (is_nearer mesh area n x) (is_nearer mesh area v x) refl refl refl

  -- the nearest is one of the list
  pub nearest_In : (xs : List ℕ) (w : ℕ) → nearest mesh area xs ≡ Some w → In xs w
  nearest_In [] w e = absurd (cc)
  nearest_In (x ∷ xs) w e = by (nearest mesh area xs) e (nearest_In xs)
    where
      pick : (b : Bool) (n : ℕ) → Some (cond b n x) ≡ Some w → (n ≡ w → In (x ∷ xs) w) → In (x ∷ xs) w
      pick true n e f = f (ap (λ o. unwrap_or o 0) e)
      pick false n e f = inl (ap (λ o. unwrap_or o 0) e)

      by : (o : Option ℕ) → Some (let n = unwrap_or o x in cond (is_nearer mesh area n x) n x) ≡ Some w → ((n : ℕ) → o ≡ Some n → In xs n) → In (x ∷ xs) w
      by None e f = pick (is_nearer mesh area x x) x e inl
      by (Some n) e f = pick (is_nearer mesh area n x) n e (λ q. inr (subst (In xs) q (f n refl)))

  -- inside the box a walk stops
  pub none_nearer : (v : ℕ) → distance mesh area v ≡ 0 → next mesh area v ≡ None
  none_nearer v z = ap (λ b. cond b (Some w) None) no
    where
      w : ℕ
      w = unwrap_or (nearest mesh area (neighbours mesh v)) v

      no : ltb (distance mesh area w) (distance mesh area v) ≡ false
      no = grind (arith, nat_tests)

module _ (mesh : MeshView) (area : Area) where
  -- there is one walk from each vertex
  pub one_walk : (v : ℕ) (us ws : List ℕ) → IsWalk mesh area v us → IsWalk mesh area v ws → us ≡ ws
  one_walk v [] [] a b = refl
  one_walk v [] (w ∷ ws) a b = absurd (cc (a, b.0))
  one_walk v (u ∷ us) [] a b = absurd (cc (a.0, b))
  one_walk v (u ∷ us) (w ∷ ws) a b =
      let e : u ≡ w = ap (λ o. unwrap_or o 0) (sym a.0 ∙ b.0) in
      ap (λ k. k ∷ us) e ∙ ap (λ l. w ∷ l) (one_walk w us ws (subst (λ k. IsWalk mesh area k us) e a.1) b.1)

  pub whole : (v : ℕ) → (ws : List ℕ) × (walk mesh area v ≡ v ∷ ws) × IsWalk mesh area v ws
  whole v = walk_whole mesh area (suc (distance mesh area v)) v (omega arith)

  -- the walk is its first vertex and the walk from the next one
  pub walk_on : (v w : ℕ) → next mesh area v ≡ Some w → walk mesh area v ≡ v ∷ walk mesh area w
  walk_on v w e = by (whole v).0 (whole v).1 (whole v).2
    where
      by : (ws : List ℕ) → walk mesh area v ≡ v ∷ ws → IsWalk mesh area v ws → walk mesh area v ≡ v ∷ walk mesh area w
      by [] p h = absurd (cc (h, e))
      by (u ∷ us) p h =
          let q : u ≡ w = ap (λ o. unwrap_or o 0) (sym h.0 ∙ e) in
          let r = whole w in
          p ∙ ap (λ l. v ∷ l) (ap (λ k. k ∷ us) q ∙ ap (λ l. w ∷ l) (one_walk w us r.0 (subst (λ k. IsWalk mesh area k us) q h.1) r.2) ∙ sym r.1)

  pub walk_stops : (v : ℕ) → next mesh area v ≡ None → walk mesh area v ≡ v ∷ []
  walk_stops v e = by (whole v).0 (whole v).1 (whole v).2
    where
      by : (ws : List ℕ) → walk mesh area v ≡ v ∷ ws → IsWalk mesh area v ws → walk mesh area v ≡ v ∷ []
      by [] p h = p
      by (u ∷ us) p h = absurd (cc (h.0, e))

  -- each later vertex is nearer
  later : (v : ℕ) (ws : List ℕ) → IsWalk mesh area v ws → (u : ℕ) → In ws u → distance mesh area u < distance mesh area v
  later v [] h u m = absurd m
  later v (w ∷ ws) h u (inl e) = subst (λ k. distance mesh area k < distance mesh area v) e (next_nearer mesh area v w h.0)
  later v (w ∷ ws) h u (inr m) = let a = next_nearer mesh area v w h.0 in let b = later w ws h.1 u m in omega arith

  falls_along : (v : ℕ) (ws : List ℕ) → IsWalk mesh area v ws → (i j : ℕ) → i < j → j < length (v ∷ ws) → distance mesh area (get_or (v ∷ ws) j 0) < distance mesh area (get_or (v ∷ ws) i 0)
  falls_along v ws h i zero l lt = absurd (omega arith)
  falls_along v ws h zero (suc j) l lt = later v ws h (get_or ws j 0) (In-get_or ws j (omega arith))
  falls_along v [] h (suc i) (suc j) l lt = absurd (omega arith)
  falls_along v (w ∷ ws) h (suc i) (suc j) l lt = falls_along w ws h.1 i j (omega arith) (omega arith)

  pub falls : (v i j : ℕ) → i < j → j < length (walk mesh area v) → distance mesh area (get_or (walk mesh area v) j 0) < distance mesh area (get_or (walk mesh area v) i 0)
  falls v i j l lt =
      let r = whole v in
      subst (λ ws. distance mesh area (get_or ws j 0) < distance mesh area (get_or ws i 0)) (sym r.1)
      (falls_along v r.0 r.2 i j l (subst (λ ws. j < length ws) r.1 lt))

  pub once : (v i j : ℕ) → i < length (walk mesh area v) → j < length (walk mesh area v) → get_or (walk mesh area v) i 0 ≡ get_or (walk mesh area v) j 0 → i ≡ j
  once v i j a b e = by (cases_order i j)
    where
      far : distance mesh area (get_or (walk mesh area v) i 0) ≡ distance mesh area (get_or (walk mesh area v) j 0)
      far = ap (distance mesh area) e

      by : (i ≡ j) ⊎ ((i < j) ⊎ (j < i)) → i ≡ j
      by (inl s) = s
      by (inr (inl l)) = absurd (less _ _ (falls v i j l b) (sym far))
      by (inr (inr l)) = absurd (less _ _ (falls v j i l a) far)
