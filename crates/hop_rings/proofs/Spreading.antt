-- one ring more
use Rattle.std.proofs.Common.{◌≡◌, ◌≢◌, ℕ, zero, suc, ◌+◌, ◌<◌, ◌≤◌, ◌⊎◌, inl, inr, Bool, true, false, cond, eqb, List, [], ◌∷◌, ◌++◌, length, get_or, set, take, Option, Some, None, is_some, find, Contains, replicate, refl, sym, ap, subst, ◌∙◌, arith, length-set, get_or-set_same, get_or-set_other}
use Rattle.std.proofs.lemmas.Bool.{cases_lt, cases_eq, false≢true, cases_Bool}
use Rattle.std.proofs.lemmas.List.{get_or_past, take_all, take_more}
use Rattle.std.proofs.lemmas.List.Elements.{Contains-get_or}
use Rattle.std.proofs.lemmas.List.Sorted.{Contains-permutation, IsPermutation-sym, sum_by-IsPermutation}
use Rattle.std.specs.List.Sorted.{IsNonDecreasing, IsPermutation}
use Rattle.mesh_base.specs.Numbers.{IsListOf}
use Rattle.mesh_base.specs.Mesh.{MeshView, are_neighbours, neighbours}
use Rattle.mesh_base.proofs.Ascending.{In-from_Contains, Contains-from_In, Asc-from_increasing}
use Rattle.mesh_base.proofs.JoinedLaws.{neighbours-sym}
use Rattle.mesh_base.proofs.NumberLaws.{of_neighbours, to_numbers}
use Rattle.mesh_base.proofs.Once.{times-In, In-times, rises}
use Rattle.hop_rings.specs.declared.ring.Ring.{Ring}
use Rattle.hop_rings.specs.Paths.{PathTo, IsLevel, IsSource}
use Rattle.hop_rings.specs.Rings.{IsRing}
use Rattle.hop_rings.specs.Reached.{from_at, is_reached, or_else, first_near, times, bit, IsSpread, IsNear, AreNear}
use Rattle.hop_rings.proofs.Options.{is_listed, listed, of_listed, listed_push, listed_push_other, listed_neighbours, or_else_assoc, find_is, find_least, find_push, find_some, some_value, times_push, times_push_other}
use Rattle.hop_rings.proofs.PathLaws.{path_on, last_edge, level_before, start_path, zero_path}

pub spread_none : (source : ℕ → Option ℕ) (before : List (Option ℕ)) (found : List ℕ) → ((w : ℕ) → w < length before → source w ≡ None) → IsSpread source before before found found
spread_none source before found none = record {
  len = refl;
  each = λ w lt. by (from_at before w) (source w) (none w lt);
  listed = λ w. refl;
}
  where
    by : (o q : Option ℕ) → q ≡ None → o ≡ or_else o q
    by (Some s) q e = refl
    by None q e = sym e

-- the same sources
pub spread_like : (s t : ℕ → Option ℕ) (before after : List (Option ℕ)) (found more : List ℕ) → ((w : ℕ) → w < length before → s w ≡ t w) → IsSpread s before after found more → IsSpread t before after found more
spread_like s t before after found more like h = record {
  len = h.len;
  each = λ w lt. h.each w lt ∙ ap (or_else (from_at before w)) (like w lt);
  listed = h.listed;
}

-- one point more
module _ (s t : ℕ → Option ℕ) (before after : List (Option ℕ)) (found more : List ℕ) (w u : ℕ) (h : IsSpread s before after found more) (lt : w < length before)
    (others : (x : ℕ) → w ≢ x → t x ≡ s x) (here : t w ≡ or_else (s w) (Some u)) where
  -- it was reached
  kept_or : (o q r a : Option ℕ) → a ≡ or_else o q → is_some a ≡ true → r ≡ or_else q (Some u) → or_else o q ≡ or_else o r
  kept_or (Some x) q r a e i f = refl
  kept_or None (Some y) r a e i f = sym f
  kept_or None None r a e i f = absurd (false≢true (sym (ap is_some e) ∙ i))

  spread_kept : is_reached after w ≡ true → IsSpread t before after found more
  spread_kept i = record {
    len = h.len;
    each = λ x l. each x l (cases_eq w x);
    listed = h.listed;
  }
    where
      each : (x : ℕ) → x < length before → (w ≡ x) ⊎ (w ≢ x) → from_at after x ≡ or_else (from_at before x) (t x)
      each x l (inl e) = subst (λ x. from_at after x ≡ or_else (from_at before x) (t x)) e (h.each w lt ∙ kept_or (from_at before w) (s w) (t w) (from_at after w) (h.each w lt) i here)
      each x l (inr n) = h.each x l ∙ ap (or_else (from_at before x)) (sym (others x n))

  -- it was not
  new_or : (o q r a : Option ℕ) → a ≡ or_else o q → is_some a ≡ false → r ≡ or_else q (Some u) → Some u ≡ or_else o r
  new_or (Some x) q r a e i f = absurd (false≢true (sym i ∙ ap is_some e))
  new_or None (Some y) r a e i f = absurd (false≢true (sym i ∙ ap is_some e))
  new_or None None r a e i f = sym f

  spread_new : is_reached after w ≡ false → IsSpread t before (set after w (Some u)) found (more ++ w ∷ [])
  spread_new i = record {
    len = length-set after w (Some u) ∙ h.len;
    each = λ x l. each x l (cases_eq w x);
    listed = λ x. listed x (cases_eq w x);
  }
    where
      written : from_at (set after w (Some u)) w ≡ Some u
      written = let l = h.len in get_or-set_same after w (Some u) None (omega arith)

      other : (x : ℕ) → w ≢ x → from_at (set after w (Some u)) x ≡ from_at after x
      other x n = let m : x ≢ w = (λ e. n (sym e)) in get_or-set_other after w x (Some u) None m

      each : (x : ℕ) → x < length before → (w ≡ x) ⊎ (w ≢ x) → from_at (set after w (Some u)) x ≡ or_else (from_at before x) (t x)
      each x l (inl e) =
          subst (λ x. from_at (set after w (Some u)) x ≡ or_else (from_at before x) (t x)) e
          (written ∙ new_or (from_at before w) (s w) (t w) (from_at after w) (h.each w lt) i here)
      each x l (inr n) = other x n ∙ h.each x l ∙ ap (or_else (from_at before x)) (sym (others x n))

      count : (n b m : ℕ) (o p : Bool) → o ≡ false → p ≡ true → n + b ≡ m + bit o → (n + 1) + b ≡ m + bit p
      count n b m false true e f g = omega arith
      count n b m false false e f g = absurd (false≢true f)
      count n b m true p e f g = absurd (false≢true (sym e))

      listed : (x : ℕ) → (w ≡ x) ⊎ (w ≢ x) → times (more ++ w ∷ []) x + bit (is_reached before x) ≡ times found x + bit (is_reached (set after w (Some u)) x)
      listed x (inl e) =
          subst (λ x. times (more ++ w ∷ []) x + bit (is_reached before x) ≡ times found x + bit (is_reached (set after w (Some u)) x)) e
          (ap (λ n. n + bit (is_reached before w)) (times_push more w)
          ∙ count (times more w) (bit (is_reached before w)) (times found w) (is_reached after w) (is_reached (set after w (Some u)) w) i (ap is_some written) (h.listed w))
      listed x (inr n) =
          ap (λ k. k + bit (is_reached before x)) (times_push_other more w x n) ∙ h.listed x ∙ ap (λ o. times found x + bit (is_some o)) (sym (other x n))

  pub spread_one : (after' : List (Option ℕ)) (more' : List ℕ) → after' ≡ cond (is_reached after w) after (set after w (Some u)) → more' ≡ cond (is_reached after w) more (more ++ w ∷ []) → IsSpread t before after' found more'
  spread_one after' more' e f = by (is_reached after w) refl e f
    where
      by : (b : Bool) → is_reached after w ≡ b → after' ≡ cond b after (set after w (Some u)) → more' ≡ cond b more (more ++ w ∷ []) → IsSpread t before after' found more'
      by true i e f = subst (λ a. IsSpread t before a found more') (sym e) (subst (λ m. IsSpread t before after found m) (sym f) (spread_kept i))
      by false i e f = subst (λ a. IsSpread t before a found more') (sym e) (subst (λ m. IsSpread t before (set after w (Some u)) found m) (sym f) (spread_new i))

-- one spread after another
pub spread_join : (s t : ℕ → Option ℕ) (before mid after : List (Option ℕ)) (found more most : List ℕ) → IsSpread s before mid found more → IsSpread t mid after more most → IsSpread (λ w. or_else (s w) (t w)) before after found most
spread_join s t before mid after found more most g h = record {
  len = h.len ∙ g.len;
  each = λ w lt.
      let l : w < length mid = (let e = g.len in omega arith) in
      h.each w l ∙ ap (λ o. or_else o (t w)) (g.each w lt) ∙ or_else_assoc (from_at before w) (s w) (t w);
  listed = λ w. count (times found w) (times more w) (times most w) (bit (is_reached before w)) (bit (is_reached mid w)) (bit (is_reached after w)) (g.listed w) (h.listed w);
}
  where
    count : (f m n b c d : ℕ) → m + b ≡ f + c → n + c ≡ m + d → n + b ≡ f + d
    count f m n b c d e g = omega arith

-- what one round found
module _ (mesh : MeshView) (ring : List ℕ) (before after : List (Option ℕ)) (found : List ℕ) (h : IsSpread (first_near mesh ring) before after [] found) where
  -- what is found was not reached before, and is now
  pub record IsFound (w : ℕ) : Type 0 where
    pub fresh : is_reached before w ≡ false
    pub source : ℕ
    pub first : first_near mesh ring w ≡ Some source
    pub now : from_at after w ≡ Some source
    pub lt : w < length before

  -- a point that was not reached before has what is found for it now
  now_is : (w : ℕ) → w < length before → is_reached before w ≡ false → from_at after w ≡ first_near mesh ring w
  now_is w lt fresh = h.each w lt ∙ none (from_at before w) (first_near mesh ring w) fresh
    where
      none : (o q : Option ℕ) → is_some o ≡ false → or_else o q ≡ q
      none (Some x) q e = absurd (false≢true (sym e))
      none None q e = refl

  pub found_is : (w : ℕ) → Contains found w → IsFound w
  found_is w m = by (cases_lt w (length before))
    where
      parts : (n : ℕ) (b a : Bool) → 0 < n → n + bit b ≡ 0 + bit a → (b ≡ false) × (a ≡ true)
      parts n true true l e = absurd (omega arith)
      parts n true false l e = absurd (omega arith)
      parts n false true l e = (refl, refl)
      parts n false false l e = absurd (omega arith)

      reached : (is_reached before w ≡ false) × (is_reached after w ≡ true)
      reached = parts (times found w) (is_reached before w) (is_reached after w) (In-times found w (In-from_Contains found w m)) (h.listed w)

      by : (w < length before) ⊎ (length before ≤ w) → IsFound w
      by (inl lt) =
          let s = some_value (from_at after w) reached.1 in
          record { fresh = reached.0; source = s.0; first = sym (now_is w lt reached.0) ∙ s.1; now = s.1; lt = lt }
      by (inr le) = let l = h.len in absurd (false≢true (sym (ap is_some (get_or_past after w None (omega arith))) ∙ reached.1))

  pub found_point : (w : ℕ) → Contains found w → w < length before
  found_point w m = (found_is w m).lt

  pub found_reached : (w : ℕ) → Contains found w → is_reached after w ≡ true
  found_reached w m = ap is_some (found_is w m).now

  pub found_few : (w : ℕ) → times found w ≤ 1
  found_few w = few (times found w) (bit (is_reached before w)) (is_reached after w) (h.listed w)
    where
      few : (n m : ℕ) (b : Bool) → n + m ≡ 0 + bit b → n ≤ 1
      few n m true e = omega arith
      few n m false e = omega arith

module _ (mesh : MeshView) (vs : List ℕ) (n : ℕ) (ring : List ℕ) (before after : List (Option ℕ)) (found : List ℕ)
    (level : IsListOf (IsLevel mesh vs n) ring) (near : AreNear mesh vs n before) (h : IsSpread (first_near mesh ring) before after [] found) where
  -- an edge from the ring
  edge_to : (u w : ℕ) → w < length before → are_neighbours mesh.cells u w ≡ true → Contains (neighbours mesh u) w
  edge_to u w lt e = let l = near.len in to_numbers mesh (are_neighbours mesh.cells u) w e (omega arith)

  -- a path to a point that was not reached is longer
  longer : (w : ℕ) → is_reached before w ≡ false → (m : ℕ) → PathTo mesh vs m w → suc n ≤ m
  longer w fresh m p = by (cases_lt n m)
    where
      by : (n < m) ⊎ (m ≤ n) → suc n ≤ m
      by (inl lt) = omega arith
      by (inr le) = absurd (false≢true (sym fresh ∙ near.every w (record { edges = m; few = le; path = p })))

  -- what was not reached, and has a neighbour in the ring, has the next level
  is_next : (u w : ℕ) → is_reached before w ≡ false → IsLevel mesh vs n u → Contains (neighbours mesh u) w → IsLevel mesh vs (suc n) w
  is_next u w fresh l e = record { path = path_on mesh vs n u w l.path e; least = longer w fresh }

  -- a vertex of the next level was not reached, and has a neighbour in the ring
  record Next (w : ℕ) : Type 0 where
    from : ℕ
    member : Contains ring from
    edge : are_neighbours mesh.cells from w ≡ true
    lt : w < length before

  next_of : (w : ℕ) → is_reached before w ≡ false → PathTo mesh vs (suc n) w → Next w
  next_of w fresh p =
      let e = last_edge mesh vs n w p in
      let o = of_neighbours mesh e.before w e.edge in
      let l = near.len in
      let q = o.1 in
      record { from = e.before; member = level.every e.before (level_before mesh vs n w (longer w fresh) e); edge = o.0; lt = omega arith }

  not_reached : (w : ℕ) → IsLevel mesh vs (suc n) w → is_reached before w ≡ false
  not_reached w l = by (cases_Bool (is_reached before w))
    where
      by : (is_reached before w ≡ true) ⊎ (is_reached before w ≡ false) → is_reached before w ≡ false
      by (inl t) = let g = near.near w t in let m = l.least g.edges g.path in let f = g.few in absurd (omega arith)
      by (inr f) = f

  -- a point that was not reached, with a neighbour in the ring, is found
  next_reached : (w : ℕ) → is_reached before w ≡ false → Next w → is_reached after w ≡ true
  next_reached w fresh e =
      ap is_some (now_is mesh ring before after found h w e.lt fresh)
      ∙ find_some (λ u. are_neighbours mesh.cells u w) ring e.from (In-from_Contains ring e.from e.member) e.edge

  found_once : (w : ℕ) → is_reached before w ≡ false → Next w → Contains found w
  found_once w fresh e = Contains-from_In found w (times-In found w (some (times found w) (is_reached before w) (is_reached after w) fresh (next_reached w fresh e) (h.listed w)))
    where
      some : (k : ℕ) (b a : Bool) → b ≡ false → a ≡ true → k + bit b ≡ 0 + bit a → 0 < k
      some k false true e f g = omega arith
      some k false false e f g = absurd (false≢true f)
      some k true a e f g = absurd (false≢true (sym e))

  -- in order they are all vertices of the next level
  next_level : (ys : List ℕ) → IsPermutation found ys → IsNonDecreasing ys → IsListOf (IsLevel mesh vs (suc n)) ys
  next_level ys perm up = record {
    ascending = rises ys up (λ w. let e = sum_by-IsPermutation (λ x. bit (eqb x w)) found ys perm in let f = found_few mesh ring before after found h w in omega arith);
    every = λ w l. let fresh = not_reached w l in Contains-permutation found ys w perm (found_once w fresh (next_of w fresh l.path));
    only = λ w m.
        let f = found_is mesh ring before after found h w (Contains-permutation ys found w (IsPermutation-sym found ys perm) m) in
        let i = find_is (λ u. are_neighbours mesh.cells u w) ring f.source f.first in
        is_next f.source w f.fresh (level.only f.source (Contains-from_In ring f.source i.0)) (edge_to f.source w f.lt i.1);
  }

  source_of : (ring_points : (u : ℕ) → Contains ring u → u < length mesh.points) (w s : ℕ) → Contains found w → from_at after w ≡ Some s → IsSource mesh vs n w s
  source_of ring_points w s m e =
      let f = found_is mesh ring before after found h w m in
      let q : first_near mesh ring w ≡ Some s = f.first ∙ sym f.now ∙ e in
      let i = find_is (λ u. are_neighbours mesh.cells u w) ring s q in
      let member = Contains-from_In ring s i.0 in
      record {
        near = to_numbers mesh (are_neighbours mesh.cells w) s (neighbours-sym mesh.cells s w i.1) (ring_points s member);
        level = level.only s member;
        least = λ u c l.
            find_least (λ u. are_neighbours mesh.cells u w) ring s u (Asc-from_increasing ring level.ascending) q (In-from_Contains ring u (level.every u l))
            (neighbours-sym mesh.cells w u (of_neighbours mesh w u c).0);
      }

  pub ring_next : (next : Ring) → ((u : ℕ) → Contains ring u → u < length mesh.points) → IsPermutation found next.vertices → IsNonDecreasing next.vertices → length next.sources ≡ length next.vertices
      → ((k : ℕ) → k < length next.vertices → from_at after (get_or next.vertices k 0) ≡ Some (get_or next.sources k 0)) → IsRing mesh vs (suc n) next
  ring_next next ring_points perm up len sources = record {
    vertices = next_level next.vertices perm up;
    sources = (
      len,
      λ k lt. source_of ring_points (get_or next.vertices k 0) (get_or next.sources k 0)
          (Contains-permutation next.vertices found (get_or next.vertices k 0) (IsPermutation-sym found next.vertices perm) (Contains-get_or next.vertices k 0 lt)) (sources k lt),
    );
  }

  pub near_next : AreNear mesh vs (suc n) after
  near_next = record {
    len = h.len ∙ near.len;
    near = λ w t. is_near w t (cases_Bool (is_reached before w)) (cases_lt w (length before));
    every = λ w g. every w g (cases_Bool (is_reached before w));
  }
    where
      some : (o q : Option ℕ) → is_some o ≡ true → is_some (or_else o q) ≡ true
      some (Some x) q e = refl
      some None q e = absurd (false≢true e)

      is_near : (w : ℕ) → is_reached after w ≡ true → (is_reached before w ≡ true) ⊎ (is_reached before w ≡ false) → (w < length before) ⊎ (length before ≤ w) → IsNear mesh vs (suc n) w
      is_near w t b (inr le) = let l = h.len in absurd (false≢true (sym (ap is_some (get_or_past after w None (omega arith))) ∙ t))
      is_near w t (inl old) (inl lt) = let g = near.near w old in let f = g.few in record { edges = g.edges; few = omega arith; path = g.path }
      is_near w t (inr fresh) (inl lt) =
          let s = some_value (first_near mesh ring w) (sym (ap is_some (now_is mesh ring before after found h w lt fresh)) ∙ t) in
          let i = find_is (λ u. are_neighbours mesh.cells u w) ring s.0 s.1 in
          record { edges = suc n; few = omega arith; path = path_on mesh vs n s.0 w (level.only s.0 (Contains-from_In ring s.0 i.0)).path (edge_to s.0 w lt i.1) }

      every : (w : ℕ) → IsNear mesh vs (suc n) w → (is_reached before w ≡ true) ⊎ (is_reached before w ≡ false) → is_reached after w ≡ true
      every w g (inl old) = by (cases_lt w (length before))
        where
          by : (w < length before) ⊎ (length before ≤ w) → is_reached after w ≡ true
          by (inl lt) = ap is_some (h.each w lt) ∙ some (from_at before w) (first_near mesh ring w) old
          by (inr le) = absurd (false≢true (sym (ap is_some (get_or_past before w None (omega arith))) ∙ old))
      every w g (inr fresh) =
          let l = longer w fresh g.edges g.path in
          let f = g.few in
          let e : g.edges ≡ suc n = omega arith in
          next_reached w fresh (next_of w fresh (subst (λ k. PathTo mesh vs k w) e g.path))

-- the neighbours of u up to place i, and one more
pub visit_more : (mesh : MeshView) (u i w : ℕ) (before after : List (Option ℕ)) (found more : List ℕ) (after' : List (Option ℕ)) (more' : List ℕ) → i < length (neighbours mesh u) → w ≡ get_or (neighbours mesh u) i 0 → length before ≡ length mesh.points
    → IsSpread (λ x. cond (is_listed (take i (neighbours mesh u)) x) (Some u) None) before after found more
    → after' ≡ cond (is_reached after w) after (set after w (Some u)) → more' ≡ cond (is_reached after w) more (more ++ w ∷ [])
    → IsSpread (λ x. cond (is_listed (take (i + 1) (neighbours mesh u)) x) (Some u) None) before after' found more'
visit_more mesh u i w before after found more after' more' lt is len h e f =
    spread_one s t before after found more w u h point others here after' more' e f
  where
    s : ℕ → Option ℕ
    s x = cond (is_listed (take i (neighbours mesh u)) x) (Some u) None

    t : ℕ → Option ℕ
    t x = cond (is_listed (take (i + 1) (neighbours mesh u)) x) (Some u) None

    next : take (i + 1) (neighbours mesh u) ≡ take i (neighbours mesh u) ++ w ∷ []
    next = take_more (neighbours mesh u) i 0 lt ∙ ap (λ x. take i (neighbours mesh u) ++ x ∷ []) (sym is)

    point : w < length before
    point = let p = (of_neighbours mesh u w (subst (Contains (neighbours mesh u)) (sym is) (Contains-get_or (neighbours mesh u) i 0 lt))).1 in omega (arith, p, len)

    others : (x : ℕ) → w ≢ x → cond (is_listed (take (i + 1) (neighbours mesh u)) x) (Some u) None ≡ cond (is_listed (take i (neighbours mesh u)) x) (Some u) None
    others x n = ap (λ b. cond b (Some u) None) (ap (λ l. is_listed l x) next ∙ listed_push_other (take i (neighbours mesh u)) w x n)

    either : (b : Bool) → Some u ≡ or_else (cond b (Some u) None) (Some u)
    either true = refl
    either false = refl

    here : cond (is_listed (take (i + 1) (neighbours mesh u)) w) (Some u) None ≡ or_else (cond (is_listed (take i (neighbours mesh u)) w) (Some u) None) (Some u)
    here = ap (λ b. cond b (Some u) None) (ap (λ l. is_listed l w) next ∙ listed_push (take i (neighbours mesh u)) w) ∙ either (is_listed (take i (neighbours mesh u)) w)

-- all neighbours of u
pub visit_end : (mesh : MeshView) (u i : ℕ) (before after : List (Option ℕ)) (found more : List ℕ) → length (neighbours mesh u) ≤ i → length before ≡ length mesh.points
    → IsSpread (λ x. cond (is_listed (take i (neighbours mesh u)) x) (Some u) None) before after found more
    → IsSpread (λ x. cond (are_neighbours mesh.cells u x) (Some u) None) before after found more
visit_end mesh u i before after found more le len h =
    spread_like _ _ before after found more
    (λ x lt. ap (λ b. cond b (Some u) None) (ap (λ l. is_listed l x) (take_all i (neighbours mesh u) le) ∙ listed_neighbours mesh u x (omega (arith, lt, len)))) h

-- the ring up to place j, and the neighbours of one more
pub visit_next : (mesh : MeshView) (ring : List ℕ) (j : ℕ) (before mid after : List (Option ℕ)) (more most : List ℕ) → j < length ring
    → IsSpread (first_near mesh (take j ring)) before mid [] more
    → IsSpread (λ x. cond (are_neighbours mesh.cells (get_or ring j 0) x) (Some (get_or ring j 0)) None) mid after more most
    → IsSpread (first_near mesh (take (j + 1) ring)) before after [] most
visit_next mesh ring j before mid after more most lt g h =
    spread_like _ _ before after [] most
    (λ x l. sym (ap (find (λ u. are_neighbours mesh.cells u x)) (take_more ring j 0 lt) ∙ find_push (λ u. are_neighbours mesh.cells u x) (take j ring) (get_or ring j 0)))
    (spread_join (first_near mesh (take j ring)) (λ x. cond (are_neighbours mesh.cells (get_or ring j 0) x) (Some (get_or ring j 0)) None) before mid after [] more most g h)

-- at first the vertices themselves are reached
pub near_begin : (mesh : MeshView) (vs : List ℕ) (from : List (Option ℕ)) → ((v : ℕ) → Contains vs v → v < length mesh.points) → length from ≡ length mesh.points
    → ((w : ℕ) → w < length mesh.points → from_at from w ≡ cond (is_listed vs w) (Some w) None) → AreNear mesh vs 0 from
near_begin mesh vs from points len each = record {
  len = len;
  near = λ w t. near w t (cases_lt w (length mesh.points));
  every = λ w g.
      let m : Contains vs w = zero_path mesh vs w (subst (λ k. PathTo mesh vs k w) (let f = g.few in let z : g.edges ≡ 0 = omega arith in z) g.path) in
      ap is_some (each w (points w m) ∙ ap (λ b. cond b (Some w) None) (listed vs w (In-from_Contains vs w m)));
}
  where
    some : (b : Bool) (w : ℕ) → is_some (cond b (Some w) None) ≡ true → b ≡ true
    some true w h = refl
    some false w h = absurd (false≢true h)

    near : (w : ℕ) → is_reached from w ≡ true → (w < length mesh.points) ⊎ (length mesh.points ≤ w) → IsNear mesh vs 0 w
    near w t (inr le) = absurd (false≢true (sym (ap is_some (get_or_past from w None (omega arith))) ∙ t))
    near w t (inl lt) =
        let b = some (is_listed vs w) w (sym (ap is_some (each w lt)) ∙ t) in
        record { edges = 0; few = omega arith; path = start_path mesh vs w (Contains-from_In vs w (of_listed vs w b)) }

-- one more vertex is reached from itself
pub begin_more : (vs : List ℕ) (from : List (Option ℕ)) (i n v : ℕ) → i < length vs → v ≡ get_or vs i 0 → v < n → length from ≡ n
    → ((w : ℕ) → w < n → from_at from w ≡ cond (is_listed (take i vs) w) (Some w) None) → (w : ℕ) → w < n → from_at (set from v (Some v)) w ≡ cond (is_listed (take (i + 1) vs) w) (Some w) None
begin_more vs from i n v lt is point len each w l = by (cases_eq v w)
  where
    next : take (i + 1) vs ≡ take i vs ++ v ∷ []
    next = take_more vs i 0 lt ∙ ap (λ x. take i vs ++ x ∷ []) (sym is)

    by : (v ≡ w) ⊎ (v ≢ w) → from_at (set from v (Some v)) w ≡ cond (is_listed (take (i + 1) vs) w) (Some w) None
    by (inl e) =
        let p : v < length from = omega arith in
        subst (λ w. from_at (set from v (Some v)) w ≡ cond (is_listed (take (i + 1) vs) w) (Some w) None) e
        (get_or-set_same from v (Some v) None p ∙ sym (ap (λ b. cond b (Some v) None) (ap (λ l. is_listed l v) next ∙ listed_push (take i vs) v)))
    by (inr n) =
        let m : w ≢ v = (λ e. n (sym e)) in
        get_or-set_other from v w (Some v) None m ∙ each w l ∙ sym (ap (λ b. cond b (Some w) None) (ap (λ l. is_listed l w) next ∙ listed_push_other (take i vs) v w n))

pub blank : (n w : ℕ) → from_at (replicate n None) w ≡ None
blank zero w = refl
blank (suc n) zero = refl
blank (suc n) (suc w) = blank n w

-- at first nothing is reached
pub begin_none : (n m : ℕ) (from : List (Option ℕ)) → from ≡ replicate n None → (w : ℕ) → w < m → from_at from w ≡ cond (is_listed [] w) (Some w) None
begin_none n m from e w lt = ap (λ l. from_at l w) e ∙ blank n w
