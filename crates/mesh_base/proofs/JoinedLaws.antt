-- growing by neighbours reaches exactly what inside paths lead to
use Rattle.std.proofs.Common.{◌≡◌, ℕ, zero, suc, ◌+◌, ◌<◌, ◌≤◌, Bool, true, false, cond, eqb, not, ◌&&◌, ◌||◌, ◌⊎◌, inl, inr, List, [], ◌∷◌, ◌++◌, length, filter, Contains, ◌↔◌, refl, sym, ap, subst, ◌∙◌, arith}
use Rattle.std.proofs.lemmas.Bool.{false≢true, cases_lt}
use Rattle.std.proofs.lemmas.Bool.Decides.{nat_tests}
use Rattle.std.specs.List.{list_any}
use Rattle.std.specs.List.Sorted.{IsStrictlyIncreasing}
use Rattle.std.proofs.Common.{Option, Some, None, unwrap_or, ltb}
use Rattle.mesh_base.specs.declared.answer.Route.{Route}
use Rattle.mesh_base.specs.declared.answer.Route.TheVariants.{Probe, Walk, Scan}
use Rattle.mesh_base.specs.Mesh.{neighbours}
use Rattle.mesh_base.specs.Place.{Area}
use Rattle.mesh_base.specs.Numbers.{IsListOf}
use Rattle.mesh_base.specs.Mesh.{MeshView, Corners, has_corner, live, numbers, are_neighbours}
use Rattle.mesh_base.specs.Scan.{is_in, scan}
use Rattle.mesh_base.specs.Paths.{InsidePath, Joined, JoinedToOne}
use Rattle.mesh_base.specs.Parts.{grown, grown_by, joined_to}
use Rattle.mesh_base.specs.Walk.{next, nearest, distance, walk_of_most, IsWalk}
use Rattle.mesh_base.specs.Answer.{IsAnswerBy, answer_by, probed, arrived}
use Rattle.mesh_base.proofs.Ascending.{In, In-from_Contains, Contains-from_In, In-filter, filter-In, IsListOf-filter_range, same_increasing, same_list_of}
use Rattle.mesh_base.proofs.AnswerLaws.{starts_in, from_probed, arrived_in, any_from}

-- a test that passes for an element
pub any_In : (p : ℕ → Bool) (xs : List ℕ) (v : ℕ) → In xs v → p v ≡ true → list_any p xs ≡ true
any_In p [] v h t = absurd h
any_In p (x ∷ xs) v (inl e) t = ap (λ b. b || list_any p xs) (ap p e ∙ t)
any_In p (x ∷ xs) v (inr h) t = right (p x) (list_any p xs) (any_In p xs v h t)
  where
    right : (b c : Bool) → c ≡ true → (b || c) ≡ true
    right true c e = refl
    right false c e = e

pub In_any : (p : ℕ → Bool) (xs : List ℕ) → list_any p xs ≡ true → (v : ℕ) × In xs v × (p v ≡ true)
In_any p [] h = absurd (false≢true h)
In_any p (x ∷ xs) h = by (p x) refl (In_any p xs)
  where
    by : (b : Bool) → p x ≡ b → (list_any p xs ≡ true → (v : ℕ) × In xs v × (p v ≡ true)) → (v : ℕ) × In (x ∷ xs) v × (p v ≡ true)
    by true e rest = (x, inl refl, e)
    by false e rest = let r = rest (sym (ap (λ b. b || list_any p xs) e) ∙ h) in (r.0, inr r.1, r.2)

pub or_cases : (a b : Bool) → (a || b) ≡ true → (a ≡ true) ⊎ (b ≡ true)
or_cases true b h = inl refl
or_cases false b h = inr h

pub and_both : (a b : Bool) → (a && b) ≡ true → (a ≡ true) × (b ≡ true)
and_both true b h = (refl, h)
and_both false b h = absurd (false≢true h)

pub both_and : (a b : Bool) → a ≡ true → b ≡ true → (a && b) ≡ true
both_and true b h k = k
both_and false b h k = h

pub or_left : (a b : Bool) → a ≡ true → (a || b) ≡ true
or_left true b h = refl
or_left false b h = absurd (false≢true h)

pub or_right : (a b : Bool) → b ≡ true → (a || b) ≡ true
or_right true b h = refl
or_right false b h = h

eqb_self : (v : ℕ) → eqb v v ≡ true
eqb_self v = grind (arith, nat_tests)

eqb_same : (v w : ℕ) → eqb v w ≡ true → v ≡ w
eqb_same v w h = grind (arith, nat_tests)

-- two filters of one list: where the one passes all that the other does, it is at least as long, and if it is no
-- longer, it passes no more
length-filter-le : (p q : ℕ → Bool) (xs : List ℕ) → ((v : ℕ) → In xs v → p v ≡ true → q v ≡ true) → length (filter p xs) ≤ length (filter q xs)
length-filter-le p q [] f = omega arith
length-filter-le p q (x ∷ xs) f = by (p x) (q x) refl refl (length-filter-le p q xs (λ v m. f v (inr m)))
  where
    by : (a b : Bool) → p x ≡ a → q x ≡ b → length (filter p xs) ≤ length (filter q xs) → length (cond a (x ∷ filter p xs) (filter p xs)) ≤ length (cond b (x ∷ filter q xs) (filter q xs))
    by true true d e r = omega arith
    by true false d e r = absurd (false≢true (sym e ∙ f x (inl refl) d))
    by false true d e r = omega arith
    by false false d e r = r

filter-same : (p q : ℕ → Bool) (xs : List ℕ) → ((v : ℕ) → In xs v → p v ≡ true → q v ≡ true) → length (filter q xs) ≤ length (filter p xs) → (v : ℕ) → In xs v → q v ≡ true → p v ≡ true
filter-same p q [] f le v h t = absurd h
filter-same p q (x ∷ xs) f le v h t = by (p x) (q x) refl refl le h (filter-same p q xs (λ v m. f v (inr m)))
  where
    by : (a b : Bool) → p x ≡ a → q x ≡ b → length (cond b (x ∷ filter q xs) (filter q xs)) ≤ length (cond a (x ∷ filter p xs) (filter p xs)) → In (x ∷ xs) v
        → (length (filter q xs) ≤ length (filter p xs) → (v : ℕ) → In xs v → q v ≡ true → p v ≡ true) → p v ≡ true
    by true b d e l (inl s) rest = sym (ap p s) ∙ d
    by true true d e l (inr m) rest = rest (omega arith) v m t
    by true false d e l (inr m) rest = absurd (false≢true (sym e ∙ f x (inl refl) d))
    by false true d e l m rest = let g = length-filter-le p q xs (λ v m. f v (inr m)) in absurd (omega arith)
    by false false d e l (inl s) rest = absurd (false≢true (sym e ∙ ap q s ∙ t))
    by false false d e l (inr m) rest = rest l v m t

and_swap : (a b : Bool) → (a && b) ≡ true → (b && a) ≡ true
and_swap true true h = refl
and_swap true false h = h
and_swap false b h = absurd (false≢true h)

-- a neighbour has the vertex for a neighbour
pub neighbours-sym : (cells : List (Option Corners)) (v w : ℕ) → are_neighbours cells v w ≡ true → are_neighbours cells w v ≡ true
neighbours-sym cells v w h =
    let b = and_both (not (eqb v w)) (list_any (λ c. has_corner c v && has_corner c w) (live cells)) h in
    both_and _ _ (grind (arith, nat_tests, b.0))
    (any_from (λ c. has_corner c v && has_corner c w) (λ c. has_corner c w && has_corner c v) (live cells) (λ c e. and_swap (has_corner c v) (has_corner c w) e) b.1)

module _ (mesh : MeshView) (area : Area) where
  -- w is inside, and is in the list or has a neighbour in it
  abbrev touches : List ℕ → ℕ → Bool
  touches vs w = is_in mesh area w && (list_any (λ v. eqb v w) vs || list_any (λ v. are_neighbours mesh.cells v w) vs)

  scan_of : (w : ℕ) → is_in mesh area w ≡ true → In (numbers mesh) w → Contains (scan mesh area) w
  scan_of w t m = Contains-from_In _ w (filter-In (is_in mesh area) (numbers mesh) w t m)

  of_scan : (w : ℕ) → Contains (scan mesh area) w → (is_in mesh area w ≡ true) × In (numbers mesh) w
  of_scan w m = In-filter (is_in mesh area) (numbers mesh) w (In-from_Contains _ w m)

  -- an inside path goes on by a neighbour inside
  pub extend : (s : ℕ) (us : List ℕ) (v w : ℕ) → InsidePath mesh area s us v → are_neighbours mesh.cells v w ≡ true → Contains (scan mesh area) w → InsidePath mesh area s (us ++ w ∷ []) w
  extend s [] v w p n m = (p.0, subst (λ k. are_neighbours mesh.cells k w ≡ true) (sym p.1) n, (m, refl))
  extend s (u ∷ us) v w p n m = (p.0, p.1, extend u us v w p.2 n m)

  -- what grows from joined vertices is joined
  sound : (seeds vs : List ℕ) → ((v : ℕ) → In vs v → JoinedToOne mesh area seeds v) → (w : ℕ) → In (grown mesh area vs) w → JoinedToOne mesh area seeds w
  sound seeds vs j w h = by (or_cases _ _ (and_both _ _ f.0).1)
    where
      f : (touches vs w ≡ true) × In (numbers mesh) w
      f = In-filter (touches vs) (numbers mesh) w h

      by : (list_any (λ v. eqb v w) vs ≡ true) ⊎ (list_any (λ v. are_neighbours mesh.cells v w) vs ≡ true) → JoinedToOne mesh area seeds w
      by (inl e) = let a = In_any (λ v. eqb v w) vs e in subst (JoinedToOne mesh area seeds) (eqb_same a.0 w a.2) (j a.0 a.1)
      by (inr e) =
          let a = In_any (λ v. are_neighbours mesh.cells v w) vs e in
          let p = j a.0 a.1 in
          (p.0, p.1, (p.2.0 ++ w ∷ [], extend p.0 p.2.0 a.0 w p.2.1 a.2 (scan_of w (and_both _ _ f.0).0 f.1)))

  sound_by : (n : ℕ) (seeds vs : List ℕ) → ((v : ℕ) → In vs v → JoinedToOne mesh area seeds v) → (w : ℕ) → In (grown_by mesh area n vs) w → JoinedToOne mesh area seeds w
  sound_by zero seeds vs j w h = j w h
  sound_by (suc n) seeds vs j w h = sound_by n seeds (grown mesh area vs) (sound seeds vs j) w h

  -- nothing inside is lost
  keep : (vs : List ℕ) (w : ℕ) → Contains (scan mesh area) w → In vs w → In (grown mesh area vs) w
  keep vs w m h = filter-In (touches vs) (numbers mesh) w (both_and _ _ (of_scan w m).0 (or_left _ _ (any_In (λ v. eqb v w) vs w h (eqb_self w)))) (of_scan w m).1

  keep_by : (n : ℕ) (vs : List ℕ) (w : ℕ) → Contains (scan mesh area) w → In vs w → In (grown_by mesh area n vs) w
  keep_by zero vs w m h = h
  keep_by (suc n) vs w m h = keep_by n (grown mesh area vs) w m (keep vs w m h)

  -- a list that no longer grows
  abbrev Closed : List ℕ → Type 0
  Closed vs = (w : ℕ) → In (grown mesh area vs) w → In vs w

  -- a filter of the numbers, all inside
  record IsPart' (vs : List ℕ) : Type 0 where
    test : ℕ → Bool
    is : vs ≡ filter test (numbers mesh)
    inside : (v : ℕ) → test v ≡ true → is_in mesh area v ≡ true

  grown_part : (vs : List ℕ) → IsPart' (grown mesh area vs)
  grown_part vs = record { test = touches vs; is = refl; inside = λ v t. (and_both _ _ t).0 }

  part_in : (vs : List ℕ) → IsPart' vs → (w : ℕ) → In vs w → Contains (scan mesh area) w
  part_in vs p w h = let f = In-filter p.test (numbers mesh) w (subst (λ l. In l w) p.is h) in scan_of w (p.inside w f.0) f.1

  part_length : (vs : List ℕ) → IsPart' vs → length vs ≤ length (scan mesh area)
  part_length vs p = let l = length-filter-le p.test (is_in mesh area) (numbers mesh) (λ v m. p.inside v) in let e = ap length p.is in omega arith

  -- what is in a part passes the test of the next round
  part_touches : (vs : List ℕ) (p : IsPart' vs) (v : ℕ) → In (numbers mesh) v → p.test v ≡ true → touches vs v ≡ true
  part_touches vs p v m t =
      let h : In vs v = subst (λ l. In l v) (sym p.is) (filter-In p.test (numbers mesh) v t m) in
      (In-filter (touches vs) (numbers mesh) v (keep vs v (part_in vs p v h) h)).0

  -- a round that adds nothing
  stable : (vs : List ℕ) → IsPart' vs → length (grown mesh area vs) ≤ length vs → Closed vs
  stable vs p le w h =
      let f = In-filter (touches vs) (numbers mesh) w h in
      let e = ap length p.is in
      let t = filter-same p.test (touches vs) (numbers mesh) (part_touches vs p) (omega arith) w f.1 f.0 in
      subst (λ l. In l w) (sym p.is) (filter-In p.test (numbers mesh) w t f.1)

  -- a closed part stays as it is
  same_grown : (vs : List ℕ) → IsPart' vs → Closed vs → grown mesh area vs ≡ vs
  same_grown vs p c =
      let q = IsListOf-filter_range (touches vs) (length mesh.points) in
      let r = IsListOf-filter_range p.test (length mesh.points) in
      same_increasing (grown mesh area vs) (filter p.test (numbers mesh)) q.ascending r.ascending
      (λ v m. Contains-from_In _ v (subst (λ l. In l v) p.is (c v (In-from_Contains _ v m))))
      (λ v m. let h = In-filter p.test (numbers mesh) v (In-from_Contains _ v m) in
      Contains-from_In _ v (filter-In (touches vs) (numbers mesh) v (part_touches vs p v h.1 h.0) h.1))
      ∙ sym p.is

  closed_stays : (n : ℕ) (vs : List ℕ) → IsPart' vs → Closed vs → grown_by mesh area n vs ≡ vs
  closed_stays zero vs p c = refl
  closed_stays (suc n) vs p c = ap (grown_by mesh area n) (same_grown vs p c) ∙ closed_stays n vs p c

  -- after n rounds it is closed, or has n more
  rounds : (n : ℕ) (vs : List ℕ) → IsPart' vs → Closed (grown_by mesh area n vs) ⊎ (n + length vs ≤ length (grown_by mesh area n vs))
  rounds zero vs p = inr (omega arith)
  rounds (suc n) vs p = by (cases_lt (length vs) (length (grown mesh area vs))) (rounds n (grown mesh area vs) (grown_part vs))
    where
      by : (length vs < length (grown mesh area vs)) ⊎ (length (grown mesh area vs) ≤ length vs)
          → Closed (grown_by mesh area n (grown mesh area vs)) ⊎ (n + length (grown mesh area vs) ≤ length (grown_by mesh area n (grown mesh area vs)))
          → Closed (grown_by mesh area n (grown mesh area vs)) ⊎ (suc n + length vs ≤ length (grown_by mesh area n (grown mesh area vs)))
      by d (inl c) = inl c
      by (inl l) (inr r) = inr (omega arith)
      by (inr g) (inr r) = inl (subst (λ l. Closed l) (sym (closed_stays (suc n) vs p (stable vs p g))) (stable vs p g))

  final_part : (n : ℕ) (vs : List ℕ) → IsPart' vs → IsPart' (grown_by mesh area n vs)
  final_part zero vs p = p
  final_part (suc n) vs p = final_part n (grown mesh area vs) (grown_part vs)

  no_length : (vs : List ℕ) → length vs ≡ 0 → vs ≡ []
  no_length [] e = refl
  no_length (v ∷ vs) e = absurd (omega arith)

  closed_at_last : (seeds : List ℕ) → Closed (joined_to mesh area seeds)
  closed_at_last seeds = by (rounds (length (scan mesh area)) (grown mesh area seeds) (grown_part seeds))
    where
      last : IsPart' (joined_to mesh area seeds)
      last = final_part (length (scan mesh area)) (grown mesh area seeds) (grown_part seeds)

      empty : Closed []
      empty w h = absurd (false≢true (and_both (is_in mesh area w) false (In-filter (touches []) (numbers mesh) w h).0).1)

      by : Closed (joined_to mesh area seeds) ⊎ (length (scan mesh area) + length (grown mesh area seeds) ≤ length (joined_to mesh area seeds)) → Closed (joined_to mesh area seeds)
      by (inl c) = c
      by (inr r) =
          let l = part_length (joined_to mesh area seeds) last in
          let z : length (grown mesh area seeds) ≡ 0 = omega arith in
          let e = no_length (grown mesh area seeds) z in
          subst (λ k. Closed (grown_by mesh area (length (scan mesh area)) k)) (sym e)
          (subst (λ k. Closed k) (sym (closed_stays (length (scan mesh area)) [] (subst IsPart' e (grown_part seeds)) empty)) empty)

  -- what a path leads to from a closed part is in it
  along : (vs : List ℕ) → Closed vs → (v : ℕ) (us : List ℕ) (w : ℕ) → InsidePath mesh area v us w → In vs v → In vs w
  along vs c v [] w p h = subst (In vs) p.1 h
  along vs c v (u ∷ us) w p h =
      let m = of_scan u (starts_in mesh area u us w p.2) in
      along vs c u us w p.2 (c u (filter-In (touches vs) (numbers mesh) u (both_and _ _ m.0 (or_right _ _ (any_In (λ k. are_neighbours mesh.cells k u) vs v h p.1))) m.1))

  -- the computed list is exactly what inside paths lead to
  pub joined_is : (seeds : List ℕ) → ((s : ℕ) → Contains seeds s → Contains (scan mesh area) s) → IsListOf (JoinedToOne mesh area seeds) (joined_to mesh area seeds)
  joined_is seeds inside =
      let p = final_part (length (scan mesh area)) (grown mesh area seeds) (grown_part seeds) in
      record {
        ascending = subst IsStrictlyIncreasing (sym p.is) (IsListOf-filter_range p.test (length mesh.points)).ascending;
        every = λ w j. Contains-from_In _ w (along (joined_to mesh area seeds) (closed_at_last seeds) j.0 j.2.0 w j.2.1
            (keep_by (length (scan mesh area)) (grown mesh area seeds) j.0 (inside j.0 j.1) (keep seeds j.0 (inside j.0 j.1) (In-from_Contains seeds j.0 j.1))));
        only = λ w m. sound_by (length (scan mesh area)) seeds (grown mesh area seeds)
            (sound seeds seeds (λ v h. (v, Contains-from_In seeds v h, ([], (inside v (Contains-from_In seeds v h), refl))))) w (In-from_Contains _ w m);
      }

  -- the computed answer is an answer, and the only one
  pub answer_is : (r : Route) → IsAnswerBy mesh area r (answer_by mesh area r)
  answer_is Probe = joined_is (probed mesh area) (λ s m. from_probed mesh area s (In-from_Contains _ s m))
  answer_is Walk = joined_is (arrived mesh area) (arrived_in mesh area)
  answer_is Scan = refl

  pub one_answer : (r : Route) (vs : List ℕ) → IsAnswerBy mesh area r vs → vs ≡ answer_by mesh area r
  one_answer Probe vs h = same_list_of (JoinedToOne mesh area (probed mesh area)) vs (answer_by mesh area Probe) h (answer_is Probe)
  one_answer Walk vs h = same_list_of (JoinedToOne mesh area (arrived mesh area)) vs (answer_by mesh area Walk) h (answer_is Walk)
  one_answer Scan vs h = h

  -- the next vertex is nearer
  pub next_nearer : (v w : ℕ) → next mesh area v ≡ Some w → distance mesh area w < distance mesh area v
  next_nearer v w e = by (ltb (distance mesh area u) (distance mesh area v)) refl e
    where
      u : ℕ
      u = unwrap_or (nearest mesh area (neighbours mesh v)) v

      by : (b : Bool) → ltb (distance mesh area u) (distance mesh area v) ≡ b → cond b (Some u) None ≡ Some w → distance mesh area w < distance mesh area v
      by true l h = let s : u ≡ w = ap (λ o. unwrap_or o 0) h in let d = ap (distance mesh area) s in grind (arith, nat_tests)
      by false l h = absurd (cc)

  -- with enough steps allowed the walk is whole
  pub walk_whole : (n v : ℕ) → distance mesh area v < n → (ws : List ℕ) × (walk_of_most mesh area n (Some v) ≡ v ∷ ws) × IsWalk mesh area v ws
  walk_whole zero v lt = absurd (omega arith)
  walk_whole (suc n) v lt = by (next mesh area v) refl (walk_whole n)
    where
      none : (n : ℕ) → walk_of_most mesh area n None ≡ []
      none zero = refl
      none (suc n) = refl

      by : (o : Option ℕ) → next mesh area v ≡ o → ((w : ℕ) → distance mesh area w < n → (ws : List ℕ) × (walk_of_most mesh area n (Some w) ≡ w ∷ ws) × IsWalk mesh area w ws)
          → (ws : List ℕ) × (v ∷ walk_of_most mesh area n o ≡ v ∷ ws) × IsWalk mesh area v ws
      by None e rest = ([], ap (λ l. v ∷ l) (none n), e)
      by (Some w) e rest =
          let l = next_nearer v w e in
          let r = rest w (omega arith) in
          (w ∷ r.0, ap (λ k. v ∷ k) r.1, (e, r.2))

  -- an inside path can be gone back
  pub Joined-sym : (v w : ℕ) → Joined mesh area v w → Joined mesh area w v
  Joined-sym v w (path, p) = back v path w p
    where
      back : (v : ℕ) (us : List ℕ) (w : ℕ) → InsidePath mesh area v us w → Joined mesh area w v
      back v [] w p = ([], (subst (Contains (scan mesh area)) p.1 p.0, sym p.1))
      back v (u ∷ us) w p =
          let r = back u us w p.2 in
          (r.0 ++ v ∷ [], extend w r.0 u v r.1 (neighbours-sym mesh.cells v u p.1) p.0)

  -- what is joined stays joined over a neighbour inside
  pub joined_on : (seeds : List ℕ) (v w : ℕ) → JoinedToOne mesh area seeds v → are_neighbours mesh.cells v w ≡ true → Contains (scan mesh area) w → JoinedToOne mesh area seeds w
  joined_on seeds v w (s, m, (us, p)) n i = (s, m, (us ++ w ∷ [], extend s us v w p n i))

  -- where a list has each neighbour inside of each vertex that it has, an inside path from it stays in it
  stays : (found : List ℕ) → ((v w : ℕ) → Contains found v → are_neighbours mesh.cells v w ≡ true → Contains (scan mesh area) w → Contains found w)
      → (v : ℕ) (us : List ℕ) (w : ℕ) → InsidePath mesh area v us w → Contains found v → Contains found w
  stays found c v [] w p h = subst (Contains found) p.1 h
  stays found c v (u ∷ us) w p h = stays found c u us w p.2 (c v u h p.1 (starts_in mesh area u us w p.2))

  -- so it has all that is joined to its seeds
  pub all_found : (seeds found : List ℕ) → ((s : ℕ) → Contains seeds s → Contains found s)
      → ((v w : ℕ) → Contains found v → are_neighbours mesh.cells v w ≡ true → Contains (scan mesh area) w → Contains found w)
      → (w : ℕ) → JoinedToOne mesh area seeds w → Contains found w
  all_found seeds found starts c w (s, m, (us, p)) = stays found c s us w p (starts s m)

  pub more_seeds : (xs ys : List ℕ) (w : ℕ) → ((s : ℕ) → Contains xs s → Contains ys s) → JoinedToOne mesh area xs w → JoinedToOne mesh area ys w
  more_seeds xs ys w f (s, m, p) = (s, f s m, p)

  -- the same seeds, in another order or more than once
  pub same_joined : (xs ys : List ℕ) → ((s : ℕ) → Contains xs s ↔ Contains ys s) → ((s : ℕ) → Contains ys s → Contains (scan mesh area) s) → joined_to mesh area xs ≡ joined_to mesh area ys
  same_joined xs ys h inside =
      let a = joined_is xs (λ s m. inside s ((h s).0 m)) in
      same_list_of (JoinedToOne mesh area ys) (joined_to mesh area xs) (joined_to mesh area ys)
      (record {
        ascending = a.ascending;
        every = λ w j. a.every w (more_seeds ys xs w (λ s. (h s).1) j);
        only = λ w m. more_seeds xs ys w (λ s. (h s).0) (a.only w m);
      }) (joined_is ys inside)
