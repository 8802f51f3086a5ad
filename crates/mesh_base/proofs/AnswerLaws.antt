-- what the list of an answer is
use Rattle.std.proofs.Common.{◌≡◌, ℕ, zero, suc, ◌-◌, ◌*◌, Bool, true, false, cond, eqb, ltb, not, ◌&&◌, ◌||◌, inl, inr, ℤ, List, [], ◌∷◌, length, drop, flat_map, Contains, Option, Some, None, unwrap_or, refl, sym, ap, subst, ◌∙◌, arith}
use Rattle.std.proofs.lemmas.Bool.{false≢true, true≢false}
use Rattle.std.proofs.lemmas.Int.{ints}
use Rattle.std.proofs.lemmas.Bool.Decides.{nat_tests}
use Rattle.std.specs.List.{list_any}
use Rattle.std.specs.List.Sorted.{IsStrictlyIncreasing}
use Rattle.mesh_base.specs.Place.{Place, Area, is_inside, is_between, gap, dist2}
use Rattle.mesh_base.specs.Numbers.{IsListOf}
use Rattle.mesh_base.specs.Mesh.{MeshView, Corners, Face, has_corner, live, is_vertex, is_surface, is_on, face_of, faces, count, surface, numbers, are_neighbours, neighbours, place}
use Rattle.mesh_base.specs.Scan.{is_in, scan}
use Rattle.mesh_base.specs.Paths.{InsidePath, Joined, JoinedToOne}
use Rattle.mesh_base.specs.Parts.{IsCovered}
use Rattle.mesh_base.specs.Walk.{walk_of_most, start, next, nearest, is_nearer, distance}
use Rattle.mesh_base.specs.Answer.{IsAnswer, IsAnswerBy, probed, walked, arrived}
use Rattle.mesh_base.specs.declared.answer.Route.{Route}
use Rattle.mesh_base.specs.declared.answer.Route.TheVariants.{Probe, Walk, Scan}
use Rattle.std.specs.Option.{option_map_or}
use Rattle.mesh_base.proofs.CellLists.{list_any-append}
use Rattle.mesh_base.proofs.Ascending.{In, In-from_Contains, Contains-from_In, In-filter, filter-In, same_increasing, IsListOf-filter_range}

-- a test that is true of an element of the list
pub any_from : {X : Type 0} (p q : X → Bool) (xs : List X) → ((x : X) → p x ≡ true → q x ≡ true) → list_any p xs ≡ true → list_any q xs ≡ true
any_from p q [] f h = h
any_from p q (x ∷ xs) f h = by (p x) refl (any_from p q xs f)
  where
    right : (b c : Bool) → c ≡ true → (b || c) ≡ true
    right true c e = refl
    right false c e = e

    by : (b : Bool) → p x ≡ b → (list_any p xs ≡ true → list_any q xs ≡ true) → list_any q (x ∷ xs) ≡ true
    by true e rest = ap (λ b. b || list_any q xs) (f x e)
    by false e rest = right (q x) (list_any q xs) (rest (sym (ap (λ b. b || list_any p xs) e) ∙ h))

pub and_left : (a b : Bool) → (a && b) ≡ true → a ≡ true
and_left true b h = refl
and_left false b h = h

pub and_right : (a b : Bool) → (a && b) ≡ true → b ≡ true
and_right true b h = h
and_right false b h = absurd (false≢true h)

module _ (mesh : MeshView) (area : Area) where
  pub ends_in : (v : ℕ) (us : List ℕ) (w : ℕ) → InsidePath mesh area v us w → Contains (scan mesh area) w
  ends_in v [] w h = subst (Contains (scan mesh area)) h.1 h.0
  ends_in v (u ∷ us) w h = ends_in u us w h.2

  pub starts_in : (v : ℕ) (us : List ℕ) (w : ℕ) → InsidePath mesh area v us w → Contains (scan mesh area) v
  starts_in v [] w h = h.0
  starts_in v (u ∷ us) w h = h.0

  pub increasing-scan : IsStrictlyIncreasing (scan mesh area)
  increasing-scan = (IsListOf-filter_range (is_in mesh area) (length mesh.points)).ascending

  pub joined_in : (seeds : List ℕ) (w : ℕ) → JoinedToOne mesh area seeds w → Contains (scan mesh area) w
  joined_in seeds w (s, m, (path, p)) = ends_in s path w p

  pub answer_increasing : (r : Route) (vs : List ℕ) → IsAnswerBy mesh area r vs → IsStrictlyIncreasing vs
  answer_increasing Probe vs h = h.ascending
  answer_increasing Walk vs h = h.ascending
  answer_increasing Scan vs h = subst IsStrictlyIncreasing (sym h) increasing-scan

  pub answer_in : (r : Route) (vs : List ℕ) → IsAnswerBy mesh area r vs → (v : ℕ) → Contains vs v → Contains (scan mesh area) v
  answer_in Probe vs h v m = joined_in (probed mesh area) v (h.only v m)
  answer_in Walk vs h v m = joined_in (arrived mesh area) v (h.only v m)
  answer_in Scan vs h v m = subst (λ l. Contains l v) h m

  pub in_scan : (v : ℕ) → Contains (scan mesh area) v → is_in mesh area v ≡ true
  in_scan v m = (In-filter (is_in mesh area) (numbers mesh) v (In-from_Contains _ v m)).0

  to_scan : (v : ℕ) → is_in mesh area v ≡ true → In (numbers mesh) v → Contains (scan mesh area) v
  to_scan v e m = Contains-from_In _ v (filter-In (is_in mesh area) (numbers mesh) v e m)

  -- a surface vertex inside is probed, and the other way round
  pub to_probed : (s : ℕ) → Contains (surface mesh) s → Contains (scan mesh area) s → Contains (probed mesh area) s
  to_probed s m i = Contains-from_In _ s (filter-In (is_in mesh area) (surface mesh) s (in_scan s i) (In-from_Contains _ s m))

  pub from_probed : (s : ℕ) → In (probed mesh area) s → Contains (scan mesh area) s
  from_probed s m =
      let a = In-filter (is_in mesh area) (surface mesh) s m in
      let b = In-filter (is_surface mesh.cells) (numbers mesh) s a.1 in
      to_scan s a.0 b.1

  -- where each part has a surface vertex, each vertex inside is joined to a probed one
  joined_to_probed : ((v : ℕ) → Contains (scan mesh area) v → JoinedToOne mesh area (surface mesh) v) → (v : ℕ) → Contains (scan mesh area) v → JoinedToOne mesh area (probed mesh area) v
  joined_to_probed cover v m =
      let j = cover v m in
      (j.0, to_probed j.0 j.1 (starts_in j.0 j.2.0 v j.2.1), j.2)

  -- with one part, a seed inside reaches all
  one_part : (seeds : List ℕ) (s : ℕ) → Contains seeds s → Contains (scan mesh area) s
      → ((v w : ℕ) → Contains (scan mesh area) v → Contains (scan mesh area) w → Joined mesh area v w)
      → (v : ℕ) → Contains (scan mesh area) v → JoinedToOne mesh area seeds v
  one_part seeds s m i all v n = (s, m, all s v i n)

  complete : (seeds vs : List ℕ) → IsListOf (JoinedToOne mesh area seeds) vs → ((v : ℕ) → Contains (scan mesh area) v → JoinedToOne mesh area seeds v) → vs ≡ scan mesh area
  complete seeds vs h f = same_increasing vs (scan mesh area) h.ascending increasing-scan (λ v m. joined_in seeds v (h.only v m)) (λ v m. h.every v (f v m))

  -- the walk goes over vertices
  pick : (v : ℕ) (vs : List ℕ) (b : Bool) (w : ℕ) → In (v ∷ vs) w → In (v ∷ vs) (cond b w v)
  pick v vs true w h = h
  pick v vs false w h = inl refl

  pub nearest_in : (xs : List ℕ) (d : ℕ) → In (d ∷ xs) (unwrap_or (nearest mesh area xs) d)
  nearest_in [] d = inl refl
  nearest_in (v ∷ vs) d =
      let w = unwrap_or (nearest mesh area vs) v in
      inr (pick v vs (is_nearer mesh area w v) w (nearest_in vs v))

  pub next_in : (v w : ℕ) → next mesh area v ≡ Some w → In (neighbours mesh v) w
  next_in v w e = by (ltb (distance mesh area u) (distance mesh area v)) refl e
    where
      u : ℕ
      u = unwrap_or (nearest mesh area (neighbours mesh v)) v

      by : (b : Bool) → ltb (distance mesh area u) (distance mesh area v) ≡ b → cond b (Some u) None ≡ Some w → In (neighbours mesh v) w
      by true l h = near (nearest_in (neighbours mesh v) v)
        where
          is : u ≡ w
          is = ap (λ o. unwrap_or o 0) h

          near : In (v ∷ neighbours mesh v) u → In (neighbours mesh v) w
          near (inl p) = absurd (false≢true (sym (grind (arith, nat_tests, ap (distance mesh area) p)) ∙ l))
          near (inr q) = subst (In (neighbours mesh v)) is q
      by false l h = absurd (cc)

  pub start_in : (s : ℕ) → start mesh area ≡ Some s → In (surface mesh) s
  start_in s e = by (surface mesh) refl e
    where
      by : (xs : List ℕ) → xs ≡ surface mesh → nearest mesh area xs ≡ Some s → In (surface mesh) s
      by [] p h = absurd (cc)
      by (x ∷ xs) p h =
          let w = unwrap_or (nearest mesh area xs) x in
          let m = pick x xs (is_nearer mesh area w x) w (nearest_in xs x) in
          subst (λ l. In l s) p (subst (In (x ∷ xs)) (ap (λ o. unwrap_or o 0) h) m)

  pub next_vertex : (v w : ℕ) → next mesh area v ≡ Some w → is_vertex mesh.cells w ≡ true
  next_vertex v w e =
      let n = In-filter (are_neighbours mesh.cells v) (numbers mesh) w (next_in v w e) in
      any_from (λ c. has_corner c v && has_corner c w) (λ c. has_corner c w) (live mesh.cells) (λ c h. and_right (has_corner c v) (has_corner c w) h)
      (and_right (not (eqb v w)) (list_any (λ c. has_corner c v && has_corner c w) (live mesh.cells)) n.0)

sq_zero : (n : ℕ) → n * n ≡ 0 → n ≡ 0
sq_zero n e = grind arith

gap_zero : (low high c : ℤ) → gap low high c ≡ 0 → is_between low high c ≡ true
gap_zero low high c e = grind (arith, ints)

pub both_true : (a b : Bool) → a ≡ true → b ≡ true → (a && b) ≡ true
both_true true b e f = f
both_true false b e f = e

pub distance_zero : (area : Area) (p : Place) → dist2 area p ≡ 0 → is_inside area p ≡ true
distance_zero area p e =
    let x = gap area.lo.0 area.hi.0 p.0 in
    let y = gap area.lo.1 area.hi.1 p.1 in
    let z = gap area.lo.2 area.hi.2 p.2 in
    let ex : x * x ≡ 0 = omega arith in
    let ey : y * y ≡ 0 = omega arith in
    let ez : z * z ≡ 0 = omega arith in
    both_true _ _ (both_true _ _ (gap_zero area.lo.0 area.hi.0 p.0 (sq_zero x ex)) (gap_zero area.lo.1 area.hi.1 p.1 (sq_zero y ey)))
    (gap_zero area.lo.2 area.hi.2 p.2 (sq_zero z ez))

face_corner : (a b c v : ℕ) → is_on (face_of a b c) v ≡ true → ((eqb a v || eqb b v) || eqb c v) ≡ true
face_corner a b c v h = grind (arith, nat_tests)

pub any-flat_map : {X Y : Type 0} (p : Y → Bool) (f : X → List Y) (xs : List X) → list_any p (flat_map f xs) ≡ list_any (λ x. list_any p (f x)) xs
any-flat_map p f [] = refl
any-flat_map p f (x ∷ xs) = list_any-append p (f x) (flat_map f xs) ∙ ap (λ b. list_any p (f x) || b) (any-flat_map p f xs)

part : {H : Type 0} (b g r : Bool) → (b ≡ true → H) → (r ≡ true → H) → ((b && g) || r) ≡ true → H
part true g r f k h = f refl
part false g r f k h = k h

drop0 : (a b c d : Bool) → ((b || c) || d) ≡ true → (((a || b) || c) || d) ≡ true
drop0 true b c d h = refl
drop0 false b c d h = h

drop1 : (a b c d : Bool) → ((a || c) || d) ≡ true → (((a || b) || c) || d) ≡ true
drop1 true b c d h = refl
drop1 false true c d h = refl
drop1 false false c d h = h

drop2 : (a b c d : Bool) → ((a || b) || d) ≡ true → (((a || b) || c) || d) ≡ true
drop2 a b true d h = grind arith
drop2 a b false d h = grind arith

drop3 : (a b c d : Bool) → ((a || b) || c) ≡ true → (((a || b) || c) || d) ≡ true
drop3 a b c d h = ap (λ k. k || d) h

pub faces_corner : (c : Corners) (v : ℕ) (g : Face → Bool) → list_any (λ f. is_on f v && g f) (faces c) ≡ true → has_corner c v ≡ true
faces_corner c v g h =
    part _ _ _ (λ e. drop0 (eqb c.0 v) (eqb c.1 v) (eqb c.2 v) (eqb c.3 v) (face_corner c.1 c.2 c.3 v e))
    (part _ _ _ (λ e. drop1 (eqb c.0 v) (eqb c.1 v) (eqb c.2 v) (eqb c.3 v) (face_corner c.0 c.2 c.3 v e))
    (part _ _ _ (λ e. drop2 (eqb c.0 v) (eqb c.1 v) (eqb c.2 v) (eqb c.3 v) (face_corner c.0 c.1 c.3 v e))
    (part _ _ _ (λ e. drop3 (eqb c.0 v) (eqb c.1 v) (eqb c.2 v) (eqb c.3 v) (face_corner c.0 c.1 c.2 v e)) (λ e. absurd (false≢true e))))) h

pub surface_vertex : (cells : List (Option Corners)) (v : ℕ) → is_surface cells v ≡ true → is_vertex cells v ≡ true
surface_vertex cells v h =
    let p = λ (f : Face). is_on f v && (eqb (count cells f) 1) in
    any_from (λ c. list_any p (faces c)) (λ c. has_corner c v) (live cells) (λ c. faces_corner c v (λ f. eqb (count cells f) 1)) (sym (any-flat_map p faces (live cells)) ∙ h)

In-drop : (k : ℕ) (xs : List ℕ) (v : ℕ) → In (drop k xs) v → In xs v
In-drop zero xs v h = h
In-drop (suc k) [] v h = h
In-drop (suc k) (x ∷ xs) v h = inr (In-drop k xs v h)

not_probe : (n : ℕ) (c : Bool) → n ≡ 0 → Probe ≡ cond (eqb n 0) (cond c Scan Walk) Probe → ⊥
not_probe n c e h = by c (h ∙ ap (λ k. cond (eqb k 0) (cond c Scan Walk) Probe) e)
  where
    by : (c : Bool) → Probe ≡ cond c Scan Walk → ⊥
    by true h = cc
    by false h = cc

of_walk : (b c : Bool) → Walk ≡ cond b (cond c Scan Walk) Probe → (b ≡ true) × (c ≡ false)
of_walk true true h = absurd (cc)
of_walk true false h = (refl, refl)
of_walk false c h = absurd (cc)

module _ (mesh : MeshView) (area : Area) where
  abbrev IsPoint : ℕ → Type 0
  IsPoint w = (is_vertex mesh.cells w ≡ true) × In (numbers mesh) w

  walk_points : (n : ℕ) (o : Option ℕ) → ((v : ℕ) → o ≡ Some v → IsPoint v) → (w : ℕ) → In (walk_of_most mesh area n o) w → IsPoint w
  walk_points zero o f w h = absurd h
  walk_points (suc n) None f w h = absurd h
  walk_points (suc n) (Some v) f w (inl e) = subst IsPoint e (f v refl)
  walk_points (suc n) (Some v) f w (inr h) =
      walk_points n (next mesh area v) (λ u e. (next_vertex mesh area v u e, (In-filter (are_neighbours mesh.cells v) (numbers mesh) u (next_in mesh area v u e)).1)) w h

  start_point : (v : ℕ) → start mesh area ≡ Some v → IsPoint v
  start_point v e =
      let m = In-filter (is_surface mesh.cells) (numbers mesh) v (start_in mesh area v e) in
      (surface_vertex mesh.cells v m.0, m.1)

  walked_points : (w : ℕ) → In (walked mesh area) w → IsPoint w
  walked_points w h = by (eqb (length (probed mesh area)) 0) (start mesh area) refl h
    where
      by : (b : Bool) (o : Option ℕ) → o ≡ start mesh area → In (cond b (option_map_or (λ v. walk_of_most mesh area (suc (distance mesh area v)) (Some v)) o []) []) w → IsPoint w
      by true None e m = absurd m
      by true (Some v) e m = walk_points (suc (distance mesh area v)) (Some v) (λ u q. start_point u (sym e ∙ q)) w m
      by false o e m = absurd m

  -- the walk's end, if it is inside, is in the scan
  pub arrived_in : (s : ℕ) → Contains (arrived mesh area) s → Contains (scan mesh area) s
  arrived_in s c =
      let m = In-filter (λ v. eqb (distance mesh area v) 0) (drop (length (walked mesh area) - 1) (walked mesh area)) s (In-from_Contains _ s c) in
      let p = walked_points s (In-drop (length (walked mesh area) - 1) (walked mesh area) s m.1) in
      to_scan mesh area s (both_true _ _ p.0 (distance_zero area (place mesh s) (grind (arith, nat_tests, m.0)))) p.1

  -- where the box is covered, the answer is the scan
  pub answer_complete : (r : Route) (vs : List ℕ) → IsAnswer mesh area r vs → IsCovered mesh area → vs ≡ scan mesh area
  answer_complete Scan vs h cover = h.1
  answer_complete Probe vs h (inl each) = complete mesh area (probed mesh area) vs h.1 (joined_to_probed mesh area each)
  answer_complete Probe vs h (inr all) = by (probed mesh area) refl
    where
      by : (xs : List ℕ) → xs ≡ probed mesh area → vs ≡ scan mesh area
      by [] e = absurd (not_probe (length (probed mesh area)) (eqb (length (arrived mesh area)) 0) (sym (ap length e)) h.0)
      by (s ∷ ss) e =
          let m : In (probed mesh area) s = subst (λ l. In l s) e (inl refl) in
          complete mesh area (probed mesh area) vs h.1 (one_part mesh area (probed mesh area) s (Contains-from_In _ s m) (from_probed mesh area s m) all)
  answer_complete Walk vs h (inl each) =
      let none : length (probed mesh area) ≡ 0 = grind (arith, nat_tests, (of_walk _ _ h.0).0) in
      complete mesh area (arrived mesh area) vs h.1 (λ v m. let j = joined_to_probed mesh area each v m in let k = j.1.1 in absurd (omega arith))
  answer_complete Walk vs h (inr all) = by (arrived mesh area) refl
    where
      by : (xs : List ℕ) → xs ≡ arrived mesh area → vs ≡ scan mesh area
      by [] e = absurd (true≢false (ap (λ l. eqb (length l) 0) e ∙ (of_walk _ _ h.0).1))
      by (s ∷ ss) e =
          let m : Contains (arrived mesh area) s = Contains-from_In _ s (subst (λ l. In l s) e (inl refl)) in
          complete mesh area (arrived mesh area) vs h.1 (one_part mesh area (arrived mesh area) s m (arrived_in s m) all)
