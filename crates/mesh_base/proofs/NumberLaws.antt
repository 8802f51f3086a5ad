-- what the lists of a mesh's numbers have
use Rattle.std.proofs.Common.{◌≡◌, ◌≢◌, ℕ, ◌<◌, Bool, true, false, eqb, not, ◌&&◌, ◌||◌, inl, inr, List, [], ◌∷◌, length, filter, Option, Some, None, IfSome, Contains, refl, sym, ap, ◌∙◌, arith}
use Rattle.std.proofs.lemmas.Bool.{false≢true}
use Rattle.std.proofs.lemmas.Bool.Decides.{nat_tests}
use Rattle.std.proofs.lemmas.List.Elements.{recursion_from_All}
use Rattle.std.specs.List.{list_any, AllByRecursion}
use Rattle.mesh_base.specs.Place.{Area, is_inside}
use Rattle.mesh_base.specs.Mesh.{MeshView, Corners, IsWithin, AreWithin, AreDifferent, IsMesh, has_corner, live, is_vertex, is_surface, numbers, vertices, surface, are_neighbours, neighbours, place}
use Rattle.mesh_base.specs.Scan.{is_in, scan}
use Rattle.mesh_base.proofs.Ascending.{In, In-from_Contains, Contains-from_In, In-filter, filter-In, In-range, range-In}
use Rattle.mesh_base.proofs.AnswerLaws.{any_from, and_left, and_right, surface_vertex}
use Rattle.mesh_base.proofs.JoinedLaws.{both_and, or_right, or_cases, neighbours-sym}

-- the members of a filter of the numbers
pub of_numbers : (mesh : MeshView) (p : ℕ → Bool) (v : ℕ) → Contains (filter p (numbers mesh)) v → (p v ≡ true) × (v < length mesh.points)
of_numbers mesh p v m =
    let h = In-filter p (numbers mesh) v (In-from_Contains _ v m) in
    let r = In-range 0 (length mesh.points) v h.1 in
    (h.0, omega arith)

pub to_numbers : (mesh : MeshView) (p : ℕ → Bool) (v : ℕ) → p v ≡ true → v < length mesh.points → Contains (filter p (numbers mesh)) v
to_numbers mesh p v e lt = Contains-from_In _ v (filter-In p (numbers mesh) v e (range-In 0 (length mesh.points) v (omega arith) (omega arith)))

pub of_vertices : (mesh : MeshView) (v : ℕ) → Contains (vertices mesh) v → (is_vertex mesh.cells v ≡ true) × (v < length mesh.points)
of_vertices mesh v m = of_numbers mesh (is_vertex mesh.cells) v m

pub of_neighbours : (mesh : MeshView) (v w : ℕ) → Contains (neighbours mesh v) w → (are_neighbours mesh.cells v w ≡ true) × (w < length mesh.points)
of_neighbours mesh v w m = of_numbers mesh (are_neighbours mesh.cells v) w m

pub surface_point : (mesh : MeshView) (v : ℕ) → Contains (surface mesh) v → (v < length mesh.points) × (is_vertex mesh.cells v ≡ true)
surface_point mesh v m = let h = of_numbers mesh (is_surface mesh.cells) v m in (h.1, surface_vertex mesh.cells v h.0)

pub surface_vertices : (mesh : MeshView) (v : ℕ) → Contains (surface mesh) v → Contains (vertices mesh) v
surface_vertices mesh v m = let h = surface_point mesh v m in to_numbers mesh (is_vertex mesh.cells) v h.1 h.0

-- a corner of a live cell is a point
corner_point : (n : ℕ) (c : Corners) (v : ℕ) → IsWithin n c → has_corner c v ≡ true → v < n
corner_point n c v w h = grind (arith, nat_tests)

pub vertex_point : (n : ℕ) (cells : List (Option Corners)) (v : ℕ) → AreWithin n cells → is_vertex cells v ≡ true → v < n
vertex_point n cells v a h = by cells (recursion_from_All (λ cell. IfSome cell (IsWithin n)) cells a) h
  where
    by : (cells : List (Option Corners)) → AllByRecursion (λ cell. IfSome cell (IsWithin n)) cells → is_vertex cells v ≡ true → v < n
    by [] a h = absurd (false≢true h)
    by (None ∷ cells) a h = by cells a.1 h
    by (Some c ∷ cells) a h = elim (or_cases (has_corner c v) (is_vertex cells v) h) [ inl e ↦ corner_point n c v a.0 e | inr e ↦ by cells a.1 e ]

-- a neighbour is a vertex
pub neighbour_vertex : (mesh : MeshView) (v w : ℕ) → are_neighbours mesh.cells v w ≡ true → is_vertex mesh.cells w ≡ true
neighbour_vertex mesh v w h =
    any_from (λ c. has_corner c v && has_corner c w) (λ c. has_corner c w) (live mesh.cells) (λ c e. and_right (has_corner c v) (has_corner c w) e)
    (and_right (not (eqb v w)) (list_any (λ c. has_corner c v && has_corner c w) (live mesh.cells)) h)

pub neighbours-sym_list : (mesh : MeshView) (v w : ℕ) → IsMesh mesh.points mesh.cells → Contains (neighbours mesh v) w → Contains (neighbours mesh w) v
neighbours-sym_list mesh v w valid m =
    let h = of_neighbours mesh v w m in
    let back = neighbours-sym mesh.cells v w h.0 in
    to_numbers mesh (are_neighbours mesh.cells w) v back (vertex_point (length mesh.points) mesh.cells v valid.within (neighbour_vertex mesh w v back))

module _ (mesh : MeshView) (area : Area) where
  pub of_scan : (w : ℕ) → Contains (scan mesh area) w → (is_in mesh area w ≡ true) × (w < length mesh.points)
  of_scan w m = of_numbers mesh (is_in mesh area) w m

  pub to_scan : (w : ℕ) → is_in mesh area w ≡ true → w < length mesh.points → Contains (scan mesh area) w
  to_scan w e lt = to_numbers mesh (is_in mesh area) w e lt

  -- a neighbour is inside where its place is
  pub inside_in : (v w : ℕ) → are_neighbours mesh.cells v w ≡ true → is_inside area (place mesh w) ≡ true → is_in mesh area w ≡ true
  inside_in v w n i = both_and (is_vertex mesh.cells w) (is_inside area (place mesh w)) (neighbour_vertex mesh v w n) i

  pub in_inside : (w : ℕ) → is_in mesh area w ≡ true → is_inside area (place mesh w) ≡ true
  in_inside w h = and_right (is_vertex mesh.cells w) (is_inside area (place mesh w)) h

  -- and so is a surface vertex
  pub surface_in : (v : ℕ) → Contains (surface mesh) v → is_in mesh area v ≡ is_inside area (place mesh v)
  surface_in v m = ap (λ b. b && is_inside area (place mesh v)) (surface_point mesh v m).1

-- another corner of the cell
other : (n : ℕ) (c : Corners) (v : ℕ) → IsWithin n c → AreDifferent c → (w : ℕ) × (w < n) × (v ≢ w) × (has_corner c w ≡ true)
other n c v within different = by (eqb c.0 v) refl
  where
    first : has_corner c c.0 ≡ true
    first = grind (arith, nat_tests)

    second : has_corner c c.1 ≡ true
    second = grind (arith, nat_tests)

    by : (b : Bool) → eqb c.0 v ≡ b → (w : ℕ) × (w < n) × (v ≢ w) × (has_corner c w ≡ true)
    by true e = (c.1, within.1, λ q. different.0 (grind (arith, nat_tests)), second)
    by false e = (c.0, within.0, λ q. grind (arith, nat_tests), first)

module _ (n v : ℕ) where
  abbrev Other : List (Option Corners) → Type 0
  Other cells = (w : ℕ) × (w < n) × (v ≢ w) × (list_any (λ c. has_corner c v && has_corner c w) (live cells) ≡ true)

  other_vertex : (cells : List (Option Corners)) → AllByRecursion (λ cell. IfSome cell (IsWithin n)) cells → AllByRecursion (λ cell. IfSome cell AreDifferent) cells → is_vertex cells v ≡ true → Other cells
  other_vertex [] a b h = absurd (false≢true h)
  other_vertex (None ∷ cells) a b h = other_vertex cells a.1 b.1 h
  other_vertex (Some c ∷ cells) a b h = by (has_corner c v) refl (other_vertex cells a.1 b.1)
    where
      more : Other cells → Other (Some c ∷ cells)
      more (w, lt, ne, e) = (w, lt, ne, or_right (has_corner c v && has_corner c w) (list_any (λ c. has_corner c v && has_corner c w) (live cells)) e)

      by : (t : Bool) → has_corner c v ≡ t → (is_vertex cells v ≡ true → Other cells) → Other (Some c ∷ cells)
      by true e rest =
          let o = other n c v a.0 b.0 in
          (o.0, o.1, o.2, ap (λ t. t || list_any (λ c. has_corner c v && has_corner c o.0) (live cells)) (both_and (has_corner c v) (has_corner c o.0) e o.3))
      by false e rest = more (rest (sym (ap (λ t. t || is_vertex cells v) e) ∙ h))

differ : (v w : ℕ) → v ≢ w → not (eqb v w) ≡ true
differ v w d = grind (arith, nat_tests)

has_some : (xs : List ℕ) (w : ℕ) → In xs w → eqb (length xs) 0 ≡ false
has_some [] w h = absurd h
has_some (x ∷ xs) w h = grind (arith, nat_tests)

head_of : (xs : List ℕ) → eqb (length xs) 0 ≡ false → (w : ℕ) × In xs w
head_of [] h = absurd (false≢true (sym h))
head_of (x ∷ xs) h = (x, inl refl)

by_bool : (a b : Bool) → (a ≡ true → b ≡ false) → (b ≡ false → a ≡ true) → not b ≡ a
by_bool true b f g = ap not (f refl)
by_bool false true f g = refl
by_bool false false f g = absurd (false≢true (g refl))

-- in a valid mesh the vertices are the points that have neighbours
pub has_neighbours : (mesh : MeshView) (v : ℕ) → IsMesh mesh.points mesh.cells → not (eqb (length (neighbours mesh v)) 0) ≡ is_vertex mesh.cells v
has_neighbours mesh v valid = by_bool (is_vertex mesh.cells v) (eqb (length (neighbours mesh v)) 0)
    (λ h. let o = other_vertex (length mesh.points) v mesh.cells (recursion_from_All _ mesh.cells valid.within) (recursion_from_All _ mesh.cells valid.different) h in
    has_some (neighbours mesh v) o.0 (filter-In (are_neighbours mesh.cells v) (numbers mesh) o.0 (both_and _ _ (differ v o.0 o.2) o.3) (range-In 0 (length mesh.points) o.0 (omega arith) (omega arith))))
    (λ h. let w = head_of (neighbours mesh v) h in
    let f = In-filter (are_neighbours mesh.cells v) (numbers mesh) w.0 w.1 in
    any_from (λ c. has_corner c v && has_corner c w.0) (λ c. has_corner c v) (live mesh.cells) (λ c e. and_left (has_corner c v) (has_corner c w.0) e)
    (and_right (not (eqb v w.0)) (list_any (λ c. has_corner c v && has_corner c w.0) (live mesh.cells)) f.0))
