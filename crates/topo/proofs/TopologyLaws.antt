-- lemmas on topologies, and on the lists of cells of which tables are those
use Rattle.std.proofs.Common.{◌≡◌, ℕ, ◌+◌, ◌-◌, ◌<◌, ◌≤◌, Bool, true, false, eqb, not, List, [], ◌∷◌, ◌++◌, length, get_or, set, take, filter, drop, pos, ◌↔◌, Option, Some, None, IfSome, IsSome, IsTrue, option_and_then, refl, sym, ap, subst, ◌∙◌, arith, length-append}
use Rattle.std.proofs.lemmas.List.{length-set, length-replicate, take-append-le, drop-take, take_all, get_or_append_left, get_or-append-add}
use Rattle.std.proofs.Math.ListN.{replicate}
use Rattle.std.proofs.Math.Seq.{drop-append_seam}
use Rattle.std.proofs.lemmas.Option.{slice_get-get_or}
use Rattle.std.proofs.lemmas.List.Elements.{All-set, All-push}
use Rattle.std.specs.List.{range_with_len}
use Rattle.std.specs.Option.{option_map_or}
use Rattle.mesh_base.specs.Mesh.{MeshView, Corners, IsMesh, IsWithin, AreWithin, AreDifferent, AreAllDifferent, is_vertex, are_neighbours, neighbours}
use Rattle.mesh_base.specs.Place.{Place}
use Rattle.mesh_base.specs.Edit.{cell_at, split_cells, EditFits}
use Rattle.mesh_base.specs.declared.edit.Edit.{Edit}
use Rattle.mesh_base.specs.declared.edit.Edit.TheVariants.{Split}
use Rattle.mesh_base.proofs.EditLaws.{keeps}
use Rattle.mesh_base.proofs.NumberLaws.{vertex_point, has_neighbours}
use Rattle.face_table.specs.Tally.{Tally, IsTallyOf}
use Rattle.edge_table.specs.Pairs.{RowView, IsPairsOf}
use Rattle.topo.specs.Topology.{Topology, IsTopologyOf, IsTopology, Fits}
use Rattle.topo.specs.Tables.{AreTables, IsRowAt}

-- what a topology says of each mesh that has it
pub neighbours_of : (mesh : MeshView) (t : Topology) (v : ℕ) → IsTopologyOf mesh t → filter (are_neighbours t.cells v) (range_with_len 0 t.points) ≡ neighbours mesh v
neighbours_of mesh t v h = ap (λ cells. filter (are_neighbours cells v) (range_with_len 0 t.points)) (sym h.1) ∙ ap (λ n. filter (are_neighbours mesh.cells v) (range_with_len 0 n)) (sym h.0)

pub mesh_of : (mesh : MeshView) (t : Topology) → IsTopologyOf mesh t → IsTopology t.points t.cells → IsMesh mesh.points mesh.cells
mesh_of mesh t h valid = record {
  few_points = omega (arith, h.0, valid.few_points);
  few_cells = omega (arith, ap length h.1, valid.few_cells);
  within = subst (λ n. AreWithin n mesh.cells) (sym h.0) (subst (AreWithin t.points) (sym h.1) valid.within);
  different = subst AreAllDifferent (sym h.1) valid.different;
}

-- a number past the points is no vertex
pub no_vertex : (n : ℕ) (cells : List (Option Corners)) → AreWithin n cells → is_vertex cells n ≡ false
no_vertex n cells a = by (is_vertex cells n) refl
  where
    by : (b : Bool) → is_vertex cells n ≡ b → b ≡ false
    by false e = refl
    by true e = let lt = vertex_point n cells n a e in absurd (omega arith)

-- what a topology keeps
pub IsTopology-push : (n : ℕ) (cells : List (Option Corners)) (c : Corners) → length cells < 4000000 → IsWithin n c → AreDifferent c → IsTopology n cells → IsTopology n (cells ++ Some c ∷ [])
IsTopology-push n cells c lt w d valid = record {
  few_points = valid.few_points;
  few_cells = omega (arith, length-append cells (Some c ∷ []));
  within = All-push (λ cell. IfSome cell (IsWithin n)) cells (Some c) valid.within w;
  different = All-push (λ cell. IfSome cell AreDifferent) cells (Some c) valid.different d;
}

pub IsTopology-remove : (n : ℕ) (cells : List (Option Corners)) (i : ℕ) → IsTopology n cells → IsTopology n (set cells i None)
IsTopology-remove n cells i valid = record {
  few_points = valid.few_points;
  few_cells = omega (arith, length-set cells i None, valid.few_cells);
  within = All-set (λ cell. IfSome cell (IsWithin n)) cells i None tt valid.within;
  different = All-set (λ cell. IfSome cell AreDifferent) cells i None tt valid.different;
}

pub cell_at-index : (cells : List (Option Corners)) (i : ℕ) (o : Option Corners) → i < length cells → o ≡ get_or cells i o → cell_at cells i ≡ o
cell_at-index cells i o lt e = ap (option_and_then (λ cell. cell)) (slice_get-get_or cells i o lt) ∙ sym e

pub cell_at-push : (cells : List (Option Corners)) (c : Corners) → cell_at (cells ++ Some c ∷ []) (length cells) ≡ Some c
cell_at-push [] c = refl
cell_at-push (d ∷ cells) c = cell_at-push cells c

-- there is a mesh with each topology
origin : Place
origin = (pos 0, pos 0, pos 0)

mesh_with : Topology → MeshView
mesh_with t = record { points = replicate t.points origin; cells = t.cells }

has_mesh : (t : Topology) → IsTopologyOf (mesh_with t) t
unfolding mesh_with
has_mesh t = (length-replicate t.points origin, refl)

pub fits_one : (t : Topology) (edit : Edit) (b : Bool) → ((mesh : MeshView) → IsTopologyOf mesh t → IsTrue b ↔ EditFits mesh edit) → IsTrue b ↔ Fits t edit
fits_one t edit b each = (
  λ h. (mesh_with t, has_mesh t, (each (mesh_with t) (has_mesh t)).0 h),
  λ fits. (each fits.0 fits.1).1 fits.2,
)

-- a split keeps a topology within its limits, as it keeps each mesh
IsTopology-split : (n : ℕ) (cells : List (Option Corners)) (i : ℕ) (c : Corners) → cell_at cells i ≡ Some c → n < 1000000 → length cells ≤ 3999996 → IsTopology n cells → IsTopology (n + 1) (split_cells cells n i c)
unfolding mesh_with
IsTopology-split n cells i c at few_points few_cells valid =
    let t : Topology = record { points = n; cells = cells } in
    let mesh = mesh_with t in
    let len : length mesh.points ≡ n = length-replicate n origin in
    let more = length-append mesh.points (origin ∷ []) in
    let m = keeps mesh (Split i origin) (mesh_of mesh t (has_mesh t) valid) (subst IsSome (sym at) refl, omega arith, few_cells) in
    let same : option_map_or (split_cells cells (length mesh.points) i) (cell_at cells i) cells ≡ split_cells cells n i c =
    ap (λ o. option_map_or (split_cells cells (length mesh.points) i) o cells) at ∙ ap (λ k. split_cells cells k i c) len in
    record {
      few_points = omega arith;
      few_cells = let f = m.few_cells in omega (arith, ap length same);
      within = subst (λ k. AreWithin k (split_cells cells n i c)) (more ∙ ap (λ k. k + 1) len) (subst (AreWithin (length (mesh.points ++ origin ∷ []))) same m.within);
      different = subst AreAllDifferent same m.different;
    }

-- a part of a list stays as it is while the list grows
part-append : (a b : ℕ) (xs ys : List ℕ) → a ≤ b → b ≤ length xs → take (b - a) (drop a (xs ++ ys)) ≡ take (b - a) (drop a xs)
part-append a b xs ys le h = sym (drop-take a (b - a) (xs ++ ys)) ∙ ap (drop a) (take-append-le (a + (b - a)) xs ys (omega arith)) ∙ drop-take a (b - a) xs

pub row-kept : (starts near more row : List ℕ) (v u e : ℕ) → length starts ≡ v + 1 → u < v → IsRowAt starts near u row → IsRowAt (starts ++ e ∷ []) (near ++ more) u row
row-kept starts near more row v u e len lt h =
    let a = get_or_append_left starts (e ∷ []) 0 u (omega arith) in
    let b = get_or_append_left starts (e ∷ []) 0 (u + 1) (omega arith) in
    record {
      ordered = omega (arith, a, b, h.ordered);
      ends = omega (arith, b, h.ends, length-append near more);
      part = rw (a, b) (part-append (get_or starts u 0) (get_or starts (u + 1) 0) near more h.ordered h.ends ∙ h.part);
    }

pub row-new : (starts near more : List ℕ) (v e : ℕ) → length starts ≡ v + 1 → get_or starts v 0 ≡ length near → e ≡ length (near ++ more) → IsRowAt (starts ++ e ∷ []) (near ++ more) v more
row-new starts near more v e len from to =
    let a : get_or (starts ++ e ∷ []) v 0 ≡ length near = get_or_append_left starts (e ∷ []) 0 v (omega arith) ∙ from in
    let i : v + 1 ≡ length starts + 0 = omega arith in
    let b : get_or (starts ++ e ∷ []) (v + 1) 0 ≡ e = ap (λ k. get_or (starts ++ e ∷ []) k 0) i ∙ get_or-append-add starts (e ∷ []) 0 0 in
    let l = length-append near more in
    let n : length more ≤ e - length near = omega arith in
    record {
      ordered = omega (arith, a, b, l, to);
      ends = omega (arith, b, to);
      part = rw (a, b, drop-append_seam near more) (take_all (e - length near) more n);
    }

pub start-new : (starts : List ℕ) (v e : ℕ) → length starts ≡ v + 1 → get_or (starts ++ e ∷ []) (v + 1) 0 ≡ e
start-new starts v e len =
    let i : v + 1 ≡ length starts + 0 = omega arith in
    ap (λ k. get_or (starts ++ e ∷ []) k 0) i ∙ get_or-append-add starts (e ∷ []) 0 0

-- both tables after each step
module _ (n : ℕ) (cells : List (Option Corners)) (faces newer_faces : Tally) (edges newer_edges : List RowView) (tables : AreTables n cells faces edges) where
  pub AreTables-remove : (i : ℕ) → IsTallyOf (set cells i None) newer_faces → IsPairsOf (set cells i None) newer_edges → newer_faces.points ≡ faces.points → length newer_edges ≡ length edges → AreTables n (set cells i None) newer_faces newer_edges
  AreTables-remove i t p fp ep = record {
    valid = IsTopology-remove n cells i tables.valid;
    tally = t;
    pairs = p;
    face_points = fp ∙ tables.face_points;
    edge_points = ep ∙ tables.edge_points;
  }

  pub AreTables-push : (c : Corners) → length cells < 4000000 → IsWithin n c → AreDifferent c → IsTallyOf (cells ++ Some c ∷ []) newer_faces → IsPairsOf (cells ++ Some c ∷ []) newer_edges → newer_faces.points ≡ faces.points → length newer_edges ≡ length edges → AreTables n (cells ++ Some c ∷ []) newer_faces newer_edges
  AreTables-push c few w d t p fp ep = record {
    valid = IsTopology-push n cells c few w d tables.valid;
    tally = t;
    pairs = p;
    face_points = fp ∙ tables.face_points;
    edge_points = ep ∙ tables.edge_points;
  }

  pub AreTables-split : (i : ℕ) (c : Corners) → cell_at cells i ≡ Some c → n < 1000000 → length cells ≤ 3999996 → IsTallyOf (split_cells cells n i c) newer_faces → IsPairsOf (split_cells cells n i c) newer_edges
      → newer_faces.points ≡ n + 1 → length newer_edges ≡ n + 1 → AreTables (n + 1) (split_cells cells n i c) newer_faces newer_edges
  AreTables-split i c at few_points few_cells t p fp ep = record {
    valid = IsTopology-split n cells i c at few_points few_cells tables.valid;
    tally = t;
    pairs = p;
    face_points = fp;
    edge_points = ep;
  }

-- a vertex is a point that has neighbours
pub vertex_of : (n v : ℕ) (cells : List (Option Corners)) (row : List ℕ) → IsTopology n cells → row ≡ filter (are_neighbours cells v) (range_with_len 0 n) → not (eqb (length row) 0) ≡ is_vertex cells v
unfolding mesh_with
vertex_of n v cells row valid e =
    let t : Topology = record { points = n; cells = cells } in
    ap (λ l. not (eqb (length l) 0)) (e ∙ neighbours_of (mesh_with t) t v (has_mesh t)) ∙ has_neighbours (mesh_with t) v (mesh_of (mesh_with t) t (has_mesh t) valid)
