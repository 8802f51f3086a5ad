-- which chunks an edit leaves as they are
use Rattle.std.proofs.Common.{◌≡◌, ◌≢◌, ◌⊎◌, inl, inr, ℕ, zero, suc, ◌+◌, ◌*◌, ◌-◌, ◌/◌, ◌<◌, ◌≤◌, Bool, true, false, not, eqb, ◌&&◌, ◌||◌, List, [], ◌∷◌, ◌++◌, length, set, take, drop, filter, Option, Some, None, refl, sym, ap, subst, ◌∙◌, arith, length-append}
use Rattle.std.proofs.lemmas.List.{length-set, take-append-le, drop-append-le, length-drop, length-take, drop-set-lt, drop-set-add, take-set-le}
use Rattle.std.proofs.lemmas.Bool.{ne_eqb}
use Rattle.std.specs.List.{list_any, range_with_len}
use Rattle.std.specs.Option.{IsSome, option_map_or}
use Rattle.mesh_base.specs.Mesh.{MeshView, corners_of, Corners, AreWithin, has_corner, live, are_neighbours}
use Rattle.mesh_base.specs.Edit.{cell_at, quarters, split_cells, edited, EditFits}
use Rattle.mesh_base.specs.declared.edit.Edit.{Edit}
use Rattle.mesh_base.specs.declared.edit.Edit.TheVariants.{Point, Add, Remove, Split}
use Rattle.mesh_base.proofs.CellLists.{filter-range_more}
use Rattle.topo.specs.Topology.{Topology}
use Rattle.topo.specs.Chunks.{chunk_of, Each, Kept}
use Rattle.topo.specs.RowChunks.{RowsView, row_of, HasRow, IsRowChunk}
use Rattle.topo.specs.Shapes.{AreKeptCells, AreKeptRows, topology_of, touched_by, left_rows, left_corners}
use Rattle.topo.proofs.TopologyLaws.{no_vertex}
use Rattle.topo.proofs.ChunkLaws.{each-take}

-- P at each entry gives Q there
pub each-map : {C : Type 0} (P Q : ℕ → C → Type 0) (cs : List C) → ((k : ℕ) (c : C) → k < length cs → P k c → Q k c) → Each P cs → Each Q cs
each-map P Q [] f h k = tt
each-map P Q (x ∷ cs) f h zero = f zero x (omega arith) (h zero)
each-map P Q (x ∷ cs) f h (suc k) = each-map (λ j. P (suc j)) (λ j. Q (suc j)) cs (λ j c lt. f (suc j) c (omega arith)) (λ j. h (suc j)) k

-- entry m is left out, and elsewhere P gives Q
pub each-forget : {C : Type 0} (P Q : ℕ → C → Type 0) (cs : List (Option C)) (m : ℕ) → ((k : ℕ) (c : C) → k ≢ m → P k c → Q k c) → Each (Kept P) cs → Each (Kept Q) (set cs m None)
each-forget P Q [] m f h k = tt
each-forget P Q (x ∷ cs) zero f h zero = tt
each-forget {C = C} P Q (x ∷ cs) zero f h (suc k) = each-map (λ j. Kept P (suc j)) (λ j. Kept Q (suc j)) cs one (λ j. h (suc j)) k
  where
    one : (j : ℕ) (o : Option C) → j < length cs → Kept P (suc j) o → Kept Q (suc j) o
    one j None lt p = tt
    one j (Some c) lt p = f (suc j) c (λ e. omega arith) p
each-forget P Q (None ∷ cs) (suc m) f h zero = tt
each-forget P Q (Some c ∷ cs) (suc m) f h zero = f zero c (λ e. omega arith) (h zero)
each-forget P Q (x ∷ cs) (suc m) f h (suc k) = each-forget (λ j. P (suc j)) (λ j. Q (suc j)) cs m (λ j c ne. f (suc j) c (λ e. ne (omega arith))) (λ j. h (suc j)) k

-- chunks of a list that grows, and of one of which an entry changes
pub chunk-append : {A : Type 0} (xs ys : List A) (k : ℕ) → k < length xs / 4096 → chunk_of (xs ++ ys) k ≡ chunk_of xs k
chunk-append xs ys k lt =
    let d = drop-append-le (4096 * k) xs ys (omega arith) in
    let l = length-drop (4096 * k) xs in
    ap (take 4096) d ∙ take-append-le 4096 (drop (4096 * k) xs) ys (omega (arith, l))

pub chunk-set : {A : Type 0} (xs : List A) (i k : ℕ) (x : A) → k ≢ i / 4096 → chunk_of (set xs i x) k ≡ chunk_of xs k
chunk-set xs i k x ne = elim (side i k ne) [
  | inl before ↦ ap (take 4096) (drop-set-lt (4096 * k) xs i x before)
  | inr after ↦
      let e : i ≡ 4096 * k + (i - 4096 * k) = omega arith in
      ap (λ j. take 4096 (drop (4096 * k) (set xs j x))) e ∙ ap (take 4096) (drop-set-add (4096 * k) xs (i - 4096 * k) x) ∙ take-set-le 4096 (drop (4096 * k) xs) (i - 4096 * k) x (omega arith)
]
  where
    side : (i k : ℕ) → k ≢ i / 4096 → (i < 4096 * k) ⊎ (4096 * k + 4096 ≤ i)
    side i k ne = grind arith

-- what live cells say, with one more or one less that says nothing
pub any-more : (p : Corners → Bool) (cells more : List (Option Corners)) → list_any p (live more) ≡ false → list_any p (live (cells ++ more)) ≡ list_any p (live cells)
any-more p [] more e = e
any-more p (None ∷ cells) more e = any-more p cells more e
any-more p (Some d ∷ cells) more e = ap (λ b. p d || b) (any-more p cells more e)

pub any-set : (p : Corners → Bool) (cells : List (Option Corners)) (i : ℕ) (c : Corners) → cell_at cells i ≡ Some c → p c ≡ false → list_any p (live (set cells i None)) ≡ list_any p (live cells)
any-set p [] i c at e = absurd (cc)
any-set p (None ∷ cells) zero c at e = absurd (cc)
any-set p (Some d ∷ cells) zero c at e = let n : p d ≡ false = cc in ap (λ b. b || list_any p (live cells)) (sym n)
any-set p (None ∷ cells) (suc i) c at e = any-set p cells i c at e
any-set p (Some d ∷ cells) (suc i) c at e = ap (λ b. p d || b) (any-set p cells i c at e)

any-none : (p q : Corners → Bool) (cs : List Corners) → ((c : Corners) → p c ≡ false → q c ≡ false) → list_any p cs ≡ false → list_any q cs ≡ false
any-none p q [] f e = refl
any-none p q (c ∷ cs) f e =
    let n : p c ≡ false = first (p c) (list_any p cs) e in
    ap (λ b. b || list_any q cs) (f c n) ∙ any-none p q cs f (ap (λ b. b || list_any p cs) (sym n) ∙ e)
  where
    first : (a b : Bool) → (a || b) ≡ false → a ≡ false
    first false b e = refl
    first true b e = e

-- v is none of the four
abbrev pub IsOff : Corners → ℕ → Type 0
IsOff c v = (c.0 ≢ v) × (c.1 ≢ v) × (c.2 ≢ v) × (c.3 ≢ v)

pub off_corner : (c : Corners) (v : ℕ) → IsOff c v → has_corner c v ≡ false
off_corner c v h = rw (ne_eqb c.0 v h.0, ne_eqb c.1 v h.1, ne_eqb c.2 v h.2, ne_eqb c.3 v h.3) refl

filter-same : (p q : ℕ → Bool) → ((w : ℕ) → p w ≡ q w) → (l : List ℕ) → filter p l ≡ filter q l
filter-same p q f [] = refl
filter-same p q f (x ∷ l) = rw (f x, filter-same p q f l) refl

-- the cell has v and w
abbrev pub has_both : ℕ → ℕ → Corners → Bool
has_both v w c = has_corner c v && has_corner c w

both-off : (v w : ℕ) (c : Corners) → IsOff c v → has_both v w c ≡ false
both-off v w c off = ap (λ b. b && has_corner c w) (off_corner c v off)

-- the neighbours of v stay where v is on no cell that comes or goes
pub row-more : (n v : ℕ) (cells more : List (Option Corners)) → ((w : ℕ) → list_any (has_both v w) (live more) ≡ false) → row_of (record { points = n; cells = cells ++ more }) v ≡ row_of (record { points = n; cells = cells }) v
row-more n v cells more e = filter-same _ _ (λ w. ap (λ b. not (eqb v w) && b) (any-more (has_both v w) cells more (e w))) (range_with_len 0 n)

pub row-set : (n v i : ℕ) (cells : List (Option Corners)) (c : Corners) → cell_at cells i ≡ Some c → IsOff c v → row_of (record { points = n; cells = set cells i None }) v ≡ row_of (record { points = n; cells = cells }) v
row-set n v i cells c at off = filter-same _ _ (λ w. ap (λ b. not (eqb v w) && b) (any-set (has_both v w) cells i c at (both-off v w c off))) (range_with_len 0 n)

-- and where a point comes that no cell has
pub row-point : (n v : ℕ) (cells : List (Option Corners)) → AreWithin n cells → row_of (record { points = n + 1; cells = cells }) v ≡ row_of (record { points = n; cells = cells }) v
row-point n v cells within =
    let none : list_any (λ d. has_corner d v && has_corner d n) (live cells) ≡ false =
    any-none (λ d. has_corner d n) (λ d. has_corner d v && has_corner d n) (live cells) (λ d e. both (has_corner d v) (has_corner d n) e) (no_vertex n cells within) in
    let off : are_neighbours cells v n ≡ false = both (not (eqb v n)) _ none in
    filter-range_more (are_neighbours cells v) n ∙ rw off (append_nil (filter (are_neighbours cells v) (range_with_len 0 n)))
  where
    both : (a b : Bool) → b ≡ false → (a && b) ≡ false
    both true b e = e
    both false b e = refl

    append_nil : {A : Type 0} (l : List A) → l ++ [] ≡ l
    append_nil [] = refl
    append_nil (x ∷ l) = ap (λ r. x ∷ r) (append_nil l)

-- a chunk of rows stays where its rows do
pub row-chunk-stays : (t u : Topology) (k : ℕ) (rows : RowsView) → ((j : ℕ) → j < 4096 → 4096 * k + j < u.points → (4096 * k + j < t.points) × (row_of u (4096 * k + j) ≡ row_of t (4096 * k + j))) → IsRowChunk t k rows → IsRowChunk u k rows
row-chunk-stays t u k rows f h = record { each = λ j lt within. let s = f j lt within in subst (HasRow rows j) (sym s.1) (h.each j lt s.0) }

-- chunks of cells that are kept
module _ {C : Type 0} (cell_list : C → List (Option Corners)) (cells : List (Option Corners)) where
  pub cells-append : (more : List (Option Corners)) (kept : List (Option C)) → AreKeptCells cell_list cells kept → AreKeptCells cell_list (cells ++ more) (take (length cells / 4096) kept)
  cells-append more kept h =
      let m = length cells / 4096 in
      let P = Kept (λ k c. cell_list c ≡ chunk_of cells k) in
      let Q = Kept (λ k c. cell_list c ≡ chunk_of (cells ++ more) k) in
      each-map P Q (take m kept) one (each-take P m kept h)
    where
      one : (k : ℕ) (o : Option C) → k < length (take (length cells / 4096) kept) → Kept (λ k c. cell_list c ≡ chunk_of cells k) k o → Kept (λ k c. cell_list c ≡ chunk_of (cells ++ more) k) k o
      one k None lt p = tt
      one k (Some c) lt p = p ∙ sym (chunk-append cells more k (omega (arith, lt, length-take (length cells / 4096) kept)))

  pub cells-set : (i : ℕ) (x : Option Corners) (kept : List (Option C)) → AreKeptCells cell_list cells kept → AreKeptCells cell_list (set cells i x) (set kept (i / 4096) None)
  cells-set i x kept h = each-forget (λ k c. cell_list c ≡ chunk_of cells k) (λ k c. cell_list c ≡ chunk_of (set cells i x) k) kept (i / 4096) (λ k c ne p. p ∙ sym (chunk-set cells i k x ne)) h

pub cells-split : {C : Type 0} (cell_list : C → List (Option Corners)) (cells : List (Option Corners)) (n i m : ℕ) (o : Option Corners) (kept : List (Option C)) → length cells ≡ m → AreKeptCells cell_list cells kept → AreKeptCells cell_list (option_map_or (split_cells cells n i) o cells) (take (m / 4096) (set kept (i / 4096) None))
cells-split cell_list cells n i m None kept e h = each-take (Kept (λ k c. cell_list c ≡ chunk_of cells k)) (m / 4096) (set kept (i / 4096) None)
    (each-forget (λ k c. cell_list c ≡ chunk_of cells k) (λ k c. cell_list c ≡ chunk_of cells k) kept (i / 4096) (λ k c ne p. p) h)
cells-split cell_list cells n i m (Some c) kept e h =
    let len : length (set cells i None) ≡ m = length-set cells i None ∙ e in
    subst (λ k. AreKeptCells cell_list (set cells i None ++ quarters n c) (take (k / 4096) (set kept (i / 4096) None))) len
    (cells-append cell_list (set cells i None) (quarters n c) (set kept (i / 4096) None) (cells-set cell_list cells i None kept h))

-- chunks of neighbours that are kept
module _ {R : Type 0} (lists : R → RowsView) where
  pub rows-point : (n : ℕ) (cells : List (Option Corners)) (kept : List (Option R)) → AreWithin n cells → AreKeptRows lists (record { points = n; cells = cells }) kept → AreKeptRows lists (record { points = n + 1; cells = cells }) (take (n / 4096) kept)
  rows-point n cells kept within h =
      let t : Topology = record { points = n; cells = cells } in
      let u : Topology = record { points = n + 1; cells = cells } in
      each-map (Kept (λ k c. IsRowChunk t k (lists c))) (Kept (λ k c. IsRowChunk u k (lists c))) (take (n / 4096) kept) one (each-take (Kept (λ k c. IsRowChunk t k (lists c))) (n / 4096) kept h)
    where
      one : (k : ℕ) (o : Option R) → k < length (take (n / 4096) kept) → Kept (λ k c. IsRowChunk (record { points = n; cells = cells }) k (lists c)) k o → Kept (λ k c. IsRowChunk (record { points = n + 1; cells = cells }) k (lists c)) k o
      one k None lt p = tt
      one k (Some c) lt p = row-chunk-stays (record { points = n; cells = cells }) (record { points = n + 1; cells = cells }) k (lists c) (λ j jl w. (omega (arith, lt, jl, length-take (n / 4096) kept), row-point n (4096 * k + j) cells within)) p

  pub rows-corners : (t u : Topology) (c : Corners) (kept : List (Option R)) → ((k j : ℕ) → k < length kept → j < 4096 → 4096 * k + j < u.points → IsOff c (4096 * k + j) → (4096 * k + j < t.points) × (row_of u (4096 * k + j) ≡ row_of t (4096 * k + j))) → AreKeptRows lists t kept → AreKeptRows lists u (set (set (set (set kept (c.0 / 4096) None) (c.1 / 4096) None) (c.2 / 4096) None) (c.3 / 4096) None)
  rows-corners t u c kept f h =
      let Q4 : ℕ → R → Type 0 = λ k r. IsRowChunk u k (lists r) in
      let Q3 : ℕ → R → Type 0 = λ k r. k ≢ c.3 / 4096 → Q4 k r in
      let Q2 : ℕ → R → Type 0 = λ k r. k ≢ c.2 / 4096 → Q3 k r in
      let Q1 : ℕ → R → Type 0 = λ k r. k ≢ c.1 / 4096 → Q2 k r in
      let Q0 : ℕ → R → Type 0 = λ k r. k ≢ c.0 / 4096 → Q1 k r in
      let k0 = each-map (Kept (λ k r. IsRowChunk t k (lists r))) (Kept Q0) kept one h in
      let k1 = each-forget Q0 Q1 kept (c.0 / 4096) (λ k r n q. q n) k0 in
      let k2 = each-forget Q1 Q2 (set kept (c.0 / 4096) None) (c.1 / 4096) (λ k r n q. q n) k1 in
      let k3 = each-forget Q2 Q3 (set (set kept (c.0 / 4096) None) (c.1 / 4096) None) (c.2 / 4096) (λ k r n q. q n) k2 in
      each-forget Q3 Q4 (set (set (set kept (c.0 / 4096) None) (c.1 / 4096) None) (c.2 / 4096) None) (c.3 / 4096) (λ k r n q. q n) k3
    where
      apart : (a k j : ℕ) → j < 4096 → k ≢ a / 4096 → a ≢ 4096 * k + j
      apart a k j lt ne e = ne (omega (arith, e, lt))

      one : (k : ℕ) (o : Option R) → k < length kept → Kept (λ k r. IsRowChunk t k (lists r)) k o → Kept (λ k r. k ≢ c.0 / 4096 → k ≢ c.1 / 4096 → k ≢ c.2 / 4096 → k ≢ c.3 / 4096 → IsRowChunk u k (lists r)) k o
      one k None lt p = tt
      one k (Some r) lt p = λ n0 n1 n2 n3. row-chunk-stays t u k (lists r) (λ j jl w. f k j lt jl w (apart c.0 k j jl n0, apart c.1 k j jl n1, apart c.2 k j jl n2, apart c.3 k j jl n3)) p

-- the neighbours of a point after a split, where it is on none of the corners and was there before
row-split : (n v i : ℕ) (cells : List (Option Corners)) (c : Corners) → AreWithin n cells → cell_at cells i ≡ Some c → v < n → IsOff c v → row_of (record { points = n + 1; cells = split_cells cells n i c }) v ≡ row_of (record { points = n; cells = cells }) v
row-split n v i cells c within at lt off =
    let new : n ≢ v = λ e. omega (arith, e, lt) in
    let a : (w : ℕ) → has_both v w (n, c.1, c.2, c.3) ≡ false = λ w. both-off v w (n, c.1, c.2, c.3) (new, off.1, off.2, off.3) in
    let b : (w : ℕ) → has_both v w (c.0, n, c.2, c.3) ≡ false = λ w. both-off v w (c.0, n, c.2, c.3) (off.0, new, off.2, off.3) in
    let d : (w : ℕ) → has_both v w (c.0, c.1, n, c.3) ≡ false = λ w. both-off v w (c.0, c.1, n, c.3) (off.0, off.1, new, off.3) in
    let e : (w : ℕ) → has_both v w (c.0, c.1, c.2, n) ≡ false = λ w. both-off v w (c.0, c.1, c.2, n) (off.0, off.1, off.2, new) in
    row-more (n + 1) v (set cells i None) (quarters n c) (λ w. four _ _ _ _ (a w) (b w) (d w) (e w)) ∙ row-set (n + 1) v i cells c at off ∙ row-point n v cells within
  where
    four : (a b c d : Bool) → a ≡ false → b ≡ false → c ≡ false → d ≡ false → (a || (b || (c || (d || false)))) ≡ false
    four a b c d p q r s = rw (p, q, r, s) refl

-- an edit leaves of the rows what is said
pub rows-left : {R : Type 0} (lists : R → RowsView) (mesh : MeshView) (edit : Edit) (o : Option Corners) (kept : List (Option R)) → AreWithin (length mesh.points) mesh.cells → EditFits mesh edit → o ≡ touched_by mesh edit → AreKeptRows lists (topology_of mesh) kept → AreKeptRows lists (topology_of (edited mesh edit)) (left_corners o (left_rows edit (length mesh.points) kept))
rows-left lists mesh (Point at) o kept within fits e h =
    let len : length (mesh.points ++ at ∷ []) ≡ length mesh.points + 1 = length-append mesh.points (at ∷ []) in
    rw (e, len) (rows-point lists (length mesh.points) mesh.cells kept within h)
rows-left lists mesh (Add corners) o kept within fits e h =
    let c = corners_of corners in
    rw e (rows-corners lists (topology_of mesh) (topology_of (edited mesh (Add corners))) c kept
    (λ k j lt jl w off. (w, row-more (length mesh.points) (4096 * k + j) mesh.cells (Some c ∷ []) (λ x. ap (λ b. b || false) (both-off (4096 * k + j) x c off)))) h)
rows-left lists mesh (Remove i) o kept within fits e h = by o e
  where
    by : (o : Option Corners) → o ≡ cell_at mesh.cells i → AreKeptRows lists (topology_of (edited mesh (Remove i))) (left_corners o kept)
    by None e = let f = subst IsSome (sym e) fits in absurd (cc)
    by (Some c) e = rows-corners lists (topology_of mesh) (topology_of (edited mesh (Remove i))) c kept
        (λ k j lt jl w off. (w, row-set (length mesh.points) (4096 * k + j) i mesh.cells c (sym e) off)) h
rows-left lists mesh (Split i at) o kept within fits e h = by o e
  where
    by : (o : Option Corners) → o ≡ cell_at mesh.cells i → AreKeptRows lists (topology_of (edited mesh (Split i at))) (left_corners o (take (length mesh.points / 4096) kept))
    by None e = let f = subst IsSome (sym e) fits.0 in absurd (cc)
    by (Some c) e =
        let m = length mesh.points in
        let len : length (mesh.points ++ at ∷ []) ≡ m + 1 = length-append mesh.points (at ∷ []) in
        let t = topology_of mesh in
        rw (sym e, len) (rows-corners lists t (record { points = m + 1; cells = split_cells mesh.cells m i c }) c (take (m / 4096) kept)
        (λ k j lt jl w off.
        let old : 4096 * k + j < m = omega (arith, lt, jl, length-take (m / 4096) kept) in
        (old, row-split m (4096 * k + j) i mesh.cells c within (sym e) old off))
        (each-take (Kept (λ k r. IsRowChunk t k (lists r))) (m / 4096) kept h))
