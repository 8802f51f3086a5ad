use Rattle.std.proofs.Common.{◌≡◌, ◌<◌, ◌≤◌, ◌+◌, inl, inr, [], ◌∷◌, ◌++◌, None, set, get_or, length, ℕ, refl, sym, ap, subst, ◌∙◌, arith}
use Rattle.std.proofs.lemmas.List.{get_or_past}
use Rattle.mesh_base.specs.Edit.{quarters, split_cells}
use Rattle.mesh_base.proofs.Corners.{eq_or}
use Rattle.edge_table.specs.Pairs.{number_at, pair_count, pair_share, cell_pairs}
use Rattle.edge_table.specs.Rows.{shown, AreRows, HaveRoom}
use Rattle.edge_table.proofs.PairLemmas.{cell_pairs-append, cell_pairs-set, cell_pairs-le, neighbour_within}
use Rattle.edge_table.proofs.TableLemmas.{length_shown, corners_within, pair_count-push_row, pair_count-push_other, AreRows-push, length-push}
use Rattle.edge_table.proofs.SplitLemmas.{quarters-new, thrice}
use Rattle.edge_table.proofs.edges.EdgeTable.split_cell.Goals as goal

pub reserve_pairs-requires : goal.reserve_pairs-requires
reserve_pairs-requires c =
    let t = c.requires.there in
    let k = c.args.cell in
    let rows = c.self.inside.rows.items in
    let there = λ (v u : ℕ). let d = ap (λ rows. pair_count rows v u) c.self.view_is in let le : pair_share k v u ≤ pair_count (shown rows) v u = omega (arith, d, t.2 v u, cell_pairs-set t.0 t.1 k v u t.3) in le in
    let w = corners_within rows (k.0 ∷ k.1 ∷ k.2 ∷ k.3 ∷ []) k refl c.corners-corners.ensures.different there in
    record { within = (omega arith, omega arith, omega arith, omega arith) }

pub split_pairs-requires : goal.split_pairs-requires
split_pairs-requires c =
    let t = c.requires.there in
    let m = c.requires.room in
    let k = c.args.cell in
    let same : shown c.reserve.new.self.items ≡ c.args.self.now = ap shown c.reserve.ensures.items ∙ c.reserve_pairs.ensures.shown ∙ c.self.view_is in
    record {
      next = omega (arith, c.requires.next, ap length same, length_shown c.reserve.new.self.items);
      rows = subst AreRows (c.self.view_is ∙ sym same) c.self.invariant;
      there = λ v u. let d = ap (λ rows. pair_count rows v u) same in omega (arith, d, t.2 v u, cell_pairs-set t.0 t.1 k v u t.3);
      last = λ v u lt. let d = ap (λ rows. pair_count rows v u) same in let p = neighbour_within t.0 c.args.self.now v u t.2 (omega (arith, d, lt)) in omega (arith, p, c.requires.next);
      room = subst (λ l. HaveRoom 1 l k) (sym c.reserve.ensures.items) c.in_ok-reserve_pairs.ensures.room;
      fits = λ v u. let d = ap (λ rows. pair_count rows v u) same in omega (arith, m.1 v u, m.2, cell_pairs-le m.0 v u, d);
    }

pub invariant_of-self-2 : goal.invariant_of-self-2
invariant_of-self-2 c =
    subst (λ l. AreRows (shown l)) (sym c.push_reserved.ensures.items)
    (AreRows-push c.split_pairs.new.rows.items c.row_inside.result c.split_pairs.ensures.rows c.row_inside.ensures.row)

pub returns-clause-points : goal.returns-clause-points
returns-clause-points c =
    let same : shown c.reserve.new.self.items ≡ c.args.self.now = ap shown c.reserve.ensures.items ∙ c.reserve_pairs.ensures.shown ∙ c.self.view_is in
    omega (
      arith,
      ap (λ l. length (shown l)) c.push_reserved.ensures.items,
      length-push c.split_pairs.new.rows.items c.row_inside.result,
      length_shown c.split_pairs.new.rows.items,
      c.split_pairs.ensures.len,
      ap length same,
      length_shown c.reserve.new.self.items,
      c.requires.next,
    )

pub returns-clause-cells : goal.returns-clause-cells
returns-clause-cells c cells i h at v w =
    let k = c.args.cell in
    let p = c.args.point in
    let row = c.row_inside.result in
    let rows = c.split_pairs.new.rows.items in
    let same : shown c.reserve.new.self.items ≡ c.args.self.now = ap shown c.reserve.ensures.items ∙ c.reserve_pairs.ensures.shown ∙ c.self.view_is in
    let n : length rows ≡ p = omega (arith, c.split_pairs.ensures.len, ap length same, length_shown c.reserve.new.self.items, c.requires.next) in
    let s = λ (v : ℕ). cell_pairs-set cells i k v w at in
    let t = λ (v : ℕ). cell_pairs-append (set cells i None) (quarters p k) v w in
    let x = λ (v : ℕ). ap (λ l. pair_count (shown l) v w) c.push_reserved.ensures.items in
    elim (eq_or v p) [
      | inl q ↦
          let there = λ (v u : ℕ). let d = ap (λ rows. pair_count rows v u) same in let le : pair_share k v u ≤ pair_count (shown c.reserve.new.self.items) v u = omega (arith, d, h v u, cell_pairs-set cells i k v u at) in le in
          let d = c.corners-corners.ensures.different in
          let z = corners_within c.reserve.new.self.items (k.0 ∷ k.1 ∷ k.2 ∷ k.3 ∷ []) k refl d there in
          let past = λ (j : ℕ) (lt : j < length c.reserve.new.self.items) (q : j ≡ p). let z : ⊥ = omega (arith, n, c.split_pairs.ensures.len) in z in
          let four = quarters-new k p d (past k.0 z.0) (past k.1 z.1) (past k.2 z.2) (past k.3 z.3) w in
          let r = subst (λ l. number_at row.near.items row.counts.items w ≡ thrice (get_or l 0 0) w + thrice (get_or l 1 0) w + thrice (get_or l 2 0) w + thrice (get_or l 3 0) w) c.corners-corners.ensures.corners (c.row_inside.ensures.numbers w) in
          let none : pair_count c.args.self.now p w ≡ 0 = ap (λ q. number_at q.0 q.1 w) (get_or_past c.args.self.now p ([], []) (omega (arith, c.requires.next))) in
          let own : pair_count (shown (rows ++ row ∷ [])) p w ≡ number_at row.near.items row.counts.items w = subst (λ j. pair_count (shown (rows ++ row ∷ [])) j w ≡ number_at row.near.items row.counts.items w) n (pair_count-push_row rows row w) in
          subst (λ j. pair_count (shown c.push_reserved.new.self.items) j w ≡ cell_pairs (split_cells cells p i k) j w) (sym q)
          (omega (arith, x p, own, r, four, t p, s p, none, h p w))
      | inr m ↦
          let o = pair_count-push_other rows row v w (λ j. m (j ∙ n)) in
          let d = ap (λ rows. pair_count rows v w) same in
          omega (arith, x v, o, c.split_pairs.ensures.pairs v w m, d, h v w, s v, t v)
    ]
