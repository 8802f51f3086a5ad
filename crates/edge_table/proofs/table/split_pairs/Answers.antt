use Rattle.std.proofs.Common.{◌≡◌, ◌≢◌, ℕ, ◌+◌, ◌<◌, List, [], ◌∷◌, get_or, length, refl, sym, ap, ◌∙◌, arith}
use Rattle.mesh_base.specs.Edit.{quarters}
use Rattle.mesh_base.proofs.Corners.{four, array-apart}
use Rattle.edge_table.specs.Pairs.{pair_count, pair_share, cell_pairs}
use Rattle.edge_table.specs.Rows.{shown}
use Rattle.edge_table.specs.declared.row.Row.{Row}
use Rattle.edge_table.proofs.TableLemmas.{array-0, array-1, array-2, array-3, array-none, corners_within}
use Rattle.edge_table.proofs.SplitLemmas.{array_quarters, array_quarters-none}
use Rattle.edge_table.proofs.table.split_pairs.Goals as goal

pub split_at-requires-clause-within : goal.split_at-requires-clause-within
split_at-requires-clause-within c =
    let w = corners_within c.args.rows.now.items c.corners.result c.args.cell.now c.corners.ensures.corners c.corners.ensures.different c.requires.there in
    omega (arith, w.0)

pub split_at-requires-2-clause-within : goal.split_at-requires-2-clause-within
split_at-requires-2-clause-within c =
    let w = corners_within c.args.rows.now.items c.corners.result c.args.cell.now c.corners.ensures.corners c.corners.ensures.different c.requires.there in
    omega (arith, w.1, c.split_at.ensures.len)

pub split_at-requires-3-clause-within : goal.split_at-requires-3-clause-within
split_at-requires-3-clause-within c =
    let w = corners_within c.args.rows.now.items c.corners.result c.args.cell.now c.corners.ensures.corners c.corners.ensures.different c.requires.there in
    omega (arith, w.2, c.split_at.ensures.len, c.split_at-2.ensures.len)

pub split_at-requires-4-clause-within : goal.split_at-requires-4-clause-within
split_at-requires-4-clause-within c =
    let w = corners_within c.args.rows.now.items c.corners.result c.args.cell.now c.corners.ensures.corners c.corners.ensures.different c.requires.there in
    omega (arith, w.3, c.split_at.ensures.len, c.split_at-2.ensures.len, c.split_at-3.ensures.len)

pub split_at-requires-clause-there : goal.split_at-requires-clause-there
split_at-requires-clause-there c u =
    let xs = c.corners.result in
    let k = c.args.cell.now in
    let e = c.corners.ensures.corners in
    let d = c.corners.ensures.different in
    omega (arith, c.requires.there (get_or xs 0 0) u, array-0 xs k u e d)

pub split_at-requires-2-clause-there : goal.split_at-requires-2-clause-there
split_at-requires-2-clause-there c u =
    let xs = c.corners.result in
    let k = c.args.cell.now in
    let e = c.corners.ensures.corners in
    let d = c.corners.ensures.different in
    let p = array-apart xs k e d in
    omega (arith, c.requires.there (get_or xs 1 0) u, array-1 xs k u e d, c.split_at.ensures.others (get_or xs 1 0) u (λ q. p.0 (sym q)))

pub split_at-requires-3-clause-there : goal.split_at-requires-3-clause-there
split_at-requires-3-clause-there c u =
    let xs = c.corners.result in
    let k = c.args.cell.now in
    let e = c.corners.ensures.corners in
    let d = c.corners.ensures.different in
    let p = array-apart xs k e d in
    omega (arith, c.requires.there (get_or xs 2 0) u, array-2 xs k u e d, c.split_at.ensures.others (get_or xs 2 0) u (λ q. p.1 (sym q)), c.split_at-2.ensures.others (get_or xs 2 0) u (λ q. p.3 (sym q)))

pub split_at-requires-4-clause-there : goal.split_at-requires-4-clause-there
split_at-requires-4-clause-there c u =
    let xs = c.corners.result in
    let k = c.args.cell.now in
    let e = c.corners.ensures.corners in
    let d = c.corners.ensures.different in
    let p = array-apart xs k e d in
    omega (arith, c.requires.there (get_or xs 3 0) u, array-3 xs k u e d, c.split_at.ensures.others (get_or xs 3 0) u (λ q. p.2 (sym q)), c.split_at-2.ensures.others (get_or xs 3 0) u (λ q. p.4 (sym q)), c.split_at-3.ensures.others (get_or xs 3 0) u (λ q. p.5 (sym q)))

pub returns-clause-pairs : goal.returns-clause-pairs
returns-clause-pairs c v u n =
    let k = c.args.cell.now in
    let p = c.args.point in
    let xs = c.corners.result in
    let e = c.corners.ensures.corners in
    let d = c.corners.ensures.different in
    let y = array-apart xs k e d in
    let w = corners_within c.args.rows.now.items (k.0 ∷ k.1 ∷ k.2 ∷ k.3 ∷ []) k refl d c.requires.there in
    let past = λ (i : ℕ) (lt : i < length c.args.rows.now.items) (q : i ≡ p). let z : ⊥ = omega arith in z in
    let q = array_quarters k p d (past k.0 w.0) (past k.1 w.1) (past k.2 w.2) (past k.3 w.3) xs u e in
    let old = shown c.args.rows.now.items in
    let done = λ (rows : List Row) (t : ℕ). t ≢ p → pair_count (shown rows) t u + pair_share k t u ≡ pair_count old t u + cell_pairs (quarters p k) t u in
    let a = get_or xs 0 0 in
    let b = get_or xs 1 0 in
    let f = get_or xs 2 0 in
    let g = get_or xs 3 0 in
    let o1 = c.split_at.ensures.others in
    let o2 = c.split_at-2.ensures.others in
    let o3 = c.split_at-3.ensures.others in
    let o4 = c.split_at-4.ensures.others in
    four (done c.args.rows.now.items) (done c.split_at.new.rows.items) (done c.split_at-2.new.rows.items) (done c.split_at-3.new.rows.items) (done c.split_at-4.new.rows.items)
    a b f g
    (λ _. omega (arith, c.split_at.ensures.here u, array-0 xs k u e d, q.0)) (λ t m h r. ap (λ i. i + pair_share k t u) (o1 t u m) ∙ h r)
    (λ _. omega (arith, c.split_at-2.ensures.here u, array-1 xs k u e d, q.1, o1 b u (λ s. y.0 (sym s)))) (λ t m h r. ap (λ i. i + pair_share k t u) (o2 t u m) ∙ h r)
    (λ _. omega (arith, c.split_at-3.ensures.here u, array-2 xs k u e d, q.2, o2 f u (λ s. y.3 (sym s)), o1 f u (λ s. y.1 (sym s)))) (λ t m h r. ap (λ i. i + pair_share k t u) (o3 t u m) ∙ h r)
    (λ _. omega (arith, c.split_at-4.ensures.here u, array-3 xs k u e d, q.3, o3 g u (λ s. y.5 (sym s)), o2 g u (λ s. y.4 (sym s)), o1 g u (λ s. y.2 (sym s)))) (λ t m h r. ap (λ i. i + pair_share k t u) (o4 t u m) ∙ h r)
    (λ t na nb nc nd r. omega (arith, array-none xs k t u e na nb nc nd, array_quarters-none k p d (past k.0 w.0) (past k.1 w.1) (past k.2 w.2) (past k.3 w.3) xs t u e na nb nc nd r)) v n
