use Rattle.std.proofs.Common.{◌≡◌, ℕ, ◌+◌, List, get_or, sym, ap, ◌∙◌, arith}
use Rattle.edge_table.specs.Pairs.{pair_count, pair_share}
use Rattle.edge_table.specs.Rows.{shown}
use Rattle.edge_table.specs.declared.row.Row.{Row}
use Rattle.mesh_base.proofs.Corners.{four, array-apart}
use Rattle.edge_table.proofs.TableLemmas.{array-0, array-1, array-2, array-3, array-none, corners_within}
use Rattle.edge_table.proofs.table.take_pairs.Goals as goal

pub drop_at-requires-clause-within : goal.drop_at-requires-clause-within
drop_at-requires-clause-within c =
    let w = corners_within c.args.rows.now.items c.corners.result c.args.cell.now c.corners.ensures.corners c.corners.ensures.different c.requires.there in
    omega (arith, w.0)

pub drop_at-requires-2-clause-within : goal.drop_at-requires-2-clause-within
drop_at-requires-2-clause-within c =
    let w = corners_within c.args.rows.now.items c.corners.result c.args.cell.now c.corners.ensures.corners c.corners.ensures.different c.requires.there in
    omega (arith, w.1, c.drop_at.ensures.len)

pub drop_at-requires-3-clause-within : goal.drop_at-requires-3-clause-within
drop_at-requires-3-clause-within c =
    let w = corners_within c.args.rows.now.items c.corners.result c.args.cell.now c.corners.ensures.corners c.corners.ensures.different c.requires.there in
    omega (arith, w.2, c.drop_at.ensures.len, c.drop_at-2.ensures.len)

pub drop_at-requires-4-clause-within : goal.drop_at-requires-4-clause-within
drop_at-requires-4-clause-within c =
    let w = corners_within c.args.rows.now.items c.corners.result c.args.cell.now c.corners.ensures.corners c.corners.ensures.different c.requires.there in
    omega (arith, w.3, c.drop_at.ensures.len, c.drop_at-2.ensures.len, c.drop_at-3.ensures.len)

pub drop_at-requires-clause-there : goal.drop_at-requires-clause-there
drop_at-requires-clause-there c u =
    omega (arith, c.requires.there (get_or c.corners.result 0 0) u, array-0 c.corners.result c.args.cell.now u c.corners.ensures.corners c.corners.ensures.different)

pub drop_at-requires-2-clause-there : goal.drop_at-requires-2-clause-there
drop_at-requires-2-clause-there c u =
    let xs = c.corners.result in
    let k = c.args.cell.now in
    let e = c.corners.ensures.corners in
    let d = c.corners.ensures.different in
    let p = array-apart xs k e d in
    omega (arith, c.requires.there (get_or xs 1 0) u, array-1 xs k u e d, c.drop_at.ensures.others (get_or xs 1 0) u (λ q. p.0 (sym q)))

pub returns-clause-pairs : goal.returns-clause-pairs
returns-clause-pairs c v u =
    let k = c.args.cell.now in
    let xs = c.corners.result in
    let e = c.corners.ensures.corners in
    let d = c.corners.ensures.different in
    let p = array-apart xs k e d in
    let old = shown c.args.rows.now.items in
    let done = λ (rows : List Row) (w : ℕ). pair_count (shown rows) w u + pair_share k w u ≡ pair_count old w u in
    let a = get_or xs 0 0 in
    let b = get_or xs 1 0 in
    let f = get_or xs 2 0 in
    let g = get_or xs 3 0 in
    let o1 = c.drop_at.ensures.others in
    let o2 = c.drop_at-2.ensures.others in
    let o3 = c.drop_at-3.ensures.others in
    let o4 = c.drop_at-4.ensures.others in
    four (done c.args.rows.now.items) (done c.drop_at.new.rows.items) (done c.drop_at-2.new.rows.items) (done c.drop_at-3.new.rows.items) (done c.drop_at-4.new.rows.items)
    a b f g
    (omega (arith, c.drop_at.ensures.here u, array-0 xs k u e d)) (λ w n h. ap (λ m. m + pair_share k w u) (o1 w u n) ∙ h)
    (omega (arith, c.drop_at-2.ensures.here u, array-1 xs k u e d, o1 b u (λ q. p.0 (sym q)))) (λ w n h. ap (λ m. m + pair_share k w u) (o2 w u n) ∙ h)
    (omega (arith, c.drop_at-3.ensures.here u, array-2 xs k u e d, o2 f u (λ q. p.3 (sym q)), o1 f u (λ q. p.1 (sym q)))) (λ w n h. ap (λ m. m + pair_share k w u) (o3 w u n) ∙ h)
    (omega (arith, c.drop_at-4.ensures.here u, array-3 xs k u e d, o3 g u (λ q. p.5 (sym q)), o2 g u (λ q. p.4 (sym q)), o1 g u (λ q. p.2 (sym q)))) (λ w n h. ap (λ m. m + pair_share k w u) (o4 w u n) ∙ h)
    (λ w na nb nc nd. omega (arith, array-none xs k w u e na nb nc nd)) v
