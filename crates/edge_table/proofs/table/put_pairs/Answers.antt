use Rattle.std.proofs.Common.{◌≡◌, ℕ, ◌+◌, List, get_or, sym, ◌∙◌, arith}
use Rattle.edge_table.specs.Pairs.{pair_count, pair_share}
use Rattle.edge_table.specs.Rows.{shown}
use Rattle.edge_table.specs.declared.row.Row.{Row}
use Rattle.mesh_base.proofs.Corners.{four, array-apart}
use Rattle.edge_table.proofs.TableLemmas.{array-0, array-1, array-2, array-3, array-none}
use Rattle.edge_table.proofs.table.put_pairs.Goals as goal

pub returns-clause-pairs : goal.returns-clause-pairs
returns-clause-pairs c v u =
    let k = c.args.cell.now in
    let xs = c.corners.result in
    let e = c.corners.ensures.corners in
    let d = c.corners.ensures.different in
    let p = array-apart xs k e d in
    let old = shown c.args.rows.now.items in
    let done = λ (rows : List Row) (w : ℕ). pair_count (shown rows) w u ≡ pair_count old w u + pair_share k w u in
    let a = get_or xs 0 0 in
    let b = get_or xs 1 0 in
    let f = get_or xs 2 0 in
    let g = get_or xs 3 0 in
    let o1 = c.add_at.ensures.others in
    let o2 = c.add_at-2.ensures.others in
    let o3 = c.add_at-3.ensures.others in
    let o4 = c.add_at-4.ensures.others in
    four (done c.args.rows.now.items) (done c.add_at.new.rows.items) (done c.add_at-2.new.rows.items) (done c.add_at-3.new.rows.items) (done c.add_at-4.new.rows.items)
    a b f g
    (omega (arith, c.add_at.ensures.here u, array-0 xs k u e d)) (λ w n h. o1 w u n ∙ h)
    (omega (arith, c.add_at-2.ensures.here u, array-1 xs k u e d, o1 b u (λ q. p.0 (sym q)))) (λ w n h. o2 w u n ∙ h)
    (omega (arith, c.add_at-3.ensures.here u, array-2 xs k u e d, o2 f u (λ q. p.3 (sym q)), o1 f u (λ q. p.1 (sym q)))) (λ w n h. o3 w u n ∙ h)
    (omega (arith, c.add_at-4.ensures.here u, array-3 xs k u e d, o3 g u (λ q. p.5 (sym q)), o2 g u (λ q. p.4 (sym q)), o1 g u (λ q. p.2 (sym q)))) (λ w n h. o4 w u n ∙ h)
    (λ w na nb nc nd. omega (arith, array-none xs k w u e na nb nc nd)) v
