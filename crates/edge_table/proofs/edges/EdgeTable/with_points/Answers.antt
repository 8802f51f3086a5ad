use Rattle.std.proofs.Common.{◌∙◌, ap, arith, length, length-append, [], ◌∷◌}
use Rattle.edge_table.specs.Pairs.{pair_count}
use Rattle.edge_table.proofs.PairLemmas.{pair_count-push}
use Rattle.edge_table.proofs.edges.EdgeTable.with_points.Goals as goal

pub loop-point-preserved : goal.loop-point-preserved
loop-point-preserved c =
    let e = c.in_ok-put_point.ensures.rows in (
      omega (arith, ap length e, length-append c.loop-point.table (([], []) ∷ []), c.loop-point.invariant.0),
      λ v w. ap (λ t. pair_count t v w) e ∙ pair_count-push c.loop-point.table v w ∙ c.loop-point.invariant.1 v w,
    )
