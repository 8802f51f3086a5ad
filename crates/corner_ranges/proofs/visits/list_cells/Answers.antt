use Rattle.std.proofs.Common.{◌≡◌, ◌∙◌, ap, sym, arith, cond, [], ◌∷◌, sum_by}
use Rattle.corner_ranges.specs.Ranges.{corners_in}
use Rattle.corner_ranges.specs.Visits.{reaches, visit_share}
use Rattle.corner_ranges.proofs.RangeLemmas.{corners_in-more}
use Rattle.corner_ranges.proofs.VisitLemmas.{reached, cell_at-get}
use Rattle.corner_ranges.proofs.visits.list_cells.Goals as goal

pub loop-i-preserved : goal.loop-i-preserved
loop-i-preserved c = (
  c.list_cell.ensures.len ∙ c.loop-i.invariant.0,
  λ r g lt.
      let cells = c.args.cells.now in
      let i = c.loop-i.i in
      let cell = c.index-cells-i.result in
      let h = visit_share g r cells in
      let a = c.in_ok-list_cell.ensures.listed h r (omega (arith, lt, c.loop-i.invariant.0)) in
      let e = cell_at-get cells i cell (omega arith) (sym c.index-cells-i.is) in
      let b : cond (reaches cell r) (h i) 0 ≡ sum_by g (corners_in r (cell ∷ [])) = ap (λ k. cond (reaches cell r) (sum_by g (corners_in r (k ∷ []))) 0) e ∙ reached g r cell in
      let m = corners_in-more g r cells i cell (omega arith) (sym c.index-cells-i.is) in
      let p = c.loop-i.invariant.1 r g lt in
      omega (arith, a, b, m, p),
)
