use Rattle.std.proofs.Common.{◌∙◌, ap, length}
use Rattle.std.specs.Arc.{arc_value}
use Rattle.topo.specs.Cells.{listed}
use Rattle.topo.proofs.ShapeLaws.{shape-of}
use Rattle.topo.proofs.shape.Shape.of.Goals as goal

pub invariant_of-result : goal.invariant_of-result
invariant_of-result c = shape-of arc_value arc_value c.args.tables.now c.points.result _ _ (listed c.store.result.now) c.in_ok-cells.cells.items c.in_ok-rows.rows.items
    c.points.ensures.points c.store.ensures (ap length c.cells.ensures.cells) c.cells.ensures.topology (c.in_ok-surface.ensures ∙ c.surface.ensures.listed)
    c.in_ok-cells.ensures.chunks c.in_ok-rows.ensures.rows c.in_ok-rows.ensures.all
