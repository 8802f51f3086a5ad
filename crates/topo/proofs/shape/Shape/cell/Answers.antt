use Rattle.std.proofs.Common.{◌<◌, length, flat_map, ap, sym, ◌∙◌, arith}
use Rattle.std.specs.Arc.{arc_value}
use Rattle.mesh_base.specs.Edit.{cell_at}
use Rattle.topo.proofs.ChunkLaws.{chunk-holding, within-chunk, entry-chunk}
use Rattle.topo.proofs.TopologyLaws.{cell_at-index}
use Rattle.topo.proofs.shape.Shape.cell.Goals as goal

pub bounds-cells-i : goal.bounds-cells-i
bounds-cells-i c =
    let cs = c.self.inside.cells.items in
    let xs = flat_map arc_value cs in
    let i = c.args.i in
    let within : i < length xs = omega (arith, ap (λ t. length t.cells) c.self.view_is, c.requires) in
    within-chunk xs i within c.cells.result.now (c.cells.ensures ∙ c.deref.ensures ∙ chunk-holding xs i within arc_value cs c.index.result.now c.self.invariant.chunks c.index.ensures)

pub returns : goal.returns
returns c =
    let cs = c.self.inside.cells.items in
    let xs = flat_map arc_value cs in
    let i = c.args.i in
    let r = c.index-cells-i.result in
    let within : i < length xs = omega (arith, ap (λ t. length t.cells) c.self.view_is, c.requires) in
    let is = c.cells.ensures ∙ c.deref.ensures ∙ chunk-holding xs i within arc_value cs c.index.result.now c.self.invariant.chunks c.index.ensures in
    sym (cell_at-index xs i r within (entry-chunk xs i within c.cells.result.now is r r c.index-cells-i.is)) ∙ ap (λ t. cell_at t.cells i) c.self.view_is
