use Rattle.std.proofs.Common.{◌≡◌, ◌++◌, Some, None, set, map, length, ap, sym, ◌∙◌, arith}
use Rattle.mesh_base.specs.Edit.{cell_at}
use Rattle.face_table.specs.Tally.{tally_in}
use Rattle.topo.specs.Cells.{listed}
use Rattle.topo.proofs.TopologyLaws.{AreTables-split}
use Rattle.topo.proofs.tables.Tables.split.Goals as goal

pub split_cell-requires : goal.split_cell-requires
split_cell-requires c =
    let cells = listed c.self.inside.cells in
    let at : cell_at cells c.args.i ≡ Some c.unwrap-cell.result = ap (λ t. cell_at t.cells c.args.i) c.self.view_is ∙ sym c.live_cell.ensures.cell ∙ c.unwrap-cell.ensures in
    let few = ap (λ t. length t.cells) c.self.view_is in
    record {
      next = sym c.self.invariant.edge_points;
      room = (cells, c.self.invariant.pairs, omega (arith, few, c.requires.few_cells));
      there = (cells, c.args.i, c.self.invariant.pairs, at);
    }

pub split_cell-requires-2 : goal.split_cell-requires-2
split_cell-requires-2 c =
    let cells = listed c.self.inside.cells in
    let at : cell_at cells c.args.i ≡ Some c.unwrap-cell.result = ap (λ t. cell_at t.cells c.args.i) c.self.view_is ∙ sym c.live_cell.ensures.cell ∙ c.unwrap-cell.ensures in
    record {
      ready = c.in_ok-reserve_split.ensures.ready;
      next = omega (arith, c.reserve_split.ensures.points, c.self.invariant.face_points);
      there = (cells, c.args.i, λ f. ap (λ l. tally_in l f) c.reserve_split.ensures.counts ∙ c.self.invariant.tally f, at);
    }

pub invariant_of-self-2 : goal.invariant_of-self-2
invariant_of-self-2 c =
    let cells = listed c.self.inside.cells in
    let n = c.self.inside.points in
    let i = c.args.i in
    let cell = c.unwrap-cell.result in
    let at : cell_at cells i ≡ Some cell = ap (λ t. cell_at t.cells i) c.self.view_is ∙ sym c.live_cell.ensures.cell ∙ c.unwrap-cell.ensures in
    let few = ap (λ t. length t.cells) c.self.view_is in
    let points = ap (λ t. t.points) c.self.view_is in
    let tally = c.split_cell-2.ensures.cells cells i (λ f. ap (λ l. tally_in l f) c.reserve_split.ensures.counts ∙ c.self.invariant.tally f) at in
    let pairs = c.in_ok-split_cell.ensures.cells cells i c.self.invariant.pairs at in
    let is = c.split.ensures ∙ ap (λ l. set l i None ++ map Some c.quarters_of.result) c.reserve.ensures.same ∙ ap (λ l. set cells i None ++ l) c.quarters_of.ensures in
    rw is (AreTables-split n cells _ _ _ _ c.self.invariant i cell at (omega (arith, points, c.requires.few_points)) (omega (arith, few, c.requires.few_cells)) tally pairs c.split_cell-2.ensures.points c.in_ok-split_cell.ensures.points)
