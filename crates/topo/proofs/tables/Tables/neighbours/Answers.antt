use Rattle.std.proofs.Common.{ap, ◌∙◌, filter}
use Rattle.std.specs.List.{range_with_len}
use Rattle.mesh_base.specs.Mesh.{is_vertex, are_neighbours}
use Rattle.topo.specs.Cells.{listed}
use Rattle.topo.proofs.TopologyLaws.{vertex_of}
use Rattle.topo.proofs.tables.Tables.neighbours.Goals as goal

pub returns-clause-vertex : goal.returns-clause-vertex
returns-clause-vertex c =
    let cells = listed c.self.inside.cells in
    let v = c.args.v in
    let row = c.neighbours.ensures.cells cells c.self.invariant.pairs ∙ ap (λ n. filter (are_neighbours cells v) (range_with_len 0 n)) c.self.invariant.edge_points in
    vertex_of c.self.inside.points v cells c.neighbours.result.now c.self.invariant.valid row ∙ ap (λ t. is_vertex t.cells v) c.self.view_is
