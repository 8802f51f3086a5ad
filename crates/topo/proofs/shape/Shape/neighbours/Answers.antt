use Rattle.std.proofs.Common.{◌%◌, ◌<◌, flat_map, ap, sym, subst, ◌∙◌, arith}
use Rattle.std.specs.Arc.{arc_value}
use Rattle.topo.specs.Topology.{Topology, IsTopology}
use Rattle.topo.specs.RowChunks.{row_of, HasRow}
use Rattle.topo.proofs.ShapeLaws.{rows-holding}
use Rattle.topo.proofs.TopologyLaws.{vertex_of, neighbours_of}
use Rattle.topo.proofs.shape.Shape.neighbours.Goals as goal

pub row-requires : goal.row-requires
row-requires c =
    let t : Topology = record { points = c.self.inside.points; cells = flat_map arc_value c.self.inside.cells.items } in
    let v = c.args.v in
    let lt : v < t.points = omega (arith, ap (λ t. t.points) c.self.view_is, c.requires) in
    (row_of t v, subst (λ x. HasRow x (v % 4096) (row_of t v)) (sym c.deref.ensures) (rows-holding arc_value t c.self.inside.rows.items v c.index.result.now c.self.invariant.all c.self.invariant.near lt c.index.ensures))

pub returns-clause-listed : goal.returns-clause-listed
returns-clause-listed c =
    let t : Topology = record { points = c.self.inside.points; cells = flat_map arc_value c.self.inside.cells.items } in
    let v = c.args.v in
    let lt : v < t.points = omega (arith, ap (λ t. t.points) c.self.view_is, c.requires) in
    c.row.ensures (row_of t v) (subst (λ x. HasRow x (v % 4096) (row_of t v)) (sym c.deref.ensures) (rows-holding arc_value t c.self.inside.rows.items v c.index.result.now c.self.invariant.all c.self.invariant.near lt c.index.ensures))
    ∙ ap (λ u. row_of u v) c.self.view_is

pub returns-clause-mesh : goal.returns-clause-mesh
returns-clause-mesh c = λ mesh is. returns-clause-listed c ∙ neighbours_of mesh c.args.self.now c.args.v is

pub returns-clause-vertex : goal.returns-clause-vertex
returns-clause-vertex c =
    let u = c.args.self.now in
    let v = c.args.v in
    vertex_of u.points v u.cells c.row.result.now (subst (λ t. IsTopology t.points t.cells) c.self.view_is c.self.invariant.valid) (returns-clause-listed c)
