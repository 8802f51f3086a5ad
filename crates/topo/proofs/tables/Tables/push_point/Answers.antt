use Rattle.std.proofs.Common.{◌≡◌, ◌-◌, ◌∙◌, ap, arith}
use Rattle.mesh_base.specs.Mesh.{is_vertex}
use Rattle.face_table.specs.Tally.{tally_in}
use Rattle.topo.specs.Cells.{listed}
use Rattle.topo.proofs.TopologyLaws.{no_vertex}
use Rattle.topo.proofs.tables.Tables.push_point.Goals as goal

pub drop_point-requires-clause-free : goal.drop_point-requires-clause-free
drop_point-requires-clause-free c =
    let cells = listed c.self.inside.cells in
    let last : c.put_point.new.self.points - 1 ≡ c.self.inside.points = omega (arith, c.in_ok-put_point.ensures.points, c.self.invariant.face_points) in (
      cells,
      λ f. ap (λ l. tally_in l f) c.put_point.ensures.counts ∙ c.self.invariant.tally f,
      ap (is_vertex cells) last ∙ no_vertex c.self.inside.points cells c.self.invariant.valid.within,
    )
