use Rattle.std.proofs.Common.{length, eqb, not, ◌∙◌, ap}
use Rattle.mesh_base.proofs.NumberLaws.{has_neighbours}
use Rattle.box_query.proofs.full.is_vertex.Goals as goal

pub returns : goal.returns
returns c =
    ap not (c.is_empty.ensures ∙ ap (λ l. eqb (length l) 0) c.neighbours.ensures)
    ∙ has_neighbours c.args.step.now.mesh c.args.v c.points-valid.ensures.valid
