use Rattle.std.proofs.Common.{◌∙◌, sym, ap}
use Rattle.std.specs.Arc.{arc_value}
use Rattle.topo.specs.Topology.{mesh_at}
use Rattle.job_steps.proofs.ground.edited.Goals as goal

pub invariant_of-result : goal.invariant_of-result
invariant_of-result c = record {
  points = c.in_ok-places.ensures.points ∙ sym (ap (λ t. t.points) c.in_ok-shape.ensures.ok);
  in_range = c.in_ok-places.ensures.in_range;
}

pub returns-clause-mesh : goal.returns-clause-mesh
returns-clause-mesh c = ap (mesh_at (arc_value c.in_ok-places.places)) c.freeze_next.ensures.same ∙ c.in_ok-places.ensures.mesh
