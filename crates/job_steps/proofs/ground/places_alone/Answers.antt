use Rattle.std.proofs.Common.{◌≡◌, ◌∙◌, All, sym, ap, subst}
use Rattle.std.specs.Arc.{arc_value}
use Rattle.mesh_base.specs.Place.{IsPlace}
use Rattle.topo.specs.Topology.{mesh_at}
use Rattle.step_view.specs.StepView.{IsStepOf}
use Rattle.job_steps.proofs.PlanLaws.{moved_in_range}
use Rattle.job_steps.proofs.Played.{next_made, next_stays}
use Rattle.job_steps.proofs.ground.places_alone.Goals as goal

pub returns-in_ok-edited_places-in-Stay-clause-next : goal.returns-in_ok-edited_places-in-Stay-clause-next
returns-in_ok-edited_places-in-Stay-clause-next c =
    let before = c.in_ok-edited_places-in-Stay in
    let stay = ap (λ p. p.kernel) (sym c.plan.ensures.plan) ∙ c.in-Stay.is in
    next_stays c.args.job.now c.args.k c.edited_places.new.topo (arc_value before.field-0) c.requires.more before.ensures.mesh stay before.ensures.points before.ensures.in_range

pub returns-in_ok-moved_alone-in_default : goal.returns-in_ok-moved_alone-in_default
returns-in_ok-moved_alone-in_default c =
    let job = c.args.job.now in
    let k = c.args.k in
    let ground = c.in_ok-ground-in_default.ground in
    let e = c.in_ok-ground-in_default.ensures in
    let u = c.edited.new.topo in
    let after = c.in_ok-moved_alone-in_default in
    let made = next_made job k ground.step u (arc_value ground.shape) ground.kernel (arc_value ground.places) (arc_value after.field-0) c.requires.more e.mesh e.kernel e.step e.shape ground.points after.ensures in
    record {
      next = subst (λ n. IsStepOf job n u (arc_value after.field-0)) e.step made;
      in_range = subst (All IsPlace) (sym after.ensures) (moved_in_range (mesh_at (arc_value ground.places) (arc_value ground.shape)) ground.kernel ground.step);
    }
