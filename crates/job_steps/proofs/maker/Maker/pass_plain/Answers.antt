use Rattle.std.proofs.Common.{◌+◌, subst}
use Rattle.std.specs.Arc.{arc_value}
use Rattle.step_view.specs.StepView.{IsStepOf}
use Rattle.job_steps.proofs.maker.Maker.pass_plain.Goals as goal

pub invariant_of-self-2 : goal.invariant_of-self-2
invariant_of-self-2 c =
    let is = subst (λ j. IsStepOf j (c.self.inside.made + 1) c.places_alone.new.topo (arc_value c.in_ok-places.places)) c.deref.ensures c.in_ok-places.ensures.next in
    record {
      job = c.self.invariant.job;
      few = is.few;
      now = λ kept. is;
      in_range = c.in_ok-places.ensures.in_range;
    }
