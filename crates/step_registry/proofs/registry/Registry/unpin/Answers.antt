use Rattle.std.proofs.Common.{◌≡◌, ℕ, sym, ◌∙◌, ap, subst}
use Rattle.std.specs.Option.{is_some, IfSome}
use Rattle.step_view.specs.StepView.{StepView, step_of}
use Rattle.run_script.specs.Jobs.{JobView}
use Rattle.step_registry.specs.declared.event.Event.TheVariants.{Unpin}
use Rattle.step_registry.specs.Core.{after, CanHappen, session_of, turn_answers}
use Rattle.step_registry.proofs.registry.Registry.unpin.Goals as goal

pub take_back-requires : goal.take_back-requires
take_back-requires c =
    let job = c.args.self.now.job in let st = after job c.args.self.now.journal in let parts = c.into_parts-session in record {
      own = parts.ensures.valid ∙ (ap (λ (j : JobView). step_of j c.args.pin.step.number) c.requires.job ∙ ap (λ (s : StepView). step_of job s.number) (sym parts.ensures.step));
      can = subst (λ (n : ℕ). CanHappen job st (Unpin n parts.result.1.number (is_some c.args.answers))) (sym parts.ensures.session)
          (subst (λ (s : StepView). CanHappen job st (Unpin c.args.pin.session s.number (is_some c.args.answers))) (sym parts.ensures.step) c.requires.can);
      answers = subst (λ (n : ℕ). IfSome c.args.answers (λ list. list ≡ turn_answers job n (session_of st n).done parts.result.1.number)) (sym parts.ensures.session)
          (subst (λ (s : StepView). IfSome c.args.answers (λ list. list ≡ turn_answers job c.args.pin.session (session_of st c.args.pin.session).done s.number)) (sym parts.ensures.step) c.requires.answers);
    }
