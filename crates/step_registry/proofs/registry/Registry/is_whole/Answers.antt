use Rattle.std.proofs.Common.{length, sym, ap, ◌∙◌}
use Rattle.run_script.specs.Jobs.{JobView}
use Rattle.step_registry.proofs.KeptSteps.{sessions_few}
use Rattle.step_registry.proofs.registry.Registry.is_whole.Goals as goal

pub all_done-requires : goal.all_done-requires
all_done-requires c = ap length c.as_slice.ensures.value ∙ ((sessions_few _ _ _ _ _ _ _ _ _ c.self.invariant).0 ∙ ap (λ (j : JobView). length j.sessions) (sym c.deref-then-self-steps.ensures))
