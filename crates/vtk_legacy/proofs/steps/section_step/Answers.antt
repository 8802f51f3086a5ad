use Rattle.std.proofs.Common.{refl}
use Rattle.std.proofs.lemmas.Result.{err_from_is_err_and}
use Rattle.vtk_legacy.specs.Machine.{goes_on, taking_section}
use Rattle.vtk_legacy.proofs.StepLemmas.{IsFault-then}
use Rattle.vtk_legacy.proofs.steps.section_step.Goals as goal

pub returns-in_err-word_at-in-Connectivity : goal.returns-in_err-word_at-in-Connectivity
unfolding goes_on taking_section
returns-in_err-word_at-in-Connectivity c =
    let p = err_from_is_err_and c.from_residual-in_err-word_at-in-Connectivity.result c.from_residual-in_err-word_at-in-Connectivity.ensures.1 in
    rw (p.1, p.2, c.in-Connectivity.is) (λ after. IsFault-then _ _ _ (c.in_err-word_at-in-Connectivity.ensures after))

pub returns-in_ok-word_at-in-Connectivity : goal.returns-in_ok-word_at-in-Connectivity
unfolding goes_on taking_section
returns-in_ok-word_at-in-Connectivity c after = rw (c.in-Connectivity.is, c.in_ok-word_at-in-Connectivity.ensures after) refl

pub returns-in-Attributes : goal.returns-in-Attributes
unfolding taking_section
returns-in-Attributes c = rw c.in-Attributes.is (c.attributes_step.ensures c.args.got.now)
