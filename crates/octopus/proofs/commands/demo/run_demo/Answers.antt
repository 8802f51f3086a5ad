use Rattle.std.proofs.Common.{◌≡◌, ◌∙◌, ap, subst}
use Rattle.std.specs.Prelude.{IfOk}
use Rattle.step_registry.specs.Core.{IsWhole, answers_of}
use Rattle.octopus.specs.Demo.{summary_by}
use Rattle.octopus.proofs.DemoLemmas.{summary-is}
use Rattle.octopus.proofs.commands.demo.run_demo.Goals as goal

pub returns : goal.returns
returns g c =
    let job = c.in_ok-job.ensures in
    let played = c.in_ok-registry.ensures.job ∙ job in
    let journal = c.in_ok-registry.registry.journal in
    let whole = subst (λ j. IsWhole j journal) job c.in_ok-registry.ensures.whole in
    let text = ap (λ j. summary_by j.mesh (answers_of j journal)) played ∙ summary-is c.args.side c.args.seed journal whole in
    subst (λ t. IfOk c.summary.result (λ text. text.items ≡ t)) text c.summary.ensures
