use Rattle.std.proofs.Common.{◌≡◌, ◌∙◌, sym, subst}
use Rattle.run_script.specs.Jobs.{IsJob}
use Rattle.box_watch.specs.WatchText.{watched_text, Watches}
use Rattle.box_watch.proofs.Nexts.{on-ok}
use Rattle.box_watch.proofs.Printed.{watch-holds}
use Rattle.box_watch.proofs.text.whole_watch.Goals as goal

pub returns-clause-tells : goal.returns-clause-tells
returns-clause-tells c =
    let job = c.args.registry.now.job in
    let valid : IsJob job = subst IsJob (c.deref.ensures ∙ c.job.ensures) c.steps-steps.ensures.valid in
    let tells : Watches job (watched_text job c.args.registry.now.journal) = watch-holds job c.args.registry.now.journal valid c.requires in
    on-ok (λ text. text.items ≡ watched_text job c.args.registry.now.journal) (λ text. Watches job text.items) (λ text e. subst (Watches job) (sym e) tells) c.text_of.result c.text_of.ensures
