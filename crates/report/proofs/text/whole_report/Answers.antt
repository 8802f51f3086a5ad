use Rattle.std.proofs.Common.{◌≡◌, ◌∙◌, sym, subst}
use Rattle.std.specs.Prelude.{IfOk, Result, Ok, Err}
use Rattle.run_script.specs.Jobs.{IsJob}
use Rattle.report.specs.Report.{report_text}
use Rattle.report.specs.Headline.{Reports}
use Rattle.report.proofs.Holds.{report-holds}
use Rattle.report.proofs.text.whole_report.Goals as goal

-- what holds of an Ok value follows from another fact of it
on-ok : {A E : Type 0} (P Q : A → Type 0) → ((a : A) → P a → Q a) → (r : Result A E) → IfOk r P → IfOk r Q
on-ok P Q f (Ok a) p = f a p
on-ok P Q f (Err e) p = tt

pub returns-clause-tells : goal.returns-clause-tells
returns-clause-tells c =
    let job = c.args.registry.now.job in
    let valid : IsJob job = subst IsJob (c.deref.ensures ∙ c.job.ensures) c.steps-steps.ensures.valid in
    let tells : Reports job (report_text job c.args.registry.now.journal) = report-holds job c.args.registry.now.journal valid c.requires in
    on-ok (λ text. text.items ≡ report_text job c.args.registry.now.journal) (λ text. Reports job text.items) (λ text e. subst (Reports job) (sym e) tells) c.report_of.result c.report_of.ensures
