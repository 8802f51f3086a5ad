use Rattle.std.proofs.Common.{◌≡◌, sym, subst}
use Rattle.std.specs.Arc.{arc_value}
use Rattle.run_script.specs.Jobs.{IsJob, job_of}
use Rattle.run_script.proofs.JobLemmas.{job-fits}
use Rattle.run_script.proofs.job.Job.check.Goals as goal

pub invariant_of-result : goal.invariant_of-result
invariant_of-result c =
    let fit = c.in_ok-check_script.ensures in
    let is : arc_value c.in_ok-new.field-0 ≡ c.args.mesh = c.in_ok-new.ensures.ok in
    rw (c.into_plans-plans.ensures, c.in_ok-sessions.ensures, c.sessions.ensures.sessions)
    (subst (λ m. IsJob (job_of m c.args.script)) (sym is) (job-fits c.args.mesh c.args.script fit.mesh fit.script fit.finds))
