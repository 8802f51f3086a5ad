use Rattle.std.proofs.Common.{sym, subst, arith, replicate}
use Rattle.run_script.specs.Scripts.{IsScript}
use Rattle.demo_job.specs.Demo.{demo_steps, demo_plan}
use Rattle.demo_job.proofs.DemoLemmas.{script-fits}
use Rattle.demo_job.proofs.make.make_script.Goals as goal

pub of-requires : goal.of-requires
of-requires c =
    subst (λ ps. IsScript (record { version = 1; plans = ps; sessions = c.in_ok-sessions.sessions })) (sym c.in_ok-plans.ensures)
    (subst (λ ss. IsScript (record { version = 1; plans = replicate demo_steps (demo_plan c.args.seed); sessions = ss })) (sym c.in_ok-sessions.ensures)
    (script-fits c.args.n c.args.seed c.requires (omega arith)))
