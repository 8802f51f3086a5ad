use Rattle.std.proofs.Common.{◌++◌, ◌∷◌, [], ap, ◌∙◌, replicate}
use Rattle.std.proofs.lemmas.List.{replicate-append-replicate}
use Rattle.demo_job.specs.Demo.{demo_plan}
use Rattle.demo_job.proofs.make.all_plans.Goals as goal

pub loop-preserved : goal.loop-preserved
loop-preserved c =
    let plan = demo_plan c.args.seed in
    c.in_ok-push.ensures.items ∙ ap (λ ps. ps ++ c.shaking_plan.result ∷ []) c.loop.invariant
    ∙ ap (λ p. replicate c.loop.counter plan ++ p ∷ []) c.shaking_plan.ensures ∙ replicate-append-replicate c.loop.counter 1 plan
