use Rattle.std.proofs.Common.{◌++◌, ◌∷◌, [], ap, ◌∙◌, replicate}
use Rattle.std.proofs.lemmas.List.{replicate-append-replicate}
use Rattle.demo_job.specs.Demo.{demo_items}
use Rattle.demo_job.proofs.make.all_sessions.Goals as goal

pub loop-preserved : goal.loop-preserved
loop-preserved c =
    let items = demo_items c.args.n in
    c.in_ok-push.ensures.items ∙ ap (λ ss. ss ++ c.in_ok-session_items.field-0 ∷ []) c.loop.invariant
    ∙ ap (λ s. replicate c.loop.counter items ++ s ∷ []) c.in_ok-session_items.ensures ∙ replicate-append-replicate c.loop.counter 1 items
