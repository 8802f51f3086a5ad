use Rattle.std.proofs.Common.{ap, ◌∙◌, subst}
use Rattle.run_script.specs.Outcome.{IsFault}
use Rattle.run_script.specs.Jobs.{checked}
use Rattle.sample_meshes.specs.Block.{block}
use Rattle.demo_job.specs.Demo.{demo_script}
use Rattle.demo_job.proofs.DemoLemmas.{job-from, no-fault}
use Rattle.demo_job.proofs.make.make_demo.Goals as goal

pub unreachable-requires : goal.unreachable-requires
unreachable-requires c =
    let side = c.cubes-n.ensures.number in
    let fault = subst (λ f. IsFault f (checked c.in_ok-mesh.mesh c.in_ok-script.script)) c.in-Err-Bad.field-0-is c.in-Err-Bad.ensures in
    no-fault c.args.side c.args.seed c.in_ok-mesh.mesh c.in_ok-script.script _ (c.in_ok-mesh.ensures ∙ ap block side)
    (c.in_ok-script.ensures ∙ ap (λ n. demo_script n c.args.seed) side) fault

pub returns-in-Ok : goal.returns-in-Ok
returns-in-Ok c =
    let side = c.cubes-n.ensures.number in
    job-from c.args.side c.args.seed c.in_ok-mesh.mesh c.in_ok-script.script c.in-Ok.job (c.in_ok-mesh.ensures ∙ ap block side)
    (c.in_ok-script.ensures ∙ ap (λ n. demo_script n c.args.seed) side) c.in-Ok.ensures
