use Rattle.std.proofs.Common.{arith, rules, ◌≡◌, ap, ◌∙◌, slice_index_or}
use Rattle.std.proofs.lemmas.List.{get_or_default}
use Rattle.run_script.specs.Jobs.{step_at}
use Rattle.mesh_base.specs.Query as query
use Rattle.step_view.specs.StepView.{StepView, step_of}
use Rattle.step_registry.specs.Runs.{no_area}
use Rattle.run_threads.proofs.Turns.{run_next}
use Rattle.run_threads.proofs.turn.answer_areas.Goals as goal

pub loop-area-preserved : goal.loop-area-preserved
loop-area-preserved c = let inv = c.loop-area.invariant in let pin = c.args.pin.now in
    let whole : pin.step ≡ step_of pin.step.job pin.step.number = search rules in
    let mesh : c.step-in-loop-area.result.now.mesh ≡ step_at pin.step.job pin.step.number = ap (λ (x : StepView). x.mesh) (c.step-in-loop-area.ensures ∙ whole) in
    let area : c.area-item.result ≡ slice_index_or c.args.areas.now c.loop-area.area-index no_area = c.area-item.is ∙ get_or_default c.args.areas.now c.loop-area.area-index c.area-item.result no_area c.loop-area-test.true in (
      (search rules),
      omega arith,
      run_next pin.step.job pin.session pin.step.number c.args.first c.loop-area.area-index c.args.areas.now _ _ _ _ _ _ _ c.loop-area-test.true inv.2 (search rules) inv.1 (search rules)
          (c.in_ok-route.ensures.route ∙ (ap (λ m. query.route m c.area-item.result) mesh ∙ ap (query.route (step_at pin.step.job pin.step.number)) area))
          (c.in_ok-route.ensures.list ∙ (ap (λ m. query.answer m c.area-item.result) mesh ∙ ap (query.answer (step_at pin.step.job pin.step.number)) area))
          c.in_ok-push.ensures.items,
    )
