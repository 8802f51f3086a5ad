use Rattle.std.proofs.Common.{◌∙◌, All, arith, sym, ap, subst, length, length-append}
use Rattle.std.specs.Arc.{arc_value}
use Rattle.std.proofs.lemmas.List.Elements.{All-append}
use Rattle.mesh_base.specs.Place.{IsPlace}
use Rattle.run_script.specs.Scripts.{IsEdit}
use Rattle.job_steps.proofs.PlanLaws.{new_points_in_range}
use Rattle.job_steps.proofs.Played.{added-len, edited_mesh}
use Rattle.job_steps.proofs.ground.edited_places.Goals as goal

pub with_added-requires : goal.with_added-requires
with_added-requires c =
    let of_plan = c.items.ensures ∙ ap (λ p. p.edits) c.plan.ensures.plan in
    let added = c.deref.ensures.value ∙ c.in_ok-added.ensures.added in
    let len = added-len c.args.job.now c.args.k c.args.topo.now c.make_edits.new.topo (arc_value c.args.places.now) c.requires.now c.items.result.now of_plan c.in_ok-added.ensures.edited c.deref.result.now added in
    omega (arith, len, c.points-few.ensures.few)

pub returns-clause-points : goal.returns-clause-points
returns-clause-points c =
    let of_plan = c.items.ensures ∙ ap (λ p. p.edits) c.plan.ensures.plan in
    let added = c.deref.ensures.value ∙ c.in_ok-added.ensures.added in
    let places = arc_value c.args.places.now in
    ap length c.in_ok-after.ensures ∙ length-append places c.deref.result.now
    ∙ added-len c.args.job.now c.args.k c.args.topo.now c.make_edits.new.topo places c.requires.now c.items.result.now of_plan c.in_ok-added.ensures.edited c.deref.result.now added

pub returns-clause-in_range : goal.returns-clause-in_range
returns-clause-in_range c =
    let added = c.deref.ensures.value ∙ c.in_ok-added.ensures.added in
    let in_range = new_points_in_range c.items.result.now (subst (All (λ e. IsEdit e.edit)) (sym c.items.ensures) c.plan.ensures.in_range.edits) in
    subst (All IsPlace) (sym c.in_ok-after.ensures) (All-append IsPlace (arc_value c.args.places.now) c.deref.result.now c.requires.in_range (subst (All IsPlace) (sym added) in_range))

pub returns-clause-mesh : goal.returns-clause-mesh
returns-clause-mesh c =
    let of_plan = c.items.ensures ∙ ap (λ p. p.edits) c.plan.ensures.plan in
    let added = c.deref.ensures.value ∙ c.in_ok-added.ensures.added in
    edited_mesh c.args.job.now c.args.k c.args.topo.now c.make_edits.new.topo (arc_value c.args.places.now) c.requires.now c.items.result.now of_plan c.in_ok-added.ensures.edited c.deref.result.now (arc_value c.in_ok-after.after) added c.in_ok-after.ensures
