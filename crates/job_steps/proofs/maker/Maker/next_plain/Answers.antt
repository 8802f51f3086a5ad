use Rattle.std.proofs.Common.{◌∙◌, ◌<◌, All, sym, subst, refl}
use Rattle.std.specs.Arc.{arc_value}
use Rattle.mesh_base.specs.Place.{IsPlace}
use Rattle.topo.specs.Topology.{mesh_at}
use Rattle.run_script.specs.Jobs.{steps}
use Rattle.job_steps.proofs.PlanLaws.{moved_in_range}
use Rattle.job_steps.proofs.Played.{next_made, same_step, shape_is, places_are}
use Rattle.job_steps.proofs.maker.Maker.next_plain.Goals as goal

pub new-step-requires-clause-shape : goal.new-step-requires-clause-shape
new-step-requires-clause-shape c =
    let job = c.deref.result.now in
    let k = c.self.inside.made in
    let ground = c.in_ok-ground.ground in
    let u = c.edited.new.topo in
    let more = subst (λ j. k < steps j) (sym c.deref.ensures) (subst (λ v. v.made < steps v.job) (sym c.self.view_is) c.requires) in
    let made = next_made job k ground.step u (arc_value ground.shape) ground.kernel (arc_value ground.places) (arc_value c.in_ok-places.places) more c.in_ok-ground.ensures.mesh
    c.in_ok-ground.ensures.kernel c.in_ok-ground.ensures.step c.in_ok-ground.ensures.shape ground.points c.in_ok-places.ensures in
    let is = same_step job (arc_value c.in_ok-clone.field-0) ground.step u (arc_value c.in_ok-clone-2.field-0) (arc_value c.in_ok-places.places) (arc_value c.in_ok-clone-3.field-0)
    (c.in_ok-clone.ensures.cases ∙ sym c.deref.ensures) (c.in_ok-clone-2.ensures.cases ∙ c.in_ok-ground.ensures.shape) c.in_ok-clone-3.ensures.cases made in
    shape_is _ _ _ _ is

pub new-step-requires-clause-places : goal.new-step-requires-clause-places
new-step-requires-clause-places c =
    let job = c.deref.result.now in
    let k = c.self.inside.made in
    let ground = c.in_ok-ground.ground in
    let u = c.edited.new.topo in
    let more = subst (λ j. k < steps j) (sym c.deref.ensures) (subst (λ v. v.made < steps v.job) (sym c.self.view_is) c.requires) in
    let made = next_made job k ground.step u (arc_value ground.shape) ground.kernel (arc_value ground.places) (arc_value c.in_ok-places.places) more c.in_ok-ground.ensures.mesh
    c.in_ok-ground.ensures.kernel c.in_ok-ground.ensures.step c.in_ok-ground.ensures.shape ground.points c.in_ok-places.ensures in
    let is = same_step job (arc_value c.in_ok-clone.field-0) ground.step u (arc_value c.in_ok-clone-2.field-0) (arc_value c.in_ok-places.places) (arc_value c.in_ok-clone-3.field-0)
    (c.in_ok-clone.ensures.cases ∙ sym c.deref.ensures) (c.in_ok-clone-2.ensures.cases ∙ c.in_ok-ground.ensures.shape) c.in_ok-clone-3.ensures.cases made in
    places_are _ _ _ _ is

pub invariant_of-self-2 : goal.invariant_of-self-2
invariant_of-self-2 c =
    let job = c.deref.result.now in
    let k = c.self.inside.made in
    let ground = c.in_ok-ground.ground in
    let u = c.edited.new.topo in
    let more = subst (λ j. k < steps j) (sym c.deref.ensures) (subst (λ v. v.made < steps v.job) (sym c.self.view_is) c.requires) in
    let made = next_made job k ground.step u (arc_value ground.shape) ground.kernel (arc_value ground.places) (arc_value c.in_ok-places.places) more c.in_ok-ground.ensures.mesh
    c.in_ok-ground.ensures.kernel c.in_ok-ground.ensures.step c.in_ok-ground.ensures.shape ground.points c.in_ok-places.ensures in
    let is = same_step job (arc_value c.self.inside.job) ground.step u u (arc_value c.in_ok-places.places) (arc_value c.in_ok-places.places) (sym c.deref.ensures) refl refl made in
    record {
      job = c.self.invariant.job;
      few = is.few;
      now = λ kept. is;
      in_range = subst (All IsPlace) (sym c.in_ok-places.ensures) (moved_in_range (mesh_at (arc_value ground.places) (arc_value ground.shape)) ground.kernel ground.step);
    }
