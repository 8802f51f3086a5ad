use Rattle.std.specs.Arc.{arc_value}
use Rattle.job_steps.proofs.Played.{shape_is, places_are, same_step}
use Rattle.job_steps.proofs.maker.Maker.last_step.Goals as goal

pub new-requires-clause-shape : goal.new-requires-clause-shape
new-requires-clause-shape c =
    shape_is _ _ _ _ (same_step _ _ _ _ _ _ _ c.in_ok-clone.ensures.cases c.in_ok-shape.ensures.ok c.in_ok-clone-2.ensures.cases (c.self.invariant.now c.if-self.false))

pub new-requires-clause-places : goal.new-requires-clause-places
new-requires-clause-places c =
    places_are _ _ _ _ (same_step _ _ _ _ _ _ _ c.in_ok-clone.ensures.cases c.in_ok-shape.ensures.ok c.in_ok-clone-2.ensures.cases (c.self.invariant.now c.if-self.false))
