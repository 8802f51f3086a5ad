-- A history to look at.
use Rattle.std.specs.Prelude.{true, List, [], ◌∷◌}
use Rattle.step_registry.specs.declared.event.Event.{Event}
use Rattle.step_registry.specs.declared.event.Event.TheVariants.{Publish, Pin, Unpin}

-- the first session has step 0 out while step 1 is published, the second gets step 1, and the first gives its own back
abbrev pub two_sessions : List Event
two_sessions = Pin 0 0 ∷ Publish 1 ∷ Pin 1 1 ∷ Unpin 0 0 true ∷ []
