use Rattle.std.proofs.Common.{◌<◌, length, sym, subst, ap, ◌∙◌}
use Rattle.std.proofs.lemmas.Bool.{ltb-true}
use Rattle.run_script.specs.Jobs.{JobView}
use Rattle.std.specs.Arc.{arc_value}
use Rattle.step_registry.proofs.KeptSteps.{session_there}
use Rattle.step_registry.proofs.registry.Registry.enabled.Goals as goal
use Rattle.step_registry.proofs.registry.Registry.enabled.Goals.{then-session-sessions, else-session-sessions}

pub can_pin-requires : goal.can_pin-requires
can_pin-requires c =
    let below : c.in-Pin.session < c.sessions.result = elim c.if-session-sessions.branch [ then-session-sessions w ↦ w.if-session-sessions.true | else-session-sessions w ↦ ltb-true c.in-Pin.session c.sessions.result (sym w.value-is ∙ c.if-step-self-2.true) ] in
    let lt : c.in-Pin.session < length (arc_value c.self.inside.job).sessions = subst (λ n. c.in-Pin.session < n) (c.sessions.ensures.sessions ∙ ap (λ (j : JobView). length j.sessions) c.deref-in-Pin.ensures) below in
    record {
      there = (
        subst (λ l. c.in-Pin.session < length l) (sym c.as_slice.ensures.value) (session_there _ _ _ _ _ _ _ _ _ c.in-Pin.session c.self.invariant lt),
        subst (λ (j : JobView). c.in-Pin.session < length j.sessions) (sym c.deref-then-step-self-2.ensures) lt,
      );
    }

pub has_pinned-requires : goal.has_pinned-requires
has_pinned-requires c =
    let lt : c.in-Unpin.session < length (arc_value c.self.inside.job).sessions = subst (λ n. c.in-Unpin.session < n) (c.sessions-in-Unpin.ensures.sessions ∙ ap (λ (j : JobView). length j.sessions) c.deref-in-Unpin.ensures) c.if-session-sessions-2.true in
    subst (λ l. c.in-Unpin.session < length l) (sym c.as_slice-then-session-sessions-2.ensures.value) (session_there _ _ _ _ _ _ _ _ _ c.in-Unpin.session c.self.invariant lt)
