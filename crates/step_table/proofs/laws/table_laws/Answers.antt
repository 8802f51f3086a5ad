use Rattle.std.proofs.Common.{sym, subst, ap, ◌∙◌}
use Rattle.step_registry.specs.declared.event.SessionState.{SessionState}
use Rattle.step_registry.specs.Core.{after, session_of}
use Rattle.step_table.specs.Seats.{SessionView, PublisherView, state_of}
use Rattle.step_table.proofs.Steps.{says_ended, word_known, front_same, state_same}
use Rattle.step_table.proofs.laws.table_laws.Goals as goal

pub returns-clause-ended : goal.returns-clause-ended
returns-clause-ended c = says_ended

pub returns-clause-told : goal.returns-clause-told
returns-clause-told c = word_known

pub returns-clause-whole : goal.returns-clause-whole
returns-clause-whole c = λ job h p each legal pj pf newest closed ends. (let front = front_same job h p.seen pf.own in record {
  legal = legal;
  newest = front.0 ∙ (ap (λ j. (after j p.seen).newest) (sym pj) ∙ newest);
  closed = front.1 ∙ (ap (λ j. (after j p.seen).closed) (sym pj) ∙ closed);
  done = λ s lt. (let e = ends s lt in let same = state_same job h (each s).seen s lt e.follows.own ∙ (ap (λ j. session_of (after j (each s).seen) s) (sym e.job_is) ∙ ap (session_of (after (each s).job (each s).seen)) (sym e.number)) in
      (ap (λ (w : SessionState). w.done) same ∙ e.done, ap (λ (w : SessionState). w.out) same ∙ e.out));
})
