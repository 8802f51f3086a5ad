use Rattle.std.proofs.Common.{◌∙◌}
use Rattle.std.specs.List.{range_with_len}
use Rattle.std.proofs.Common.{arith, ◌≡◌, length, ap}
use Rattle.step_registry.specs.Core.{first, after, session_of, fresh, State}
use Rattle.step_registry.specs.CoreLaws.{legal_part, legal_rest, rises, after-append, length_fits, answers_fit, first-sound, get-replicate}
use Rattle.step_registry.specs.SeatLaws.{none_stopped, freed_exact, pins_rise, done_counts, publishes_from, front_own, session_own}
use Rattle.step_registry.specs.Lines.{session_answers, turns_at, steps_of}
use Rattle.std.specs.Prelude.{refl, ◌-◌}
use Rattle.step_registry.proofs.HeldLaws.{held_exact, held_fewer}
use Rattle.step_registry.proofs.laws.core_laws.Goals as goal

pub returns-clause-begins : goal.returns-clause-begins
returns-clause-begins c = λ job g h l. legal_part job (first job) g h l

pub returns-clause-rises : goal.returns-clause-rises
returns-clause-rises c = λ job g h l. let up = rises job (after job g) h (legal_rest job (first job) g h l) in let cut = ap (λ (z : State). z.newest) (after-append (first job) g h) in omega arith

pub returns-clause-events : goal.returns-clause-events
returns-clause-events c = λ job h l. length_fits job h l

pub returns-clause-answers : goal.returns-clause-answers
returns-clause-answers c = λ job h l. answers_fit job h l

pub returns-clause-goes : goal.returns-clause-goes
returns-clause-goes c = λ job h s w lt. none_stopped job h s w lt

pub returns-clause-each_done : goal.returns-clause-each_done
returns-clause-each_done c = λ job h s w lt.
    let even = (first-sound job).even in let all = done_counts (first job) s h (omega arith) in
    let start : (session_of (first job) s).done ≡ 0 = ap (λ me. me.done) (get-replicate (length job.sessions) s fresh) in let done = (w.done s lt).0 in omega arith

pub returns-clause-freed_once : goal.returns-clause-freed_once
returns-clause-freed_once c = λ job h k l. freed_exact job h k l

pub returns-clause-pins_rise : goal.returns-clause-pins_rise
returns-clause-pins_rise c = λ job h s l. pins_rise job (first job) s 0 h (omega arith) l

pub returns-clause-publishes : goal.returns-clause-publishes
returns-clause-publishes c = λ job h l. let z : (after job h).newest - 0 ≡ (after job h).newest = omega arith in publishes_from job (first job) h l ∙ ap (range_with_len 1) z

pub returns-clause-publisher : goal.returns-clause-publisher
returns-clause-publisher c = λ job h. front_own (first job) h

pub returns-clause-session : goal.returns-clause-session
returns-clause-session c = λ job h s lt. let even = (first-sound job).even in session_own (first job) (first job) s h (omega arith) (omega arith) refl

pub returns-clause-lines : goal.returns-clause-lines
returns-clause-lines c = λ job h s lt.
    let even = (first-sound job).even in let start : (session_of (first job) s).done ≡ 0 = ap (λ me. me.done) (get-replicate (length job.sessions) s fresh) in
    session_answers job (first job) s h (omega arith) ∙ ap (λ d. turns_at job s d (steps_of s h)) start

pub returns-clause-held : goal.returns-clause-held
returns-clause-held c = held_exact

pub returns-clause-held_few : goal.returns-clause-held_few
returns-clause-held_few c = held_fewer
