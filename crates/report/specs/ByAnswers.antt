-- The report by a list of all answers, which the code goes through once for each session.
use Rattle.std.specs.Prelude.{ℕ, List, ◌++◌, length, codes, flat_map, filter}
use Rattle.std.specs.List.{range_with_len}
use Rattle.mesh_base.specs.declared.answer.Answer.{Answer}
use Rattle.run_script.specs.Jobs.{JobView}
use Rattle.step_registry.specs.declared.event.Event.{Event}
use Rattle.step_registry.specs.Lines.{of_session}
use Rattle.report.specs.Report.{line, answer_text, session_words, sizes_text, journal_text}

abbrev pub session_part : JobView → List Answer → ℕ → List ℕ
session_part job answers s =
    line (session_words job s) ++ flat_map answer_text (filter (of_session s) answers)

-- the parts of the first n sessions
abbrev pub sessions_part : JobView → List Answer → ℕ → List ℕ
sessions_part job answers n = flat_map (session_part job answers) (range_with_len 0 n)

-- the text up to its journal
abbrev pub front_part : JobView → List Answer → List ℕ
front_part job answers =
    line (codes "octopus report 1") ++ sizes_text job ++ sessions_part job answers (length job.sessions)

abbrev pub text_by : JobView → List Answer → List Event → List ℕ
text_by job answers h = front_part job answers ++ journal_text h ++ line (codes "end")
