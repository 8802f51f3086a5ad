-- The text of the watches of a history.
use Rattle.std.specs.Prelude.{◌≡◌, ℕ, List, ◌++◌, length, codes, flat_map, Option, Some, None}
use Rattle.std.specs.List.{range_with_len}
use Rattle.std.specs.Fmt.{decimal}
use Rattle.run_script.specs.Jobs.{JobView}
use Rattle.step_registry.specs.declared.event.Event.{Event}
use Rattle.report.specs.Report.{line, list_line, session_words, journal_text, sizes_text}
use Rattle.report.specs.Printed.{printed_journal}
use Rattle.report.specs.Headline.{IsWholeRun}
use Rattle.box_watch.specs.declared.watch.Watch.{Watch}
use Rattle.box_watch.specs.Watches.{session_watches}

-- the number of the box before, or a minus where there is none
abbrev pub prior_word : Option ℕ → List ℕ
prior_word None = codes "-"
prior_word (Some q) = decimal q

-- what stands on the line of a box
abbrev pub watch_words : Watch → List ℕ
watch_words w =
    codes "box " ++ decimal w.query ++ codes " step " ++ decimal w.step ++ codes " from " ++ prior_word w.prior
    ++ codes " entered " ++ decimal (length w.entered) ++ codes " left " ++ decimal (length w.left)

-- the line of a box, and the lines of what entered and of what left
abbrev pub watch_lines : Watch → List ℕ
watch_lines w = line (watch_words w) ++ list_line w.entered ++ list_line w.left

abbrev pub watched_session : JobView → List Event → ℕ → List ℕ
watched_session job h s = line (session_words job s) ++ flat_map watch_lines (session_watches job h s)

-- the text of a history of a job
unfoldable pub watched_text : JobView → List Event → List ℕ
watched_text job h =
    line (codes "octopus watch 1") ++ sizes_text job
    ++ flat_map (watched_session job h) (range_with_len 0 (length job.sessions))
    ++ journal_text h ++ line (codes "end")

-- The text is that of the history that its journal lines print, that history is whole, and all that a whole run keeps
-- is true of it.
pub record Watches (job : JobView) (text : List ℕ) : Type 0 where
  pub history : List Event
  pub printed : printed_journal text ≡ Some history
  pub watched : text ≡ watched_text job history
  pub tells : IsWholeRun job history
