-- The report of a history, line by line.
use Rattle.std.specs.Prelude.{ℕ, List, [], ◌∷◌, ◌++◌, length, codes, flat_map}
use Rattle.std.specs.List.{range_with_len}
use Rattle.std.specs.Fmt.{decimal}
use Rattle.oct_text.specs.Printing.{list_spelling}
use Rattle.mesh_base.specs.declared.answer.Answer.{Answer}
use Rattle.mesh_base.specs.declared.answer.Route.{Route}
use Rattle.mesh_base.specs.declared.answer.Route.TheVariants as routes
use Rattle.run_script.specs.Jobs.{JobView, steps, turns_of, box_count}
use Rattle.step_registry.specs.declared.event.Event.{Event}
use Rattle.step_registry.specs.declared.event.Event.TheVariants.{Publish, Pin, Unpin, Close}
use Rattle.step_registry.specs.Lines.{turns_at, steps_of}

-- the text with a line feed behind it
abbrev pub line : List ℕ → List ℕ
line text = text ++ 10 ∷ []

abbrev pub route_word : Route → List ℕ
route_word routes.Probe = codes "probe"
route_word routes.Walk = codes "walk"
route_word routes.Scan = codes "scan"

-- a line of the numbers with single spaces, and no line where there is no number
abbrev pub list_line : List ℕ → List ℕ
list_line [] = []
list_line (n ∷ ns) = line (list_spelling (n ∷ ns))

-- what stands on the line of a box
abbrev pub answer_words : Answer → List ℕ
answer_words a =
    codes "box " ++ decimal a.query ++ codes " step " ++ decimal a.step
    ++ codes " route " ++ route_word a.route ++ codes " count " ++ decimal (length a.vertices)

-- the line of a box, and the line of its vertices
abbrev pub answer_text : Answer → List ℕ
answer_text a = line (answer_words a) ++ list_line a.vertices

-- The answers of a session, box by box: those of its turns in order, each at the step that the session's answered unpin
-- of the same number names.
abbrev pub listed : JobView → List Event → ℕ → List Answer
listed job h s = turns_at job s 0 (steps_of s h)

abbrev pub session_words : JobView → ℕ → List ℕ
session_words job s =
    codes "session " ++ decimal s ++ codes " boxes " ++ decimal (box_count (turns_of job s))

abbrev pub session_text : JobView → List Event → ℕ → List ℕ
session_text job h s = line (session_words job s) ++ flat_map answer_text (listed job h s)

abbrev pub event_words : Event → List ℕ
event_words (Publish k) = codes "publish " ++ decimal k
event_words (Pin s k) = codes "pin " ++ decimal s ++ codes " " ++ decimal k
event_words (Unpin s k answered) = codes "unpin " ++ decimal s ++ codes " " ++ decimal k
event_words Close = codes "close"

abbrev pub event_text : Event → List ℕ
event_text e = line (event_words e)

-- how many events there are, and each event
abbrev pub journal_text : List Event → List ℕ
journal_text h = line (codes "journal " ++ decimal (length h)) ++ flat_map event_text h

abbrev pub sizes_text : JobView → List ℕ
sizes_text job =
    line (codes "steps " ++ decimal (steps job))
    ++ line (codes "sessions " ++ decimal (length job.sessions))

-- the report of a history of a job
unfoldable pub report_text : JobView → List Event → List ℕ
report_text job h =
    line (codes "octopus report 1") ++ sizes_text job
    ++ flat_map (session_text job h) (range_with_len 0 (length job.sessions))
    ++ journal_text h ++ line (codes "end")
