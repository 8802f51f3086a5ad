-- What a report tells.
use Rattle.std.specs.Prelude.{◌≡◌, ℕ, ◌≤◌, ◌<◌, ◌&&◌, not, nat_lt, List, ◌∷◌, ◌++◌, length, map, Some, All, Contains}
use Rattle.std.specs.List.{range_with_len}
use Rattle.std.specs.List.Sorted.{IsStrictlyIncreasing}
use Rattle.mesh_base.specs.Place.{Area}
use Rattle.mesh_base.specs.Scan.{scan}
use Rattle.mesh_base.specs.Parts.{IsCovered}
use Rattle.mesh_base.specs.declared.answer.Answer.{Answer}
use Rattle.run_script.specs.Jobs.{JobView, steps, turns_of, box_count, step_at}
use Rattle.step_registry.specs.declared.event.Event.{Event}
use Rattle.step_registry.specs.declared.event.Event.TheVariants.{Pin}
use Rattle.step_registry.specs.Core.{turn_at, after, session_of, is_out, freed, IsWhole}
use Rattle.step_registry.specs.CoreLaws.{one_if}
use Rattle.step_registry.specs.SeatLaws.{times}
use Rattle.step_registry.specs.Runs.{area_at}
use Rattle.report.specs.Report.{report_text, listed}
use Rattle.report.specs.Printed.{printed_journal}

-- The steps that a session pins never fall, and each is at least the need of its turn.
abbrev pub PinsNeverFall : JobView → List Event → Type 0
PinsNeverFall job h =
    (g rest : List Event) (s k : ℕ) → h ≡ g ++ Pin s k ∷ rest
    → ((turn_at job s (session_of (after job g) s).done).need ≤ k)
    × ((f later : List Event) (j : ℕ) → g ≡ f ++ Pin s j ∷ later → j ≤ k)

-- the box that an answer belongs to
abbrev pub area_of : JobView → Answer → Area
area_of job a = area_at (turns_of job a.session) a.query

-- The answer names a step of the job. Its list is ascending without repeats and lies in the scan of that step. Where
-- the box is covered, it is the scan.
pub record IsTrueAnswer (job : JobView) (a : Answer) : Type 0 where
  pub published : a.step ≤ steps job
  pub ascending : IsStrictlyIncreasing a.vertices
  pub inside : (v : ℕ) → Contains a.vertices v → Contains (scan (step_at job a.step) (area_of job a)) v
  pub covered : IsCovered (step_at job a.step) (area_of job a) → a.vertices ≡ scan (step_at job a.step) (area_of job a)

-- each answer that is listed
abbrev pub AnswersAreTrue : JobView → List Event → Type 0
AnswersAreTrue job h = (s : ℕ) → s < length job.sessions → All (IsTrueAnswer job) (listed job h s)

abbrev pub query_of : Answer → ℕ
query_of a = a.query

-- for each session the answers of its boxes are listed, each once and in order
abbrev pub BoxesInOrder : JobView → List Event → Type 0
BoxesInOrder job h =
    (s : ℕ) → s < length job.sessions
    → map query_of (listed job h s) ≡ range_with_len 0 (box_count (turns_of job s))

-- After each front of the history, each number below newest that no session has out was freed once, and no other number
-- was freed.
abbrev pub FreesExactly : JobView → List Event → Type 0
FreesExactly job h =
    (g rest : List Event) → h ≡ g ++ rest → (k : ℕ)
    → times k (freed job g) ≡ one_if (nat_lt k (after job g).newest && not (is_out (after job g).sessions k))

-- what is true of a whole history of a job
pub record IsWholeRun (job : JobView) (h : List Event) : Type 0 where
  pub whole : IsWhole job h
  pub pins : PinsNeverFall job h
  pub boxes : BoxesInOrder job h
  pub answers : AnswersAreTrue job h
  pub freed : FreesExactly job h

-- The text is the report of the history that its journal lines print, that history is whole, and the rest is true of
-- it.
pub record Reports (job : JobView) (text : List ℕ) : Type 0 where
  pub history : List Event
  pub printed : printed_journal text ≡ Some history
  pub report : text ≡ report_text job history
  pub tells : IsWholeRun job history
