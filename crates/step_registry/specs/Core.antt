-- The core: what may happen after what, and what is then so.
use Rattle.std.specs.Prelude.{◌≡◌, ℕ, ◌+◌, ◌-◌, ◌==◌, ◌≤◌, ◌<◌, ◌||◌, nat_lt, Bool, true, false, cond, List, [], ◌∷◌, ◌++◌, length, take, replicate, slice_index_or, slice_set, Option, Some, None}
use Rattle.std.specs.List.{filter, range_with_len, sum_by}
use Rattle.mesh_base.specs.Place.{Area}
use Rattle.mesh_base.specs.Query as query
use Rattle.mesh_base.specs.declared.answer.Route.{Route}
use Rattle.run_script.specs.Jobs.{JobView, steps, step_at, turns_of}
use Rattle.step_view.specs.StepView.{step_of}
use Rattle.step_view.specs.Rows.{SharesView}
use Rattle.run_script.specs.declared.job.SessionTurn.{SessionTurn}
use Rattle.mesh_base.specs.declared.answer.Answer.{Answer}
use Rattle.step_registry.specs.declared.event.Event.{Event}
use Rattle.step_registry.specs.declared.event.Event.TheVariants.{Publish, Pin, Unpin, Close}
use Rattle.step_registry.specs.declared.event.SessionState.{SessionState}

-- turn t of session s; past the last one, a turn without boxes
abbrev pub no_turn : SessionTurn
no_turn = record { need = 0; areas = [] }

abbrev pub turn_at : JobView → ℕ → ℕ → SessionTurn
turn_at job s t = slice_index_or (turns_of job s) t no_turn

pub record State : Type 0 where
  pub newest : ℕ
  pub closed : Bool
  pub sessions : List SessionState

abbrev pub fresh : SessionState
fresh = record { out = None; done = 0; is_stopped = false }

abbrev pub first : JobView → State
first job = record { newest = 0; closed = false; sessions = replicate (length job.sessions) fresh }

abbrev pub session_of : State → ℕ → SessionState
session_of st s = slice_index_or st.sessions s fresh

abbrev pub with_session : State → ℕ → SessionState → State
with_session st s me = record { newest = st.newest; closed = st.closed; sessions = slice_set st.sessions s me }

abbrev pub pinned : ℕ → SessionState → SessionState
pinned k me = record { out = Some k; done = me.done; is_stopped = me.is_stopped }

abbrev pub unpinned : Bool → SessionState → SessionState
unpinned answered me =
    record { out = None; done = cond answered (me.done + 1) me.done; is_stopped = cond answered me.is_stopped true }

-- the state after one event
abbrev pub effect : State → Event → State
effect st (Publish k) = record { newest = k; closed = st.closed; sessions = st.sessions }
effect st (Pin s k) = with_session st s (pinned k (session_of st s))
effect st (Unpin s k answered) = with_session st s (unpinned answered (session_of st s))
effect st Close = record { newest = st.newest; closed = true; sessions = st.sessions }

-- the event may happen in this state
abbrev pub CanHappen : JobView → State → Event → Type 0
CanHappen job st (Publish k) = (k ≡ st.newest + 1) × (k ≤ steps job) × (st.closed ≡ false)
CanHappen job st (Pin s k) =
    (s < length job.sessions) × ((session_of st s).out ≡ None) × ((session_of st s).is_stopped ≡ false)
    × ((session_of st s).done < length (turns_of job s)) × ((turn_at job s (session_of st s).done).need ≤ st.newest)
    × (k ≡ st.newest)
CanHappen job st (Unpin s k answered) = (s < length job.sessions) × ((session_of st s).out ≡ Some k)
CanHappen job st Close = st.closed ≡ false

abbrev pub after_from : State → List Event → State
after_from st [] = st
after_from st (e ∷ es) = after_from (effect st e) es

abbrev pub LegalFrom : JobView → State → List Event → Type 0
LegalFrom job st [] = Unit {0}
LegalFrom job st (e ∷ es) = CanHappen job st e × LegalFrom job (effect st e) es

-- the state after a history, and whether each event could happen after those before it
abbrev pub after : JobView → List Event → State
after job h = after_from (first job) h

abbrev pub IsLegal : JobView → List Event → Type 0
IsLegal job h = LegalFrom job (first job) h

-- how many sessions have step k out
abbrev pub has_out : ℕ → Option ℕ → ℕ
has_out k None = 0
has_out k (Some j) = cond (j == k) 1 0

abbrev pub outs : ℕ → List SessionState → ℕ
outs k sessions = sum_by (λ me. has_out k me.out) sessions

abbrev pub is_out : List SessionState → ℕ → Bool
is_out sessions k = nat_lt 0 (outs k sessions)

-- a session has step k out
abbrev pub HasOut : JobView → State → ℕ → Type 0
HasOut job st k = (s : ℕ) × (s < length job.sessions) × ((session_of st s).out ≡ Some k)

-- the steps below newest that a session has out, ascending
abbrev pub older : State → List ℕ
older st = filter (is_out st.sessions) (range_with_len 0 st.newest)

abbrev pub held : State → List ℕ
held st = older st ++ st.newest ∷ []

-- the steps that an event hands out
abbrev pub freed_by : State → Event → List ℕ
freed_by st (Publish k) = cond (is_out st.sessions st.newest) [] (st.newest ∷ [])
freed_by st (Pin s k) = []
freed_by st (Unpin s k answered) =
    cond (k == st.newest || is_out (effect st (Unpin s k answered)).sessions k) [] (k ∷ [])
freed_by st Close = []

abbrev pub freed_from : State → List Event → List ℕ
freed_from st [] = []
freed_from st (e ∷ es) = freed_by st e ++ freed_from (effect st e) es

abbrev pub freed : JobView → List Event → List ℕ
freed job h = freed_from (first job) h

-- the answers that an event adds
abbrev pub first_query : List SessionTurn → ℕ → ℕ
first_query turns t = sum_by (λ turn. length turn.areas) (take t turns)

-- the answer of a box on step k of a job: how it is found, and its vertices
abbrev pub route_of : JobView → ℕ → Area → Route
route_of job k area = query.route (step_at job k) area

abbrev pub answer_of : JobView → ℕ → Area → List ℕ
answer_of job k area = query.answer (step_at job k) area

abbrev pub answer_to : JobView → ℕ → ℕ → ℕ → Area → Answer
answer_to job s q k area = record {
  session = s;
  query = q;
  step = k;
  route = route_of job k area;
  vertices = answer_of job k area;
}

abbrev pub answer_run : JobView → ℕ → ℕ → ℕ → List Area → List Answer
answer_run job s k q [] = []
answer_run job s k q (area ∷ areas) =
    answer_to job s q k area ∷ answer_run job s k (q + 1) areas

abbrev pub turn_answers : JobView → ℕ → ℕ → ℕ → List Answer
turn_answers job s t k = answer_run job s k (first_query (turns_of job s) t) (turn_at job s t).areas

abbrev pub answers_by : JobView → State → Event → List Answer
answers_by job st (Publish k) = []
answers_by job st (Pin s k) = []
answers_by job st (Unpin s k answered) = cond answered (turn_answers job s (session_of st s).done k) []
answers_by job st Close = []

abbrev pub answers_from : JobView → State → List Event → List Answer
answers_from job st [] = []
answers_from job st (e ∷ es) = answers_by job st e ++ answers_from job (effect st e) es

abbrev pub answers_of : JobView → List Event → List Answer
answers_of job h = answers_from job (first job) h

-- the first sessions have all turns done, and nothing out
abbrev pub AllDone : JobView → List SessionState → ℕ → Type 0
AllDone job sessions n = (s : ℕ) → s < n → ((slice_index_or sessions s fresh).done ≡ length (turns_of job s))
    × ((slice_index_or sessions s fresh).out ≡ None)

-- whole: everything was published, asked and given back
pub record IsWhole (job : JobView) (h : List Event) : Type 0 where
  pub legal : IsLegal job h
  pub newest : (after job h).newest ≡ steps job
  pub closed : (after job h).closed ≡ true
  pub done : AllDone job (after job h).sessions (length job.sessions)

-- the row of shares of a held step
abbrev pub row_of : JobView → List SessionState → ℕ → SharesView
row_of job sessions k = record { step = step_of job k; count = (length job.sessions + 1) - outs k sessions }
