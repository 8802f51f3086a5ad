-- A core that a list of events drives.
use Rattle.std.specs.Prelude.{◌≡◌, ℕ, pos, suc, zero, ◌+◌, ◌-◌, ◌≤◌, ◌<◌, ◌≢◌, nat_lt, false, cond, All, List, [], ◌∷◌, ◌++◌, length, take, slice_index_or, Option, Some, None, refl}
use Rattle.std.specs.List.{AllPairs, cons_option}
use Rattle.std.proofs.Common.{arith, sym, ◌∙◌, ap}
use Rattle.std.proofs.lemmas.List.Sums.{sum_by-cons}
use Rattle.std.proofs.lemmas.Bool.{lt-ltb, le-ltb}
use Rattle.mesh_base.specs.Place.{Place, Area}
use Rattle.mesh_base.specs.declared.answer.Answer.{Answer}
use Rattle.run_script.specs.Jobs.{JobView, turns_of}
use Rattle.run_script.specs.declared.job.SessionTurn.{SessionTurn}
use Rattle.step_registry.specs.declared.event.Event.{Event}
use Rattle.step_registry.specs.declared.event.Event.TheVariants.{Unpin, Close}
use Rattle.step_registry.specs.declared.event.SessionState.{SessionState}
use Rattle.step_registry.specs.declared.stop.CoreStop.{CoreStop}
use Rattle.step_registry.specs.declared.stop.CoreStop.TheVariants.{All as AllOf, NotEnabled, NoMemory}
use Rattle.step_registry.specs.Pins.{PinView, pin_of}
use Rattle.step_registry.specs.Core.{State, session_of, CanHappen, after, first_query, no_turn, answer_to, answer_run}

-- ---- work

-- the job that work is for, and the number of the next step that it makes
pub record WorkView : Type 0 where
  pub job : JobView
  pub next : ℕ

-- the box with all corners at the origin
abbrev pub no_area : Area
no_area = let origin : Place = (pos 0, pos 0, pos 0) in record { lo = origin; hi = origin }

-- box q of these turns, one turn after the other
abbrev pub area_at : List SessionTurn → ℕ → Area
area_at [] q = no_area
area_at (t ∷ ts) q = cond (nat_lt q (length t.areas)) (slice_index_or t.areas q no_area)
    (area_at ts (q - length t.areas))

-- the answer of box q of session s at step k
abbrev pub answer_at : JobView → ℕ → ℕ → ℕ → Answer
answer_at job s q k = answer_to job s q k (area_at (turns_of job s) q)

-- the boxes of one turn among all
pub turn_area : (turns : List SessionTurn) (t i : ℕ) → t < length turns
    → i < length (slice_index_or turns t no_turn).areas
    → area_at turns (first_query turns t + i) ≡ slice_index_or (slice_index_or turns t no_turn).areas i no_area
turn_area [] t i lt li = absurd (omega arith)
turn_area (x ∷ xs) zero i lt li = let z : 0 + i ≡ i = omega arith in ap (area_at (x ∷ xs)) z ∙ ap (λ b. cond b (slice_index_or x.areas i no_area) (area_at xs (i - length x.areas))) (lt-ltb i (length x.areas) li)
turn_area (x ∷ xs) (suc t) i lt li =
    let sum = sum_by-cons (λ turn. length turn.areas) x (take t xs) in let q = first_query (x ∷ xs) (suc t) + i in
    let past : length x.areas ≤ q = omega arith in let rest : q - length x.areas ≡ first_query xs t + i = omega arith in
    ap (λ b. cond b (slice_index_or x.areas q no_area) (area_at xs (q - length x.areas))) (le-ltb q (length x.areas) past) ∙ (ap (area_at xs) rest ∙ turn_area xs t i (omega arith) li)

-- one answer more of a turn
pub run-more : (job : JobView) (s k q i : ℕ) (areas : List Area) → i < length areas
    → answer_run job s k q (take (i + 1) areas) ≡ answer_run job s k q (take i areas)
    ++ answer_to job s (q + i) k (slice_index_or areas i no_area) ∷ []
run-more job s k q i [] lt = absurd (omega arith)
run-more job s k q zero (x ∷ xs) lt = let z : q + 0 ≡ q = omega arith in ap (λ j. answer_to job s j k x ∷ []) (sym z)
run-more job s k q (suc i) (x ∷ xs) lt =
    let e : suc i + 1 ≡ suc (i + 1) = omega arith in let z : (q + 1) + i ≡ q + suc i = omega arith in
    ap (λ n. answer_run job s k q (take n (x ∷ xs))) e ∙ ap (λ l. answer_to job s q k x ∷ l) (run-more job s k (q + 1) i xs (omega arith) ∙ ap (λ j. answer_run job s k (q + 1) (take i xs) ++ answer_to job s j k (slice_index_or xs i no_area) ∷ []) z)

-- a turn within bounds, whatever stands past them
pub turn-any : (xs : List SessionTurn) (i : ℕ) (d e : SessionTurn) → i < length xs
    → slice_index_or xs i d ≡ slice_index_or xs i e
turn-any [] i d e lt = absurd (omega arith)
turn-any (x ∷ xs) zero d e lt = refl
turn-any (x ∷ xs) (suc i) d e lt = turn-any xs i d e (omega arith)

-- ---- what sessions have out

-- the pin of session s, if it has a step out
abbrev pub pin_out : JobView → ℕ → Option ℕ → Option PinView
pin_out job s None = None
pin_out job s (Some k) = Some (pin_of job s k)

abbrev pub pins_from : JobView → ℕ → List SessionState → List PinView
pins_from job s [] = []
pins_from job s (me ∷ rest) = cons_option (pin_out job s me.out) (pins_from job (suc s) rest)

-- the pins of all sessions that have a step out, in ascending session order
abbrev pub pins_of : JobView → State → List PinView
pins_of job st = pins_from job 0 st.sessions

-- the pin is of the job, and its session has its step out
abbrev pub IsOut : JobView → State → PinView → Type 0
IsOut job st pin = (pin.step.job ≡ job) × (pin.session < length job.sessions)
    × ((session_of st pin.session).out ≡ Some pin.step.number)

-- each pin is of the job and its session has its step out, and no two pins are of one session
pub record CanGiveUp (job : JobView) (st : State) (pins : List PinView) : Type 0 where
  pub out : All (IsOut job st) pins
  pub once : AllPairs (λ p q. p.session ≢ q.session) pins

-- the pin is given back unanswered
abbrev pub give_event : PinView → Event
give_event pin = Unpin pin.session pin.step.number false

-- ---- how a run over a list of events ends

-- All: the journal is the events. NotEnabled: it is those before the place, and the event at the place may not happen
-- then. NoMemory: it is those before the place.
abbrev pub EndsAs : JobView → List Event → List Event → CoreStop → Type 0
EndsAs job events journal AllOf = journal ≡ events
EndsAs job events journal (NotEnabled place) = (place < length events) × (journal ≡ take place events)
    × (CanHappen job (after job journal) (slice_index_or events place Close) → ⊥)
EndsAs job events journal (NoMemory place) = (place ≤ length events) × (journal ≡ take place events)
