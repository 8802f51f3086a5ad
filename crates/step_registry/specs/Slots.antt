-- What a driven core keeps for each session.
use Rattle.std.specs.Prelude.{◌≡◌, ℕ, suc, ◌+◌, List, [], ◌∷◌, None}
use Rattle.std.specs.List.{cons_option}
use Rattle.run_script.specs.Jobs.{JobView, turns_of}
use Rattle.step_registry.specs.declared.event.SessionState.{SessionState}
use Rattle.step_registry.specs.declared.slots.Slot.{Slot}
use Rattle.step_registry.specs.Pins.{PinView}
use Rattle.step_registry.specs.Core.{State, after, IsLegal, first_query}
use Rattle.step_registry.specs.Laws.{RegistryView}
use Rattle.step_registry.specs.Runs.{pin_out}

abbrev pub no_slot : Slot
no_slot = record { pin = None; asked = 0 }

-- what a session has out, and how many boxes the turns have that it has done
abbrev pub slot : JobView → ℕ → SessionState → Slot
slot job s me = record { pin = pin_out job s me.out; asked = first_query (turns_of job s) me.done }

abbrev pub slots_from : JobView → ℕ → List SessionState → List Slot
slots_from job s [] = []
slots_from job s (me ∷ rest) = slot job s me ∷ slots_from job (suc s) rest

abbrev pub slots_of : JobView → State → List Slot
slots_of job st = slots_from job 0 st.sessions

-- the pins that are there, in their order
abbrev pub pins_in : List Slot → List PinView
pins_in [] = []
pins_in (s ∷ slots) = cons_option s.pin (pins_in slots)

-- a core between two events: the work is for its job and at the next step, and each slot has what its session has out
pub record IsReady (view : RegistryView) (job : JobView) (next : ℕ) (slots : List Slot) : Type 0 where
  pub legal : IsLegal view.job view.journal
  pub job_is : job ≡ view.job
  pub next_is : next ≡ (after view.job view.journal).newest + 1
  pub slots_are : slots ≡ slots_of view.job (after view.job view.journal)
