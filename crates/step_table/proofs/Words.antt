-- What a seat knows by the words that it loads.
use Rattle.std.specs.Prelude.{◌≡◌, ℕ, ◌+◌, ◌/◌, ◌≤◌, ◌<◌, max, List, ◌∷◌, ◌++◌, All, refl}
use Rattle.std.proofs.Common.{arith, suc, sym, ◌∙◌, ap, subst}
use Rattle.run_script.specs.Jobs.{JobView}
use Rattle.step_registry.specs.declared.event.Event.{Event}
use Rattle.step_registry.specs.Core.{after, IsLegal}
use Rattle.step_registry.specs.SeatLaws.{Says}
use Rattle.step_table.specs.Seats.{Follows, IsKnown}
use Rattle.step_table.specs.Seating.{Stands, IsSession}
use Rattle.step_table.proofs.Steps.{word_known}

-- one word more is known
pub fewer : (number : ℕ) (seen : List Event) (words : List ℕ) (w : ℕ) (h : List Event) → Follows number seen (w ∷ words) h → Follows number seen words h
fewer number seen words w h f = record { begins = f.begins; own = f.own; known = λ k d lt. f.known (suc k) d (omega arith) }

pub known_more : (job : JobView) (number : ℕ) (seen : List Event) (words : List ℕ) (w known step : ℕ) → IsKnown job number seen words known → ((k : ℕ) → known ≤ k → w / 2 ≤ k → step ≤ k) → IsKnown job number seen (w ∷ words) step
known_more job number seen words w known step was less h legal f =
    less (after job h).newest (was h legal (fewer number seen words w h f)) (word_known job h w (f.known 0 w (omega arith)))

pub told_kept : (s now : Stands) (me known done step w : ℕ) → IsSession s me known done → now ≡ record s { known = w ∷ s.known } → ((k : ℕ) → known ≤ k → w / 2 ≤ k → step ≤ k) → IsSession now me step done
told_kept s now me known done step w session is less =
    subst (λ z. IsSession z me step done) (sym is) (record { rests = session.rests; number = session.number; there = session.there; legal = session.legal; step = known_more s.theme (me + 1) s.seen s.known w known step session.step less; turns = session.turns })
