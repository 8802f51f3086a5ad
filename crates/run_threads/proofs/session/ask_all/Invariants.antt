use Rattle.std.proofs.Common.{◌≡◌, None, false}
use Rattle.run_script.specs.Jobs.{turns_of}
use Rattle.step_registry.specs.Core.{first_query}
use Rattle.step_table.specs.Seats.{state_of}
use Rattle.run_threads.specs.Ends.{IsSame}
use Rattle.run_threads.proofs.session.ask_all.Given as goal

abbrev pub invariant-loop-turn : goal.invariant-loop-turn
invariant-loop-turn g l =
    IsSame l.initial.seat l.seat
    × (state_of l.seat ≡ record { out = None; done = l.turn-index; is_stopped = false })
    × (l.first ≡ first_query (turns_of l.job l.initial.seat.session) l.turn-index)
