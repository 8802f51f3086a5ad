use Rattle.std.proofs.Common.{◌≡◌, take, map}
use Rattle.run_script.specs.Jobs.{turns}
use Rattle.run_script.proofs.turns.all_turns.Given as goal

abbrev pub invariant-loop-session : goal.invariant-loop-session
invariant-loop-session l = l.lists.items ≡ map turns (take l.session-index l.sessions)
