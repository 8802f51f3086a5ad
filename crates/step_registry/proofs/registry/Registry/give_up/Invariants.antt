use Rattle.std.proofs.Common.{◌≡◌, ◌++◌, map, vec_len}
use Rattle.step_registry.specs.Core.{after}
use Rattle.step_registry.specs.Runs.{CanGiveUp, give_event}
use Rattle.step_registry.proofs.registry.Registry.give_up.Given as goal

abbrev pub invariant-loop-items : goal.invariant-loop-items
invariant-loop-items l =
    (l.self.job ≡ l.initial.self.job) × CanGiveUp l.self.job (after l.self.job l.self.journal) l.items.items
    × (l.self.journal ++ map give_event l.items.items ≡ l.initial.self.journal ++ map give_event l.initial.items.items)

abbrev pub decreases-loop-items : goal.decreases-loop-items
decreases-loop-items l = vec_len l.items
