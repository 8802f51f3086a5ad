use Rattle.std.proofs.Common.{◌≡◌, ◌<◌, drop}
use Rattle.run_script.specs.Jobs.{box_count}
use Rattle.step_registry.specs.Runs.{area_at}
use Rattle.step_registry.proofs.plain.area_of.Given as goal

abbrev pub invariant-loop-turn : goal.invariant-loop-turn
invariant-loop-turn l = (area_at (drop l.turn-index l.turns) l.rest ≡ area_at l.turns l.query) × (l.rest < box_count (drop l.turn-index l.turns))
