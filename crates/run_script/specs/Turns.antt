-- How the turns of a session are gathered. They are defined without it, in Jobs.
use Rattle.std.specs.Prelude.{List, ◌++◌}
use Rattle.std.specs.Option.{option_map}
use Rattle.run_script.specs.declared.script.Item.{Item}
use Rattle.run_script.specs.declared.job.SessionTurn.{SessionTurn}
use Rattle.run_script.specs.declared.turns.Turning.{Turning}
use Rattle.run_script.specs.Jobs.{turns_from}

-- the turns that came, and those of the items that are left
abbrev pub turns_with : Turning → List Item → List SessionTurn
turns_with t rest = t.turns.items ++ turns_from t.need (option_map (λ v. v.items) t.hold) rest
