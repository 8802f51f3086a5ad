use Rattle.std.proofs.Common.{◌≡◌, take}
use Rattle.run_script.specs.Jobs.{box_count}
use Rattle.report.proofs.answers.count_boxes.Given as goal

abbrev pub invariant-loop-turn : goal.invariant-loop-turn
invariant-loop-turn l = l.count ≡ box_count (take l.turn-index l.turns)
