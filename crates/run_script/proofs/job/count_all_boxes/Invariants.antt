use Rattle.std.proofs.Common.{◌≡◌, take}
use Rattle.std.specs.List.{sum_by}
use Rattle.run_script.specs.Jobs.{box_count}
use Rattle.run_script.proofs.job.count_all_boxes.Given as goal

abbrev pub invariant-loop-turns : goal.invariant-loop-turns
invariant-loop-turns l = l.count ≡ sum_by box_count (take l.turns-index l.sessions)
