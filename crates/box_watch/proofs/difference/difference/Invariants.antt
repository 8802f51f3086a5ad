use Rattle.std.proofs.Common.{◌≡◌, ◌≤◌, take, length}
use Rattle.box_watch.specs.Lists.{without}
use Rattle.box_watch.proofs.Steps.{IsPassed}
use Rattle.box_watch.proofs.difference.difference.Given as goal

abbrev pub invariant-loop-number : goal.invariant-loop-number
invariant-loop-number l = record {
  kept : l.kept.items ≡ without (take l.number-index l.numbers) l.others;
  within : l.place ≤ length l.others;
  passed : IsPassed l.numbers l.others l.number-index l.place;
}
