use Rattle.std.proofs.Common.{◌≡◌, take}
use Rattle.box_watch.specs.Watches.{boxes_in}
use Rattle.box_watch.proofs.corners.list_boxes.Given as goal

abbrev pub invariant-loop-turn : goal.invariant-loop-turn
invariant-loop-turn l = l.boxes.items ≡ boxes_in (take l.turn-index l.turns)
