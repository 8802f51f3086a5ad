use Rattle.std.proofs.Common.{◌≡◌}
use Rattle.box_watch.specs.Own.{own_places}
use Rattle.box_watch.proofs.own.list_places.Given as goal

abbrev pub invariant-loop-place : goal.invariant-loop-place
invariant-loop-place l = l.places.items ≡ own_places l.session l.answers l.place
