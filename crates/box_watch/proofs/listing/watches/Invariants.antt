use Rattle.std.proofs.Common.{◌≡◌}
use Rattle.std.specs.Prelude.{flat_map}
use Rattle.std.specs.List.{range_with_len}
use Rattle.box_watch.specs.Watches.{session_watches}
use Rattle.box_watch.proofs.listing.watches.Given as goal

abbrev pub invariant-loop-session : goal.invariant-loop-session
invariant-loop-session l = l.list.items ≡ flat_map (session_watches l.registry.job l.registry.journal) (range_with_len 0 l.session)
