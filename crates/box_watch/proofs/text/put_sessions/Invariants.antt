use Rattle.std.proofs.Common.{◌≡◌, ◌++◌}
use Rattle.std.specs.Prelude.{flat_map}
use Rattle.std.specs.List.{range_with_len}
use Rattle.box_watch.specs.WatchText.{watched_session}
use Rattle.box_watch.proofs.text.put_sessions.Given as goal

abbrev pub invariant-loop-session : goal.invariant-loop-session
invariant-loop-session l = l.out.items ≡ l.fn.out.items ++ flat_map (watched_session l.registry.job l.registry.journal) (range_with_len 0 l.session)
