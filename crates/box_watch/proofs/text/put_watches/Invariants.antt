use Rattle.std.proofs.Common.{◌≡◌, ◌++◌, take}
use Rattle.std.specs.Prelude.{flat_map}
use Rattle.box_watch.specs.WatchText.{watch_lines}
use Rattle.box_watch.proofs.text.put_watches.Given as goal

abbrev pub invariant-loop-watch : goal.invariant-loop-watch
invariant-loop-watch l = l.out.items ≡ l.fn.out.items ++ flat_map watch_lines (take l.watch-index l.list)
