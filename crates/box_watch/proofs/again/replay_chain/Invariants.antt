use Rattle.std.proofs.Common.{◌-◌, length, drop}
use Rattle.std.specs.List.Sorted.{IsStrictlyIncreasing}
use Rattle.box_watch.specs.Chain.{IsMadeBy}
use Rattle.box_watch.proofs.again.replay_chain.Given as goal

abbrev pub invariant-loop-done : goal.invariant-loop-done
invariant-loop-done l = record {
  made : IsMadeBy l.all (drop (length l.chain - l.done) l.chain) l.vertices.items;
  ascending : IsStrictlyIncreasing l.vertices.items;
}
