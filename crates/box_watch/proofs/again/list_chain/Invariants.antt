use Rattle.std.proofs.Common.{◌≡◌, ◌-◌, ◌++◌, ◌∷◌}
use Rattle.box_watch.specs.Replay.{watch_at}
use Rattle.box_watch.specs.Chain.{chain_below}
use Rattle.box_watch.proofs.again.list_chain.Given as goal

abbrev pub invariant-loop-back : goal.invariant-loop-back
invariant-loop-back l =
    l.chain.items ++ chain_below l.all (l.at - l.back) l.session l.wanted ≡ l.at ∷ chain_below l.all l.at (watch_at l.all l.at).session (watch_at l.all l.at).prior
