use Rattle.std.proofs.Common.{◌<◌, ◌-◌, ◌∷◌, length, refl, ◌∙◌, arith, rules}
use Rattle.std.specs.Prelude.{slice_index_or}
use Rattle.box_watch.specs.Chain.{chain_below}
use Rattle.box_watch.specs.Replay.{no_watch, watch_at}
use Rattle.box_watch.proofs.Places.{read-any}
use Rattle.box_watch.proofs.Chains.{chain-step}
use Rattle.box_watch.proofs.again.list_chain.Goals as goal

pub loop-back-preserved : goal.loop-back-preserved
loop-back-preserved c =
    let all = c.args.all.now in let at = c.args.at in let back = c.loop-back.back in let place = at - 1 - back in
    let there : at < length all = c.requires in
    let lt : back < at = search rules in
    chain-step all at back place (slice_index_or all at c.index-all-at.result).session c.loop-back.wanted c.in_ok-wanted.wanted c.index-all-place.result c.loop-back.chain.items c.follow.new.chain.items
    (at ∷ chain_below all at (watch_at all at).session (watch_at all at).prior) lt refl (c.index-all-place.is ∙ read-any all place c.index-all-place.result no_watch (omega arith))
    c.loop-back.invariant c.in_ok-wanted.ensures.chain c.in_ok-wanted.ensures.wanted
