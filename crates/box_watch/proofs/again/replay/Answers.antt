use Rattle.std.proofs.Common.{◌<◌, ◌∷◌, length, sym, ◌∙◌, subst}
use Rattle.std.specs.Prelude.{All}
use Rattle.box_watch.specs.Chain.{chain_below, IsMadeBy}
use Rattle.box_watch.specs.Replay.{watch_at}
use Rattle.box_watch.proofs.Chains.{made-at, chain-within}
use Rattle.box_watch.proofs.again.replay.Goals as goal

pub replay_chain-requires : goal.replay_chain-requires
replay_chain-requires c = record {
  below = subst (All (λ place. place < length c.args.all.now)) (sym c.deref.ensures.value) (chain-within c.args.all.now c.args.at c.in_ok-chain.chain.items c.requires.there c.in_ok-chain.ensures);
  left = c.requires.list.left;
}

pub returns-clause-made : goal.returns-clause-made
returns-clause-made c =
    let all = c.args.all.now in let at = c.args.at in
    subst (IsMadeBy all (at ∷ chain_below all at (watch_at all at).session (watch_at all at).prior)) (sym c.of.ensures)
    (subst (λ l. IsMadeBy all l c.in_ok-vertices.vertices.items) (c.deref.ensures.value ∙ c.in_ok-chain.ensures) c.in_ok-vertices.ensures)

pub returns-clause-follows : goal.returns-clause-follows
returns-clause-follows c = λ table follows.
    c.of.ensures
    ∙ made-at c.args.all.now table c.args.at c.in_ok-vertices.vertices.items c.requires.there c.requires.list follows
    (subst (λ l. IsMadeBy c.args.all.now l c.in_ok-vertices.vertices.items) (c.deref.ensures.value ∙ c.in_ok-chain.ensures) c.in_ok-vertices.ensures)
