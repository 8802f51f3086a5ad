use Rattle.std.proofs.Common.{◌<◌, ◌-◌, length, refl, sym, subst, arith, rules}
use Rattle.std.specs.Prelude.{slice_index}
use Rattle.std.specs.List.Sorted.{IsStrictlyIncreasing}
use Rattle.box_watch.specs.declared.watch.Watch.{Watch}
use Rattle.box_watch.specs.Replay.{no_watch, IsAfter}
use Rattle.box_watch.proofs.Chains.{made-none, made-next, made-all}
use Rattle.box_watch.proofs.again.replay_chain.Goals as goal

pub loop-done-init : goal.loop-done-init
loop-done-init c = record {
  made = made-none c.args.all.now c.args.chain.now c.new-vertices.result.items c.new-vertices.ensures.items;
  ascending = subst IsStrictlyIncreasing (sym c.new-vertices.ensures.items) (λ k l. absurd (omega arith));
}

pub vertices_after-requires : goal.vertices_after-requires
vertices_after-requires c =
    let chain = c.args.chain.now in let done = c.loop-done.done in
    let lt : done < length chain = search rules in
    let place = slice_index chain (length chain - 1 - done) in
    let below : place < length c.args.all.now = c.requires.below (length chain - 1 - done) 0 (omega arith) in
    record {
      before = subst IsStrictlyIncreasing (sym c.deref.ensures.value) c.loop-done.invariant.ascending;
      left = subst (λ (w : Watch). IsStrictlyIncreasing w.left) (sym c.watch_after.ensures) (c.requires.left place no_watch below);
    }

pub loop-done-preserved : goal.loop-done-preserved
loop-done-preserved c =
    let chain = c.args.chain.now in let done = c.loop-done.done in
    let lt : done < length chain = search rules in
    let after = subst (λ l. IsAfter l c.watch_after.result.now c.in_ok-vertices.vertices.items) c.deref.ensures.value c.in_ok-vertices.ensures in
    record {
      made = made-next c.args.all.now chain done (slice_index chain (length chain - 1 - done)) c.loop-done.vertices.items c.in_ok-vertices.vertices.items c.watch_after.result.now lt refl
          c.watch_after.ensures c.loop-done.invariant.made after;
      ascending = c.in_ok-vertices.ensures.ascending;
    }

pub returns : goal.returns
returns c =
    let over = c.loop-done-test.false in let most = c.loop-done.auto.done-end in
    made-all c.args.all.now c.args.chain.now c.loop-done.vertices.items c.loop-done.done (omega arith) c.loop-done.invariant.made
