use Rattle.std.proofs.Common.{◌≡◌, length, sym, ap, ◌∙◌, subst, arith}
use Rattle.std.specs.Prelude.{flat_map}
use Rattle.std.specs.List.{range_with_len}
use Rattle.run_script.specs.Jobs.{JobView}
use Rattle.box_watch.specs.Replay.{IsWatchList}
use Rattle.box_watch.specs.Watches.{session_watches, watches_of}
use Rattle.box_watch.proofs.InOrder.{in-order}
use Rattle.box_watch.proofs.Nexts.{part-next}
use Rattle.box_watch.proofs.listing.watches.Goals as goal

pub loop-session-preserved : goal.loop-session-preserved
loop-session-preserved c =
    part-next (session_watches c.args.registry.now.job c.args.registry.now.journal) c.loop-session.session c.loop-session.list.items c.in_ok-own.own.items c.append.new.self.items
    c.loop-session.invariant c.in_ok-own.ensures c.in_ok-append.ensures.items

pub returns-clause-replayed : goal.returns-clause-replayed
returns-clause-replayed c =
    let job = c.args.registry.now.job in let h = c.args.registry.now.journal in
    let over = c.loop-session-test.false in let most = c.loop-session.auto.session-end in let count = c.sessions-session-end.ensures.sessions in
    let same = ap (λ (j : JobView). length j.sessions) (c.deref.ensures ∙ c.job.ensures) in
    let end : c.loop-session.session ≡ length job.sessions = omega arith in
    let whole : c.of.result ≡ watches_of job h = c.of.ensures ∙ (c.loop-session.invariant ∙ ap (λ n. flat_map (session_watches job h) (range_with_len 0 n)) end) in
    subst IsWatchList (sym whole) (in-order job h c.requires)
