use Rattle.box_watch.specs.WatchText.{watched_session}
use Rattle.box_watch.proofs.Nexts.{text-next}
use Rattle.box_watch.proofs.text.put_sessions.Goals as goal

pub loop-session-preserved : goal.loop-session-preserved
loop-session-preserved c =
    text-next (watched_session c.args.registry.now.job c.args.registry.now.journal) c.loop-session.session c.args.out.now.items c.loop-session.out.items c.put_session.new.out.items
    c.loop-session.invariant c.in_ok-put_session.ensures
