use Rattle.report.proofs.Written.{sessions_more}
use Rattle.report.proofs.answers.put_sessions.Goals as goal

pub loop-session-preserved : goal.loop-session-preserved
loop-session-preserved c =
    sessions_more c.args.job.now c.args.answers.now c.loop-session.session c.args.out.now.items c.loop-session.out.items c.put_session.new.out.items
    c.loop-session.invariant c.in_ok-put_session.ensures
