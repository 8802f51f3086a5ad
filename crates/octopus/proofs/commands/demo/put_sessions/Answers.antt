use Rattle.octopus.specs.Demo.{line_by}
use Rattle.octopus.proofs.PartLemmas.{parts_more}
use Rattle.octopus.proofs.commands.demo.put_sessions.Goals as goal

pub loop-session-preserved : goal.loop-session-preserved
loop-session-preserved c =
    parts_more (line_by c.args.answers.now) c.loop-session.session c.args.out.now.items c.loop-session.out.items c.put_session.new.out.items
    c.loop-session.invariant c.in_ok-put_session.ensures
