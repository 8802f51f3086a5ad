use Rattle.std.proofs.Common.{refl, rules}
use Rattle.box_watch.specs.Own.{own_answers, prior_at}
use Rattle.box_watch.proofs.Since.{since-next}
use Rattle.box_watch.proofs.session.list_since.Goals as goal

pub watch_at-requires-clause-before : goal.watch_at-requires-clause-before
watch_at-requires-clause-before c = c.requires.before c.loop-q.q (search rules)

pub loop-q-preserved : goal.loop-q-preserved
loop-q-preserved c =
    since-next c.args.session (own_answers c.args.session c.args.answers.now) c.args.priors.now c.loop-q.q (prior_at c.args.priors.now c.loop-q.q) c.in_ok-watch.watch c.loop-q.list.items c.push.new.self.items
    refl c.in_ok-watch.ensures c.loop-q.invariant c.in_ok-push.ensures.items
