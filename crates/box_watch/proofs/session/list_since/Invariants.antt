use Rattle.std.proofs.Common.{◌≡◌}
use Rattle.std.specs.Prelude.{map}
use Rattle.std.specs.List.{range_with_len}
use Rattle.box_watch.specs.Own.{own_answers, prior_at}
use Rattle.box_watch.specs.Watches.{watch_since}
use Rattle.box_watch.proofs.session.list_since.Given as goal

abbrev pub invariant-loop-q : goal.invariant-loop-q
invariant-loop-q l =
    l.list.items ≡ map (λ q. watch_since l.session (own_answers l.session l.answers) q (prior_at l.priors q)) (range_with_len 0 l.q)
