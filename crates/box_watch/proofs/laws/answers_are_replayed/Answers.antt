use Rattle.box_watch.proofs.Follows.{answers-replayed}
use Rattle.box_watch.proofs.laws.answers_are_replayed.Goals as goal

pub returns : goal.returns
returns c = answers-replayed
