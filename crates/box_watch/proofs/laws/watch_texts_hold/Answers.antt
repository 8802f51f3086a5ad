use Rattle.box_watch.proofs.Printed.{watch-holds}
use Rattle.box_watch.proofs.laws.watch_texts_hold.Goals as goal

pub returns : goal.returns
returns c = watch-holds
