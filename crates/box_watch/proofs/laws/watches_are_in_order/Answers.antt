use Rattle.box_watch.proofs.InOrder.{in-order}
use Rattle.box_watch.proofs.laws.watches_are_in_order.Goals as goal

pub returns : goal.returns
returns c = in-order
