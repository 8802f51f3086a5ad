use Rattle.run_script.proofs.LawLemmas.{boxes-in-order}
use Rattle.run_script.proofs.laws.turns_have_the_boxes_in_order.Goals as goal

pub returns : goal.returns
returns c = boxes-in-order
