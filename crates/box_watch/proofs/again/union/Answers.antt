use Rattle.box_watch.proofs.Unions.{both-once}
use Rattle.box_watch.proofs.again.union.Goals as goal

pub returns : goal.returns
returns c =
    both-once c.args.numbers.items c.args.others.now c.extend_from_slice.new.self.items c.sort_once.new.numbers.items c.in_ok-extend_from_slice.ensures.items
    c.sort_once.ensures.ascending c.sort_once.ensures.every c.sort_once.ensures.only
