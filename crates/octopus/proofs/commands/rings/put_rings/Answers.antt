use Rattle.octopus.specs.Rings.{ring_part}
use Rattle.octopus.proofs.PartLemmas.{parts_more}
use Rattle.octopus.proofs.commands.rings.put_rings.Goals as goal

pub loop-number-preserved : goal.loop-number-preserved
loop-number-preserved c =
    parts_more (ring_part c.args.rings.now) c.loop-number.number c.args.out.now.items c.loop-number.out.items c.put_ring_at.new.out.items
    c.loop-number.invariant c.in_ok-put_ring_at.ensures
