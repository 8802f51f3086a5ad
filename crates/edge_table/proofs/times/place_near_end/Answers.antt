use Rattle.std.proofs.Common.{arith}
use Rattle.edge_table.proofs.TimesLemmas.{end_place}
use Rattle.edge_table.proofs.times.place_near_end.Goals as goal

pub returns-then-read_at-w : goal.returns-then-read_at-w
returns-then-read_at-w c =
    end_place c.args.near.now.items c.len-count.result c.args.w c.len-count.ensures.value c.requires.ascending (λ lt. omega (arith, c.read_at.ensures, c.if-read_at-w.true))
