use Rattle.std.proofs.Common.{◌+◌, arith, ap, ◌∙◌, set}
use Rattle.edge_table.specs.Pairs.{number_at}
use Rattle.edge_table.proofs.RowLemmas.{number_of, IsRow-insert}
use Rattle.edge_table.proofs.TimesLemmas.{more_there_by, more_in_by}
use Rattle.edge_table.proofs.times.add_times.Goals as goal

pub overflow_add-m : goal.overflow_add-m
overflow_add-m c =
    let e = number_of c.args.near.now.items c.args.counts.now.items c.in-Ok.i c.args.w c.requires.row c.in-Ok.ensures.0 c.in-Ok.ensures.1 in
    omega (arith, e, c.requires.fits, c.read_at-m.ensures)

pub returns-in-Ok-clause-numbers : goal.returns-in-Ok-clause-numbers
returns-in-Ok-clause-numbers c u =
    let xs = c.args.near.now.items in
    let ns = c.args.counts.now.items in
    ap (λ l. number_at xs l u) (c.write_at.ensures.items ∙ ap (λ n. set ns c.in-Ok.i (n + c.args.n)) c.read_at-m.ensures)
    ∙ more_there_by xs ns c.in-Ok.i c.args.w c.args.n u c.requires.row c.in-Ok.ensures.0 c.in-Ok.ensures.1

pub returns-in-Err-clause-row : goal.returns-in-Err-clause-row
returns-in-Err-clause-row c =
    rw (c.insert_at.ensures.items, c.insert_at-in-Err.ensures.items)
    (IsRow-insert c.args.near.now.items c.args.counts.now.items c.in-Err.place c.args.w c.args.n c.requires.some c.in-Err.ensures c.requires.row)

pub returns-in-Err-clause-numbers : goal.returns-in-Err-clause-numbers
returns-in-Err-clause-numbers c u =
    rw (c.insert_at.ensures.items, c.insert_at-in-Err.ensures.items)
    (more_in_by c.args.near.now.items c.args.counts.now.items c.in-Err.place c.args.w c.args.n u c.requires.row c.in-Err.ensures)
