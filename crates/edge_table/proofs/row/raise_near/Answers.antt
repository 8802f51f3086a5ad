use Rattle.std.proofs.Common.{◌+◌, ◌≤◌, Bool, true, false, cond, eqb, arith, ap, ◌∙◌, set}
use Rattle.edge_table.specs.Pairs.{number_at}
use Rattle.edge_table.proofs.RowLemmas.{number_of, more_there, number_at-absent, not_in}
use Rattle.edge_table.proofs.row.raise_near.Goals as goal

pub overflow_add-before : goal.overflow_add-before
overflow_add-before c =
    let e = number_of c.args.near.now.items c.args.counts.now.items c.in-Ok.i c.args.w c.requires.row c.in-Ok.ensures.0 c.in-Ok.ensures.1 in
    omega (arith, e, c.requires.fits, c.read_at-before.ensures)

most_one : (b : Bool) → cond b 1 0 ≤ 1
most_one true = omega arith
most_one false = omega arith

pub returns-in-Ok-clause-numbers : goal.returns-in-Ok-clause-numbers
returns-in-Ok-clause-numbers c u =
    let xs = c.args.near.now.items in
    let ns = c.args.counts.now.items in
    ap (λ l. number_at xs l u) (c.write_at.ensures.items ∙ ap (λ m. set ns c.in-Ok.i (m + 1)) c.read_at-before.ensures)
    ∙ more_there xs ns c.in-Ok.i c.args.w 1 u c.requires.row c.in-Ok.ensures.0 c.in-Ok.ensures.1

pub returns-in-Ok-clause-grows : goal.returns-in-Ok-clause-grows
returns-in-Ok-clause-grows c u = omega (arith, returns-in-Ok-clause-numbers c u, most_one (eqb c.args.w u))

pub returns-in_default-clause-numbers : goal.returns-in_default-clause-numbers
returns-in_default-clause-numbers c u =
    let e = number_at-absent c.args.near.now.items c.args.counts.now.items c.args.w (not_in c.args.w c.args.near.now.items c.in_default.field-0 c.in_default.ensures) in
    absurd (omega (arith, e, c.requires.there))
