use Rattle.std.proofs.Common.{◌≡◌, ◌≤◌, ℕ, Bool, true, false, cond, eqb, subst, arith, length}
use Rattle.mesh_base.specs.Numbers.{IsPlaceOf}
use Rattle.edge_table.proofs.RowLemmas.{more_in, place_last, IsRow-insert}
use Rattle.edge_table.proofs.row.append_near.Goals as goal

most : (b : Bool) (n : ℕ) → cond b n 0 ≤ n
most true n = omega arith
most false n = omega arith

pub returns-clause-row : goal.returns-clause-row
returns-clause-row c =
    let xs = c.args.near.now.items in
    let ns = c.args.counts.now.items in
    let e : length xs ≡ c.len-last.result = omega (arith, c.len-last.ensures) in
    let at = subst (IsPlaceOf c.args.w xs) e (place_last xs ns c.args.w c.requires.row c.requires.last) in
    rw (c.insert_at.ensures.items, c.insert_at-2.ensures.items) (IsRow-insert xs ns c.len-last.result c.args.w c.args.n c.requires.some at c.requires.row)

pub returns-clause-numbers : goal.returns-clause-numbers
returns-clause-numbers c u =
    let xs = c.args.near.now.items in
    let ns = c.args.counts.now.items in
    let e : length xs ≡ c.len-last.result = omega (arith, c.len-last.ensures) in
    let at = subst (IsPlaceOf c.args.w xs) e (place_last xs ns c.args.w c.requires.row c.requires.last) in
    rw (c.insert_at.ensures.items, c.insert_at-2.ensures.items) (more_in xs ns c.len-last.result c.args.w c.args.n u c.requires.row at)

pub returns-clause-grows : goal.returns-clause-grows
returns-clause-grows c u = omega (arith, returns-clause-numbers c u, most (eqb c.args.w u) c.args.n)
