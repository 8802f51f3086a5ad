use Rattle.std.proofs.Common.{sym, ◌∙◌}
use Rattle.vtk_legacy.proofs.TableLemmas.{table-some, view-some, ended-some}
use Rattle.vtk_legacy.proofs.table.CellTable.push.Goals as goal

pub invariant_of-self-in-Some : goal.invariant_of-self-in-Some
invariant_of-self-in-Some c =
    let t = c.self.inside in
    rw c.in_ok-push-in-Some.ensures.items (table-some t.entries.items t.kept t.used t.sizes.items t.passed c.in-Some.cell c.self.invariant)

pub returns-in_ok-push-in-Some-clause-ok : goal.returns-in_ok-push-in-Some-clause-ok
returns-in_ok-push-in-Some-clause-ok c =
    let t = c.self.inside in
    let row = ended-some c.args.row c.in-Some.cell (sym c.tetrahedron_of.ensures ∙ c.in-Some.is) in
    rw (row, c.in_ok-push-in-Some.ensures.items) (view-some t.entries.items t.kept t.used t.sizes.items t.passed c.in-Some.cell c.args.self.now c.self.invariant c.self.view_is)
