use Rattle.vtk_legacy.proofs.TableLemmas.{table-none, view-none}
use Rattle.vtk_legacy.proofs.table.CellTable.push_size.Goals as goal

pub invariant_of-self-in_default : goal.invariant_of-self-in_default
invariant_of-self-in_default c =
    let t = c.self.inside in
    rw (c.in_default.ensures.items, c.in_ok-push.ensures.items) (table-none t.entries.items t.kept t.used t.sizes.items t.passed c.args.size c.self.invariant)

pub returns-clause-ok : goal.returns-clause-ok
returns-clause-ok c =
    let t = c.self.inside in
    rw (c.in_default.ensures.items, c.in_ok-push.ensures.items) (view-none t.entries.items t.kept t.used t.sizes.items t.passed c.args.size c.args.self.now c.self.invariant c.self.view_is)
