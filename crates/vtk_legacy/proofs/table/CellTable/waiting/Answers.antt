use Rattle.std.proofs.Common.{ap, drop, length, arith}
use Rattle.std.proofs.lemmas.List.{length-drop}
use Rattle.vtk_legacy.proofs.TableLemmas.{weave-length}
use Rattle.vtk_legacy.proofs.table.CellTable.waiting.Goals as goal

pub returns : goal.returns
returns c =
    let t = c.self.inside in
    omega (arith, c.len.ensures, t.entries.ok, length-drop t.used t.entries.items, weave-length (drop t.used t.entries.items) (drop t.passed t.sizes.items), ap (λ r. length r.waiting) c.self.view_is)
