use Rattle.std.proofs.Common.{Option, IfSome, sym, subst, arith}
use Rattle.std.proofs.lemmas.List.{take_all}
use Rattle.std.proofs.lemmas.List.Elements.{All-more, All-same}
use Rattle.mesh_base.specs.Mesh.{Corners, AreDifferent}
use Rattle.mesh_base.proofs.cells.are_all_different.Goals as goal

pub loop-cell-preserved : goal.loop-cell-preserved
loop-cell-preserved c =
    let P = λ (cell : Option Corners). IfSome cell AreDifferent in
    All-more P c.args.cells.now c.loop-cell.cell-index c.cell-item.result (omega arith) c.loop-cell.invariant (subst P c.cell-item.is c.is_different.ensures)

pub returns : goal.returns
returns c =
    All-same (λ cell. IfSome cell AreDifferent) _ _ (sym (take_all c.loop-cell.cell-index c.args.cells.now (omega arith))) c.loop-cell.invariant
