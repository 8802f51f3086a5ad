use Rattle.std.proofs.Common.{sym, subst}
use Rattle.std.specs.Arc.{arc_value}
use Rattle.mesh_base.specs.Mesh.{AreWithin}
use Rattle.topo.proofs.StayLaws.{rows-left}
use Rattle.topo.proofs.kept.forget_rows.Goals as goal

pub returns : goal.returns
returns c = λ mesh len within fits touched kept.
    rw (c.forget_touched.ensures, c.forget_last.ensures, sym len)
    (rows-left arc_value mesh c.args.edit.now c.args.touched.now _ (subst (λ n. AreWithin n mesh.cells) (sym len) within) fits touched kept)
