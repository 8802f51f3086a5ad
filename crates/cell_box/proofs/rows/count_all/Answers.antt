use Rattle.std.proofs.Common.{◌≡◌, ◌-◌, length, subst, arith}
use Rattle.mesh_base.specs.Mesh.{AreWithin}
use Rattle.cell_box.proofs.rows.count_all.Goals as goal

pub count_cell-requires-clause-within : goal.count_cell-requires-clause-within
count_cell-requires-clause-within c =
    let e : c.args.shape.now.points ≡ length c.loop-i.starts - 1 = omega (arith, c.requires.points, c.loop-i.auto.starts) in
    subst (λ n. AreWithin n c.args.shape.now.cells) e c.cells-i-end.ensures.topology.within
