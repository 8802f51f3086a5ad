use Rattle.std.proofs.Common.{◌≡◌, ◌-◌, length, subst, arith}
use Rattle.mesh_base.specs.Mesh.{AreWithin}
use Rattle.cell_box.proofs.rows.place_all.Goals as goal

pub place_cell-requires-clause-within : goal.place_cell-requires-clause-within
place_cell-requires-clause-within c =
    let e : c.args.shape.now.points ≡ length c.loop-i.starts - 1 = omega (arith, c.requires.points, c.loop-i.auto.starts) in
    subst (λ n. AreWithin n c.args.shape.now.cells) e c.cells-i-end.ensures.topology.within
