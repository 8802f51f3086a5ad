use Rattle.std.proofs.Common.{◌≡◌, ◌+◌, ◌*◌, ap, sym, ◌∙◌, map, length, Some, arith, subst}
use Rattle.std.specs.List.{range_with_len}
use Rattle.std.proofs.lemmas.List.FromFn.{length-map-range_with_len}
use Rattle.mesh_base.specs.Mesh.{IsMesh, AreWithin}
use Rattle.sample_meshes.specs.Block.{block, block_cell, cubed, grid_place}
use Rattle.sample_meshes.proofs.BlockRoom.{few_points, few_cells}
use Rattle.sample_meshes.proofs.block.block_mesh.Goals as goal

pub unreachable-requires : goal.unreachable-requires
unreachable-requires c =
    let n = c.args.n in
    let small = c.requires.1 in
    let points : length c.in_ok-points.points ≡ cubed (n + 1) = ap length c.in_ok-points.ensures ∙ length-map-range_with_len (grid_place (n + 1)) 0 (cubed (n + 1)) in
    let cells : length c.in_ok-cells.cells ≡ 6 * cubed n = ap length c.in_ok-cells.ensures.cells ∙ length-map-range_with_len (λ t. Some (block_cell n t)) 0 (6 * cubed n) in
    let mesh : IsMesh c.in_ok-points.points c.in_ok-cells.cells = record {
      few_points = omega (arith, points, few_points n small);
      few_cells = omega (arith, cells, few_cells n small);
      within = subst (λ m. AreWithin m c.in_ok-cells.cells) (sym points) c.in_ok-cells.ensures.within;
      different = c.in_ok-cells.ensures.different;
    } in
    c.in-None.ensures mesh

pub returns : goal.returns
unfolding block
returns c = c.in-Some.ensures.1 ∙ ap (λ ps. record { points = ps; cells = c.in_ok-cells.cells }) c.in_ok-points.ensures ∙ ap (λ cs. record { points = map (grid_place (c.args.n + 1)) (range_with_len 0 (cubed (c.args.n + 1))); cells = cs }) c.in_ok-cells.ensures.cells
