use Rattle.std.proofs.Common.{ℕ, ◌+◌, ◌++◌, ◌∷◌, [], ap, sym, ◌∙◌, map, Some, Option, IfSome, arith}
use Rattle.std.specs.List.{range_with_len}
use Rattle.std.proofs.lemmas.List.FromFn.{map-range_with_len_more}
use Rattle.std.proofs.lemmas.List.Elements.{All-push, All-same}
use Rattle.mesh_base.specs.Mesh.{Corners, IsWithin, AreDifferent}
use Rattle.sample_meshes.specs.Block.{block_cell, cubed}
use Rattle.sample_meshes.proofs.block.block_cells.Goals as goal

pub loop-t-preserved : goal.loop-t-preserved
loop-t-preserved c =
    let f : ℕ → Option Corners = λ t. Some (block_cell c.args.n t) in
    let t = c.loop-t.t in
    let cell = c.cell_at.result in
    let old = c.loop-t.cells.items in
    let grown = c.in_ok-push.ensures.items in
    let P : Option Corners → Type 0 = λ o. IfSome o (IsWithin (cubed (c.args.n + 1))) in
    let Q : Option Corners → Type 0 = λ o. IfSome o AreDifferent in (
      grown ∙ ap (λ cs. cs ++ Some cell ∷ []) c.loop-t.invariant.0 ∙ ap (λ x. map f (range_with_len 0 t) ++ Some x ∷ []) c.cell_at.ensures.cell
          ∙ sym (map-range_with_len_more f 0 t t (omega arith)),
      All-same P _ _ grown (All-push P old (Some cell) c.loop-t.invariant.1 c.cell_at.ensures.within),
      All-same Q _ _ grown (All-push Q old (Some cell) c.loop-t.invariant.2 c.cell_at.ensures.different),
    )
