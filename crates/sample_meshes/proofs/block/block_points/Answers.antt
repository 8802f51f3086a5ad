use Rattle.std.proofs.Common.{◌++◌, ◌∷◌, [], ap, sym, ◌∙◌, map, arith}
use Rattle.std.specs.List.{range_with_len}
use Rattle.std.proofs.lemmas.List.FromFn.{map-range_with_len_more}
use Rattle.sample_meshes.specs.Block.{grid_place}
use Rattle.sample_meshes.proofs.block.block_points.Goals as goal

pub loop-v-preserved : goal.loop-v-preserved
loop-v-preserved c =
    let f = grid_place c.args.side in
    let v = c.loop-v.v in
    c.in_ok-push.ensures.items ∙ ap (λ ps. ps ++ c.grid_point.result ∷ []) c.loop-v.invariant
    ∙ ap (λ p. map f (range_with_len 0 v) ++ p ∷ []) c.grid_point.ensures ∙ sym (map-range_with_len_more f 0 v v (omega arith))
