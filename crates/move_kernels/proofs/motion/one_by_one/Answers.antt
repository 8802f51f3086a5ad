use Rattle.std.proofs.Common.{◌≡◌, ◌++◌, ◌∷◌, [], ◌∙◌, ap, map, arith, length}
use Rattle.std.specs.List.{range_with_len}
use Rattle.std.proofs.lemmas.List.FromFn.{length-map-range_with_len}
use Rattle.move_kernels.proofs.PlaceLaws.{listed_more}
use Rattle.move_kernels.proofs.motion.one_by_one.Goals as goal

pub push_reserved-requires : goal.push_reserved-requires
push_reserved-requires g c =
    let v = c.loop-v.v in
    omega (arith, c.loop-v.places.ok.0, ap length c.loop-v.invariant.0, length-map-range_with_len (g.M.Motion.place_of c.args.motion.now) 0 v, c.loop-v.invariant.1, c.loop-v-test.true)

pub loop-v-preserved : goal.loop-v-preserved
loop-v-preserved g c =
    let f = g.M.Motion.place_of c.args.motion.now in (
      c.push_reserved.ensures.items ∙ ap (λ l. l ++ c.place.result ∷ []) c.loop-v.invariant.0
          ∙ ap (λ p. map f (range_with_len 0 c.loop-v.v) ++ p ∷ []) c.place.ensures ∙ listed_more f c.loop-v.v,
      omega (arith, c.push_reserved.ensures.capacity, c.loop-v.invariant.1),
    )
