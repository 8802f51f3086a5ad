use Rattle.std.proofs.Common.{◌≡◌, ◌<◌, ◌∙◌, ap, sym, arith, length, map, pos}
use Rattle.std.specs.List.{range_with_len}
use Rattle.std.proofs.lemmas.List.{ext_get_or}
use Rattle.std.proofs.lemmas.List.FromFn.{length-map-range_with_len, get_or-map-range_with_len}
use Rattle.mesh_base.specs.Place.{Place}
use Rattle.move_kernels.proofs.motion.place_all.Goals as goal

pub returns-clause-placed : goal.returns-clause-placed
returns-clause-placed g c =
    let f = g.M.Motion.place_of c.args.motion.now in
    let n = length c.args.places.now in
    let origin : Place = (pos 0, pos 0, pos 0) in
    let len = length-map-range_with_len f 0 n in
    let kept = c.par_for_each_mut.auto.s in
    ext_get_or origin c.par_for_each_mut.new.s (map f (range_with_len 0 n)) (kept ∙ sym len) (λ i lt.
    let below : i < n = omega (arith, kept, lt) in
    let at = (c.par_for_each_mut.ensures i origin below).1 in
    sym at.left ∙ at.call ∙ sym (get_or-map-range_with_len f 0 n i i origin below (omega arith)))
