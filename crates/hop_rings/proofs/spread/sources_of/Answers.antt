use Rattle.std.proofs.Common.{◌<◌, length, get_or, arith}
use Rattle.std.proofs.lemmas.List.Elements.{Contains-get_or}
use Rattle.hop_rings.proofs.spread.sources_of.Goals as goal

pub bounds-from-v : goal.bounds-from-v
bounds-from-v c =
    let lt : c.loop-v.v-index < length c.args.vertices.now = omega arith in
    c.requires.points (get_or c.args.vertices.now c.loop-v.v-index 0) (Contains-get_or c.args.vertices.now c.loop-v.v-index 0 lt)
