use Rattle.std.proofs.Common.{◌<◌, length, flat_map, get_or, pos, ap, ◌∙◌, arith}
use Rattle.std.specs.Arc.{arc_value}
use Rattle.mesh_base.specs.Place.{Place}
use Rattle.topo.proofs.ChunkLaws.{chunk-holding, within-chunk, entry-chunk}
use Rattle.topo.proofs.positions.Positions.get.Goals as goal

pub index-requires-2 : goal.index-requires-2
index-requires-2 c =
    let cs = c.self.inside.chunks.items in
    let xs = flat_map arc_value cs in
    let v = c.args.v in
    let within : v < length xs = omega (arith, ap length c.self.view_is, c.requires) in
    omega (arith, within-chunk xs v within c.behind-index.inside.points.items (c.behind-index.view_is ∙ c.deref.ensures ∙ chunk-holding xs v within arc_value cs c.index.result.now c.self.invariant.2 c.index.ensures))

pub returns : goal.returns
returns c =
    let cs = c.self.inside.chunks.items in
    let xs = flat_map arc_value cs in
    let v = c.args.v in
    let d : Place = (pos 0, pos 0, pos 0) in
    let within : v < length xs = omega (arith, ap length c.self.view_is, c.requires) in
    entry-chunk xs v within _ (c.behind-index.view_is ∙ c.deref.ensures ∙ chunk-holding xs v within arc_value cs c.index.result.now c.self.invariant.2 c.index.ensures) c.index-2.result.now d c.index-2.ensures
    ∙ ap (λ l. get_or l v d) c.self.view_is
