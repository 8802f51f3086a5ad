use Rattle.std.proofs.Common.{◌⊎◌, Contains}
use Rattle.mesh_base.specs.Numbers.{IsListOf}
use Rattle.box_watch.specs.Replay.{IsAfter}
use Rattle.box_watch.proofs.Nexts.{on-ok}
use Rattle.box_watch.proofs.Unions.{after-union}
use Rattle.box_watch.proofs.again.vertices_after.Goals as goal

pub returns : goal.returns
returns c =
    on-ok (λ list. IsListOf (λ v. Contains c.in_ok-stayed.stayed.items v ⊎ Contains c.items-2.result.now v) list.items) (λ list. IsAfter c.args.before.now c.args.watch.now list.items)
    (λ list h. after-union c.args.before.now c.args.watch.now c.in_ok-stayed.stayed.items c.items.result.now c.items-2.result.now list.items c.items.ensures c.items-2.ensures c.in_ok-stayed.ensures h)
    c.union.result c.union.ensures
