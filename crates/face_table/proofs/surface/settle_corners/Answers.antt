use Rattle.std.proofs.Common.{get_or}
use Rattle.face_table.specs.Tally.{Matches}
use Rattle.mesh_base.proofs.Corners.{four, not_corner}
use Rattle.face_table.proofs.surface.settle_corners.Goals as goal

pub returns-clause-all : goal.returns-clause-all
returns-clause-all c =
    let at = Matches c.args.singles.now.items in
    let k = c.corners.result in
    four (at c.args.surface.now.items) (at c.settle.new.surface.items) (at c.settle-2.new.surface.items) (at c.settle-3.new.surface.items) (at c.settle-4.new.surface.items)
    (get_or k 0 0) (get_or k 1 0) (get_or k 2 0) (get_or k 3 0)
    c.settle.ensures.here c.settle.ensures.others c.settle-2.ensures.here c.settle-2.ensures.others
    c.settle-3.ensures.here c.settle-3.ensures.others c.settle-4.ensures.here c.settle-4.ensures.others
    (λ w na nb nc nd. c.requires.others w (not_corner k c.args.cell.now w c.corners.ensures.corners na nb nc nd))
