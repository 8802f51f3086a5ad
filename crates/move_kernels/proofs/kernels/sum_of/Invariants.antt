use Rattle.std.proofs.Common.{◌≡◌, ℕ, ◌*◌, ◌^◌, pos, fold, take, get_or}
use Rattle.mesh_base.specs.Place.{Place}
use Rattle.mesh_base.specs.Kernel.{plus}
use Rattle.move_kernels.proofs.PlaceLaws.{Within, with_place}
use Rattle.move_kernels.proofs.kernels.sum_of.Given as goal

abbrev pub invariant-loop-w : goal.invariant-loop-w
invariant-loop-w l =
    ((l.x, l.y, l.z) ≡ fold (with_place l.old) (pos 0, pos 0, pos 0) (take l.w-index l.near))
    × Within (l.w-index * 2 ^ 30) l.x
    × Within (l.w-index * 2 ^ 30) l.y
    × Within (l.w-index * 2 ^ 30) l.z
