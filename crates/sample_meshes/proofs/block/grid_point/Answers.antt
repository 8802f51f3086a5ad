use Rattle.std.proofs.Common.{◌≡◌, ℕ, ◌*◌, ◌/◌, ◌%◌, ◌<◌, to_z, pos, w32, arith}
use Rattle.std.proofs.Math.Nat.{mod-lt}
use Rattle.std.proofs.lemmas.Int.{to_z_pos}
use Rattle.sample_meshes.proofs.BlockRoom.{layer}
use Rattle.sample_meshes.proofs.block.grid_point.Goals as goal

-- a number of steps of 16 along a side
steps : (side n : ℕ) → side < 89 → n < side → to_z w32 (16 * n) ≡ pos (16 * n)
steps side n few below = to_z_pos w32 (16 * n) (omega arith)

pub returns : goal.returns
returns c =
    let s = c.args.side in
    let v = c.args.v in
    let some = c.requires.side.0 in
    let few : s < 89 = omega (arith, c.requires.side.1) in
    let x = steps s (v % s) few (mod-lt v some) in
    let y = steps s (v / s % s) few (mod-lt (v / s) some) in
    let z = steps s (v / (s * s)) few (layer s v some c.requires.number) in
    let point = rw (x, y, z) at c.in-Some.ensures in point.1
