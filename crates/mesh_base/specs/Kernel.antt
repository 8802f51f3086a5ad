-- where a motion puts each point
use Rattle.std.specs.Prelude.{ℕ, ◌+◌, ◌*◌, ◌/◌, ◌%◌, ◌^◌, ℤ, pos, ◌+ℤ◌, ◌-ℤ◌, ◌*ℤ◌, neg_ℤ, List, map, fold, length, if◌then◌else◌}
use Rattle.std.specs.Int.{int_max, int_min, int_div_euclid}
use Rattle.mesh_base.specs.Place.{Place}
use Rattle.mesh_base.specs.Mesh.{MeshView, is_vertex, numbers, neighbours, place}
use Rattle.mesh_base.specs.declared.edit.Axis.{Axis}
use Rattle.mesh_base.specs.declared.edit.Axis.TheVariants.{X, Y, Z}
use Rattle.mesh_base.specs.declared.edit.Kernel.{Kernel}
use Rattle.mesh_base.specs.declared.edit.Kernel.TheVariants.{Stay, Shift, Pull, Shake, Relax, Turn}

-- the coordinate in range that is nearest to c
abbrev pub held : ℤ → ℤ
held c = int_max (neg_ℤ (pos (2 ^ 30))) (int_min (pos (2 ^ 30)) c)

-- each coordinate held in range
abbrev pub held_place : Place → Place
held_place p = (held p.0, held p.1, held p.2)

-- the quotient by a positive number, towards the smaller number
abbrev pub floor_of : ℤ → ℤ → ℤ
floor_of a b = int_div_euclid a b

-- c, moved by num in den parts of the way to another coordinate
abbrev pub pulled : ℤ → ℤ → ℤ → ℤ → ℤ
pulled to num den c = c +ℤ floor_of ((to -ℤ c) *ℤ num) den

-- a number from 0 to 65535 for a seed, a step k, a point v and an axis
abbrev pub mixed : ℕ → ℕ → ℕ → ℕ → ℕ
mixed seed k v axis = (seed + 40503 * v + 30011 * k + 9973 * axis) % 65536

-- c, moved by a number from -amp to amp that depends on the seed, the step, the point and the axis
abbrev pub shaken : ℕ → ℕ → ℕ → ℕ → ℕ → ℤ → ℤ
shaken seed amp k v axis c =
    let h = mixed seed k v axis in c +ℤ pos ((h * (h + 1) / 2) % 65536 % (2 * amp + 1)) -ℤ pos amp

-- the sum on each axis
abbrev pub plus : Place → Place → Place
plus p q = (p.0 +ℤ q.0, p.1 +ℤ q.1, p.2 +ℤ q.2)

-- the mean on each axis, towards the smaller number
abbrev pub mean : List Place → Place
mean ps =
    let sum = fold plus (pos 0, pos 0, pos 0) ps in
    let n = pos (length ps) in (floor_of sum.0 n, floor_of sum.1 n, floor_of sum.2 n)

-- a quarter turn round the axis
abbrev pub turned : Axis → Place → Place
turned X p = (p.0, neg_ℤ p.2, p.1)
turned Y p = (p.2, p.1, neg_ℤ p.0)
turned Z p = (neg_ℤ p.1, p.0, p.2)

-- where point number v goes, before it is held
abbrev pub place_by : MeshView → Kernel → ℕ → ℕ → Place
place_by mesh Stay k v = place mesh v
place_by mesh (Shift dx dy dz) k v = plus (place mesh v) (dx, dy, dz)
place_by mesh (Pull to num den) k v =
    let p = place mesh v in (pulled to.0 num den p.0, pulled to.1 num den p.1, pulled to.2 num den p.2)
place_by mesh (Shake seed amp) k v =
    let p = place mesh v in (shaken seed amp k v 0 p.0, shaken seed amp k v 1 p.1, shaken seed amp k v 2 p.2)
place_by mesh Relax k v = if is_vertex mesh.cells v then mean (map (place mesh) (neighbours mesh v)) else place mesh v
place_by mesh (Turn axis) k v = turned axis (place mesh v)

-- the new place of each point, for the step k
abbrev pub moved : MeshView → Kernel → ℕ → List Place
moved mesh kernel k = map (λ v. held_place (place_by mesh kernel k v)) (numbers mesh)
