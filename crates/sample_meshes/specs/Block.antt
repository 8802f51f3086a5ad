-- The block of cubes: points in rows, and six cells to a cube.
use Rattle.std.specs.Prelude.{ℕ, ◌+◌, ◌*◌, ◌/◌, ◌%◌, ◌==◌, ◌||◌, if◌then◌else◌, pos, map, Some}
use Rattle.std.specs.List.{range_with_len}
use Rattle.mesh_base.specs.Place.{Place}
use Rattle.mesh_base.specs.Mesh.{Corners, MeshView}

-- the most cubes along a side of a block
abbrev pub most_side : ℕ
most_side = 87

-- Number v of a cube of numbers with this side has these places on the axes: x rises fastest, then y, then z.
abbrev pub on_x : ℕ → ℕ → ℕ
on_x side v = v % side

abbrev pub on_y : ℕ → ℕ → ℕ
on_y side v = v / side % side

abbrev pub on_z : ℕ → ℕ → ℕ
on_z side v = v / (side * side)

-- how many points or cubes there are along three sides
abbrev pub cubed : ℕ → ℕ
cubed side = side * side * side

-- the place of point number v, where there are so many points along a side: they stand 16 apart
abbrev pub grid_place : ℕ → ℕ → Place
grid_place side v = (pos (16 * on_x side v), pos (16 * on_y side v), pos (16 * on_z side v))

-- how far the number of a point rises by one step along x, y and z, with `side` points along a side
abbrev pub step_x : ℕ → ℕ
step_x side = 1

abbrev pub step_y : ℕ → ℕ
step_y side = side

abbrev pub step_z : ℕ → ℕ
step_z side = side * side

-- the first axis of the six pairs of axes: x y, x z, y x, y z, z x, z y
abbrev pub first_step : ℕ → ℕ → ℕ
first_step side pair = if (pair == 0) || (pair == 1) then step_x side else if (pair == 2)
    || (pair == 3) then step_y side else step_z side

-- the second axis of the six pairs
abbrev pub second_step : ℕ → ℕ → ℕ
second_step side pair = if (pair == 2) || (pair == 4) then step_x side else if (pair == 0)
    || (pair == 5) then step_y side else step_z side

-- the low corner of cube number c of a block of n cubes a side, as the number of a point
abbrev pub low_corner : ℕ → ℕ → ℕ
low_corner n c = on_x n c * step_x (n + 1) + on_y n c * step_y (n + 1) + on_z n c * step_z (n + 1)

-- from the low corner p by one step along each of two axes, and to the corner that is opposite to p
abbrev pub path_cell : ℕ → ℕ → ℕ → Corners
path_cell side pair p = (
  p,
  p + first_step side pair,
  p + first_step side pair + second_step side pair,
  p
      + step_x side + step_y side + step_z side,
)

-- cell number t: the cubes come one after another, each with its six cells
abbrev pub block_cell : ℕ → ℕ → Corners
block_cell n t = path_cell (n + 1) (t % 6) (low_corner n (t / 6))

-- the mesh of the block of n cubes a side
unfoldable pub block : ℕ → MeshView
block n = record {
  points = map (grid_place (n + 1)) (range_with_len 0 (cubed (n + 1)));
  cells = map (λ t. Some (block_cell n t)) (range_with_len 0 (6 * cubed n));
}
