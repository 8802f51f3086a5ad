-- The corners of each cube of a block are points of the block.
use Rattle.std.proofs.Common.{ℕ, ◌+◌, ◌*◌, ◌/◌, ◌%◌, ◌<◌, ◌≤◌, arith}
use Rattle.std.proofs.Math.Nat.{mod-lt, div-lt_iff_lt-mul, mul-le-mul_right}

pub corner_room : (n i j k : ℕ) → i < n → j < n → k < n → i + j * (n + 1) + k * ((n + 1) * (n + 1)) + 1 + (n + 1) + (n + 1) * (n + 1) < (n + 1) * (n + 1) * (n + 1)
corner_room n i j k hi hj hk =
    let b : (j + 1) * (n + 1) ≤ n * (n + 1) = mul-le-mul_right (n + 1) (omega (arith, hj)) in
    let c : (k + 1) * ((n + 1) * (n + 1)) ≤ n * ((n + 1) * (n + 1)) = mul-le-mul_right ((n + 1) * (n + 1)) (omega (arith, hk)) in
    omega (arith, hi, b, c)

-- a number of a cube of numbers lies in a layer of it
pub layer : (n t : ℕ) → 0 < n → t < n * n * n → t / (n * n) < n
layer n t some below =
    let square : 0 < n * n = grind (arith, mul-le-mul_right n some) in
    (div-lt_iff_lt-mul square).1 (omega (arith, below))

pub cube_room : (n t : ℕ) → 0 < n → t < n * n * n → t % n + t / n % n * (n + 1) + t / (n * n) * ((n + 1) * (n + 1)) + 1 + (n + 1) + (n + 1) * (n + 1) < (n + 1) * (n + 1) * (n + 1)
cube_room n t some below = corner_room n (t % n) (t / n % n) (t / (n * n)) (mod-lt t some) (mod-lt (t / n) some) (layer n t some below)

-- a block of at most 87 cubes a side is within the limits of a mesh
pub few_points : (n : ℕ) → n ≤ 87 → (n + 1) * (n + 1) * (n + 1) ≤ 1000000
few_points n small = grind (arith)

pub few_cells : (n : ℕ) → n ≤ 87 → 6 * (n * n * n) ≤ 4000000
few_cells n small = grind (arith)
