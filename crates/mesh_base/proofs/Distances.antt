-- the squared distance from a box
use Rattle.std.proofs.Common.{◌≡◌, ℕ, ◌+◌, ◌*◌, ◌^◌, ◌≤◌, true, ◌&&◌, ℤ, ◌≤ℤ◌, arith}
use Rattle.std.proofs.lemmas.Int.{ints, by_lt_z}
use Rattle.mesh_base.specs.Place.{Place, Area, IsPlace, IsArea, IsCoordinate, is_inside, is_between, gap, square, apart2, dist2}
use Rattle.mesh_base.proofs.JoinedLaws.{and_both, both_and}

gap_none : (low high c : ℤ) → is_between low high c ≡ true → gap low high c ≡ 0
gap_none low high c e = grind (arith, ints)

gap_most : (low high c : ℤ) → IsCoordinate low → IsCoordinate high → IsCoordinate c → low ≤ℤ high → gap low high c ≤ 2 ^ 31
gap_most low high c l h m o = grind (arith, ints)

square_most : (n : ℕ) → n ≤ 2 ^ 31 → n * n ≤ 2 ^ 62
square_most n le = grind arith

squares : (x y z : ℕ) → x ≡ 0 → y ≡ 0 → z ≡ 0 → x * x + y * y + z * z ≡ 0
squares x y z e f g = grind arith

pub dist2-inside : (area : Area) (p : Place) → is_inside area p ≡ true → dist2 area p ≡ 0
dist2-inside area p h =
    let a = and_both (is_between area.lo.0 area.hi.0 p.0 && is_between area.lo.1 area.hi.1 p.1) (is_between area.lo.2 area.hi.2 p.2) h in
    let b = and_both (is_between area.lo.0 area.hi.0 p.0) (is_between area.lo.1 area.hi.1 p.1) a.0 in
    squares _ _ _ (gap_none area.lo.0 area.hi.0 p.0 b.0) (gap_none area.lo.1 area.hi.1 p.1 b.1) (gap_none area.lo.2 area.hi.2 p.2 a.1)

pub dist2-most : (area : Area) (p : Place) → IsArea area.lo area.hi → IsPlace area.lo → IsPlace area.hi → IsPlace p → dist2 area p ≤ 3 * 2 ^ 62
dist2-most area p o l h q =
    let x = square_most (gap area.lo.0 area.hi.0 p.0) (gap_most area.lo.0 area.hi.0 p.0 l.0 h.0 q.0 o.0) in
    let y = square_most (gap area.lo.1 area.hi.1 p.1) (gap_most area.lo.1 area.hi.1 p.1 l.1 h.1 q.1 o.1) in
    let z = square_most (gap area.lo.2 area.hi.2 p.2) (gap_most area.lo.2 area.hi.2 p.2 l.2 h.2 q.2 o.2) in
    omega (arith, x, y, z)

-- from a coordinate between the two it is at least as far
gap-least : (low high c d : ℤ) → is_between low high d ≡ true → gap low high c ≤ gap d d c
gap-least low high c d e = grind (arith, ints)

square-le : (m n : ℕ) → m ≤ n → m * m ≤ n * n
square-le m n le = grind arith

pub dist2-least : (area : Area) (p q : Place) → is_inside area q ≡ true → dist2 area p ≤ apart2 p q
dist2-least area p q h =
    let a = and_both (is_between area.lo.0 area.hi.0 q.0 && is_between area.lo.1 area.hi.1 q.1) (is_between area.lo.2 area.hi.2 q.2) h in
    let b = and_both (is_between area.lo.0 area.hi.0 q.0) (is_between area.lo.1 area.hi.1 q.1) a.0 in
    let x = square-le _ _ (gap-least area.lo.0 area.hi.0 p.0 q.0 b.0) in
    let y = square-le _ _ (gap-least area.lo.1 area.hi.1 p.1 q.1 b.1) in
    let z = square-le _ _ (gap-least area.lo.2 area.hi.2 p.2 q.2 a.1) in
    omega (arith, x, y, z)

-- the nearest coordinate between the two
nearest_between : (low high c : ℤ) → low ≤ℤ high → (d : ℤ) × (is_between low high d ≡ true) × (gap low high c ≡ gap d d c)
nearest_between low high c o = by_lt_z c low (λ l. (low, grind (arith, ints), grind (arith, ints))) (λ g.
    by_lt_z high c (λ l. (high, grind (arith, ints), grind (arith, ints))) (λ m. (c, grind (arith, ints), grind (arith, ints))))

pub dist2-reached : (area : Area) (p : Place) → IsArea area.lo area.hi → (q : Place) × (is_inside area q ≡ true) × (dist2 area p ≡ apart2 p q)
dist2-reached area p o =
    let x = nearest_between area.lo.0 area.hi.0 p.0 o.0 in
    let y = nearest_between area.lo.1 area.hi.1 p.1 o.1 in
    let z = nearest_between area.lo.2 area.hi.2 p.2 o.2 in
    let sum : dist2 area p ≡ apart2 p (x.0, y.0, z.0) = λ i. square (x.2 i) + square (y.2 i) + square (z.2 i) in
    ((x.0, y.0, z.0), both_and _ _ (both_and _ _ x.1 y.1) z.1, sum)
