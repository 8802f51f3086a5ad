use Rattle.std.proofs.Common.{◌≡◌, ◌≤◌, ltb, filter, get_or, length, vec_capacity}
use Rattle.std.specs.List.{range_with_len}
use Rattle.face_table.proofs.surface.list_surface.Given as goal

abbrev pub invariant-loop-v : goal.invariant-loop-v
invariant-loop-v l =
    (l.surface.items ≡ filter (λ w. ltb 0 (get_or l.singles.items w 0)) (range_with_len 0 l.v))
    × (length l.surface.items ≤ l.v) × (length l.singles.items ≤ vec_capacity l.surface)
