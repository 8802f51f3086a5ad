-- The watches that lead to one, and what they make together.
use Rattle.std.specs.Prelude.{◌≡◌, ℕ, zero, suc, ◌==◌, Bool, ◌&&◌, false, List, [], ◌∷◌, Option, Some, None, if◌then◌else◌}
use Rattle.box_watch.specs.declared.watch.Watch.{Watch}
use Rattle.box_watch.specs.Replay.{watch_at, IsAfter}

-- the watch is of this box, where one is wanted
abbrev pub is_wanted : ℕ → Option ℕ → Watch → Bool
is_wanted s None w = false
is_wanted s (Some q) w = (w.session == s) && (q == w.query)

-- among the first n watches the last one that is wanted, then the one that it wants, and so on
abbrev pub chain_below : List Watch → ℕ → ℕ → Option ℕ → List ℕ
chain_below all zero s wanted = []
chain_below all (suc n) s wanted =
    if is_wanted s wanted (watch_at all n) then n ∷ chain_below all n s (watch_at all n).prior
    else chain_below all n s wanted

-- the list that the watches at these places make, the first place being the last watch
abbrev pub IsMadeBy : List Watch → List ℕ → List ℕ → Type 0
IsMadeBy all [] vs = vs ≡ []
IsMadeBy all (place ∷ places) vs = (before : List ℕ) × IsMadeBy all places before
    × IsAfter before (watch_at all place) vs
