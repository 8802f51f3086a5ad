use Rattle.std.proofs.Common.{◌≡◌, ℕ, ◌<◌, ◌≤◌, List, length, get_or, Ok, Err, Result}
use Rattle.std.proofs.lemmas.List.Sorted.{searched}
use Rattle.std.specs.Result.{MatchResult}
use Rattle.mesh_base.specs.Numbers.{IsPlaceOf}
use Rattle.mesh_base.proofs.Ascending.{increasing-le}
use Rattle.mesh_base.proofs.sorted.place_of.Goals as goal

named : (v : ℕ) (xs : List ℕ) (r : Result ℕ ℕ)
    → MatchResult r (λ i. (i < length xs) × (get_or xs i 0 ≡ v)) (λ i. (i ≤ length xs) × ((k : ℕ) → k < i → get_or xs k 0 < v) × ((k : ℕ) → i ≤ k → k < length xs → v < get_or xs k 0))
    → MatchResult r (λ i. (i < length xs) × (get_or xs i 0 ≡ v)) (IsPlaceOf v xs)
named v xs (Ok i) h = h
named v xs (Err i) h = record { within = h.0; before = h.1; after = h.2 }

pub returns : goal.returns
returns c =
    let xs = c.args.numbers.now in
    named c.args.v xs c.binary_search.result
    (searched xs c.args.v c.binary_search.result c.binary_search.ensures.position (increasing-le xs c.requires.ascending))
