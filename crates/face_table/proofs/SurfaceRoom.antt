-- there is room for a number that is not listed
use Rattle.std.proofs.Common.{◌≡◌, ℕ, ◌<◌, List, length, Contains, insert, ◌⊎◌, inl, inr, arith}
use Rattle.std.proofs.lemmas.List.Edits.{length-insert}
use Rattle.std.specs.List.Sorted.{IsStrictlyIncreasing}
use Rattle.mesh_base.proofs.Ascending.{In, Contains-from_In, In-insert, Asc-insert, Asc-from_increasing, length-Asc}
use Rattle.mesh_base.specs.Numbers.{IsPlaceOf}

pub room_for : (xs : List ℕ) (n v i : ℕ) → IsStrictlyIncreasing xs → ((w : ℕ) → Contains xs w → w < n) → v < n → IsPlaceOf v xs i → length xs < n
room_for xs n v i up below lt at =
    let a = Asc-insert xs i v at.within at.before at.after (Asc-from_increasing xs up) in
    let f = λ (w : ℕ) (h : In (insert xs i v) w). bound w (In-insert xs i v w at.within h) in
    let r = length-Asc (insert xs i v) 0 n a (omega arith) (λ w h. omega arith) f in
    omega (arith, length-insert xs i v at.within)
  where
    bound : (w : ℕ) → (v ≡ w) ⊎ In xs w → w < n
    bound w (inl e) = omega arith
    bound w (inr h) = below w (Contains-from_In xs w h)
