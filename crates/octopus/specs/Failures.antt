-- What a status says of the calls that failed.
use Rattle.std.specs.Prelude.{◌≡◌, ℕ, List, Option, ◌⊎◌}
use Rattle.std.specs.Io.KnownBytes.{Keeps}
use Rattle.oct_edge.specs.Causes.{raised}
use Rattle.octopus.specs.declared.status.Status.{Status}
use Rattle.octopus.specs.declared.status.Status.TheVariants.{Memory}

-- At most one call failed.
abbrev pub RisesOnce : ℕ → ℕ → Type 0
RisesOnce before now = (now ≡ before) ⊎ (now ≡ raised before)

-- A failed call is told: where the status isn't the one for it, none failed.
abbrev pub EndsAs : Status → Status → ℕ → ℕ → Type 0
EndsAs fault status before now = (status ≡ fault) ⊎ (now ≡ before)

-- Memory is refused before the first byte is written.
abbrev pub WritesNone : Status → Option (List ℕ) → Option (List ℕ) → Type 0
WritesNone status old new = status ≡ Memory → Keeps old new
