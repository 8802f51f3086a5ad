-- What a command finds out before anything is written, beside what is due.
use Rattle.std.specs.Prelude.{◌≡◌, ◌≢◌, ℕ, ◌+◌, ◌≤◌, List, Option, Result, Ok, Err, IfSome, OnOk, Some, Vec}
use Rattle.std.specs.Io.KnownBytes.{IsAtEnd}
use Rattle.std.specs.declared.alloc.Global.{Global}
use Rattle.oct_edge.specs.Outside.{Files}
use Rattle.oct_edge.specs.Causes.{Rose}
use Rattle.octopus.specs.declared.outcome.Early.{Early}
use Rattle.octopus.specs.declared.outcome.Early.TheVariants as early
use Rattle.octopus.specs.declared.status.Status.{Status}
use Rattle.octopus.specs.declared.status.Status.TheVariants.{Done, Usage, Memory, ReadFault, TooLong}
use Rattle.octopus.specs.declared.refusal.Refusal.{Refusal}
use Rattle.octopus.specs.Refusals.{status_of_refusal}
use Rattle.octopus.specs.Due.{Due, Refuse}
use Rattle.octopus.specs.Failures.{RisesOnce, EndsAs}
use Rattle.octopus.specs.Opened.{IsReadPast, limit_of}
use Rattle.octopus.specs.Written.{settled, Spells, IsBadText}

-- the status that a result leads to, where its text or its line can be written
abbrev pub status_of : {A : Type 0} → Result A Early → Status
status_of (Ok x) = Done
status_of (Err early.Memory) = Memory
status_of (Err early.ReadFault) = ReadFault
status_of (Err (early.Refused why)) = status_of_refusal why

-- what is refused is refused so
abbrev pub IfRefused : {A : Type 0} → Result A Early → (Refusal → Type 0) → Type 0
IfRefused (Ok x) P = Unit {0}
IfRefused (Err early.Memory) P = Unit {0}
IfRefused (Err early.ReadFault) P = Unit {0}
IfRefused (Err (early.Refused why)) P = P why

-- the text is what is due, or the refusal is
abbrev pub Settles : Due → Result (Vec ℕ Global) Early → Type 0
Settles due (Ok text) = (settled due ≡ Some Done) × Spells due text.items
Settles due (Err early.Memory) = Unit {0}
Settles due (Err early.ReadFault) = Unit {0}
Settles due (Err (early.Refused why)) = due ≡ Refuse why

-- The value is what was asked for, or it is refused whatever is to be done with it: `due_with` says what is due where
-- `go` says it of a value.
abbrev pub Loads : {A : Type 0} → ((A → Due) → Due) → Result A Early → Type 0
Loads due_with (Ok x) = (go : _ → Due) → due_with go ≡ go x
Loads due_with (Err early.Memory) = Unit {0}
Loads due_with (Err early.ReadFault) = Unit {0}
Loads due_with (Err (early.Refused why)) = (go : _ → Due) → due_with go ≡ Refuse why

-- What reads from a folder owes: `told` holds of its files, where they are told; a failed read comes only where the
-- folder's faults rose, which they do once at most, and for nothing else; at most so many files are opened; a file with
-- a fault was read to its end all the same, and one that is too long to one byte past its limit.
pub record Reads {S A : Type 0} (files : S → Option Files) (rest : S → Option (List ℕ)) (faults opened : S → ℕ)
    (most : ℕ) (old new : S)
    (result : Result A Early) (says : Files → Type 0) : Type 0 where
  pub told : IfSome (files old) says
  pub same : files new ≡ files old
  pub later : faults old ≤ faults new
  pub cause : status_of result ≡ ReadFault → Rose (faults old) (faults new)
  pub once : RisesOnce (faults old) (faults new)
  pub ends : EndsAs ReadFault (status_of result) (faults old) (faults new)
  pub opens : opened new ≤ opened old + most
  pub read_whole : IsBadText (status_of result) → IsAtEnd (rest new)
  pub past : IfRefused result (λ why. status_of_refusal why ≡ TooLong
      → IfSome (files old) (λ fs. IsReadPast (limit_of why) fs (rest new)))

-- What a loader owes, where `due_with` says what is due for the files where `go` says it of the value: a file that was
-- loaded was read to its end.
pub record Brings {S A : Type 0} (files : S → Option Files) (rest : S → Option (List ℕ)) (faults opened : S → ℕ)
    (most : ℕ) (old new : S)
    (result : Result A Early) (due_with : Files → (A → Due) → Due) : Type 0 where
  pub reads : Reads files rest faults opened most old new result (λ fs. Loads (due_with fs) result)
  pub form : status_of result ≢ Usage
  pub whole : OnOk result (IsAtEnd (rest new))

-- What a command owes that has a form, where `due` says what is due for the files.
pub record Owes {S : Type 0} (files : S → Option Files) (rest : S → Option (List ℕ)) (faults opened : S → ℕ)
    (most : ℕ) (old new : S)
    (result : Result (Vec ℕ Global) Early) (due : Files → Due) : Type 0 where
  pub reads : Reads files rest faults opened most old new result (λ fs. Settles (due fs) result)
  pub form : status_of result ≢ Usage
