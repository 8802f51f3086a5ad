-- What a status says of what was due and of what was written.
use Rattle.std.specs.Prelude.{◌≡◌, ℕ, List, take, Option, Some, None, IsSome, ◌⊎◌}
use Rattle.std.specs.Io.KnownBytes.{Appends, Keeps}
use Rattle.octopus.specs.declared.status.Status.{Status}
use Rattle.octopus.specs.declared.status.Status.TheVariants.{Done, Usage, Memory, ReadFault, WriteFault, TooLong, BadMesh, BadScript, NoStep}
use Rattle.octopus.specs.Refusals.{status_of_refusal, refusal_line}
use Rattle.run_script.specs.Jobs.{JobView}
use Rattle.report.specs.Headline.{Reports}
use Rattle.box_watch.specs.WatchText.{Watches}
use Rattle.octopus.specs.Rings.{TellsRings}
use Rattle.octopus.specs.Due.{Due, Missing, Refuse, Text, Round, Play, Watched}

-- the status that goes with what is due, where the files are there
abbrev pub settled : Due → Option Status
settled Missing = None
settled (Refuse why) = Some (status_of_refusal why)
settled (Text text) = Some Done
settled (Round mesh area most) = Some Done
settled (Play job) = Some Done
settled (Watched job) = Some Done

-- x is the text that is due
abbrev pub Spells : Due → List ℕ → Type 0
Spells Missing x = ⊥
Spells (Refuse why) x = x ≡ refusal_line why
Spells (Text text) x = x ≡ text
Spells (Round mesh area most) x = TellsRings mesh area most x
Spells (Play job) x = Reports job x
Spells (Watched job) x = Watches job x

-- the whole of a text that is due was added
pub record Ends (due : Due) (old new : Option (List ℕ)) : Type 0 where
  pub text : List ℕ
  pub spelled : Spells due text
  pub added : Appends old new text

-- the front of a text that is due was added
pub record Begun (due : Due) (old new : Option (List ℕ)) : Type 0 where
  pub text : List ℕ
  pub count : ℕ
  pub spelled : Spells due text
  pub added : Appends old new (take count text)

-- nothing was added, or the front of a text that is due
abbrev pub Begins : Due → Option (List ℕ) → Option (List ℕ) → Type 0
Begins due old new = Keeps old new ⊎ Begun due old new

-- With this status, this is what was due, and what was added to the bytes written.
abbrev pub Gives : Due → Status → Option (List ℕ) → Option (List ℕ) → Type 0
Gives due Memory old new = Begins due old new
Gives due ReadFault old new = Keeps old new
Gives due WriteFault old new = IsSome (settled due) × Begins due old new
Gives due Done old new = (settled due ≡ Some Done) × Ends due old new
Gives due Usage old new = (settled due ≡ Some Usage) × Ends due old new
Gives due TooLong old new = (settled due ≡ Some TooLong) × Ends due old new
Gives due BadMesh old new = (settled due ≡ Some BadMesh) × Ends due old new
Gives due BadScript old new = (settled due ≡ Some BadScript) × Ends due old new
Gives due NoStep old new = (settled due ≡ Some NoStep) × Ends due old new

-- a file was refused for a fault of its text
abbrev pub IsBadText : Status → Type 0
IsBadText BadMesh = Unit {0}
IsBadText BadScript = Unit {0}
IsBadText _ = ⊥

-- The bytes added are the report of the history that their journal lines print, and all that `Reports` says is true of
-- it.
pub record WritesReport (job : JobView) (old new : Option (List ℕ)) : Type 0 where
  pub text : List ℕ
  pub tells : Reports job text
  pub added : Appends old new text

-- The bytes added are the watches of the history that their journal lines print, and all that `Watches` says is true of
-- it.
pub record WritesWatches (job : JobView) (old new : Option (List ℕ)) : Type 0 where
  pub text : List ℕ
  pub tells : Watches job text
  pub added : Appends old new text
