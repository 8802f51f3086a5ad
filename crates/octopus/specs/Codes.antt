-- The number that the process ends with.
use Rattle.std.specs.Prelude.{ℕ}
use Rattle.octopus.specs.declared.status.Status.{Status}
use Rattle.octopus.specs.declared.status.Status.TheVariants.{Done, Usage, Memory, ReadFault, WriteFault, TooLong, BadMesh, BadScript, NoStep}

abbrev pub code_of : Status → ℕ
code_of Done = 0
code_of Usage = 2
code_of Memory = 3
code_of ReadFault = 4
code_of WriteFault = 5
code_of TooLong = 6
code_of BadMesh = 7
code_of BadScript = 8
code_of NoStep = 9
