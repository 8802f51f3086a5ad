-- How what a call answers follows from what a definition says.
use Rattle.std.specs.Prelude.{◌≡◌, Result, Ok, Err}
use Rattle.run_script.specs.declared.fault.ScriptFault.{ScriptFault}
use Rattle.run_script.specs.declared.fault.ScriptFault.TheVariants as errors
use Rattle.run_script.specs.Faults.{Fault, fault}

-- a fault is the one that is defined, unless memory ran out
abbrev pub IsFault : {Y : Type 0} → ScriptFault → Result Y Fault → Type 0
IsFault errors.NoMemory outcome = Unit {0}
IsFault (errors.Bad kind line) outcome = outcome ≡ Err (fault kind line)

-- an answer is the outcome that is defined, unless memory ran out
abbrev pub Agrees : {Y : Type 0} → Result Y ScriptFault → Result Y Fault → Type 0
Agrees (Ok x) outcome = outcome ≡ Ok x
Agrees (Err e) outcome = IsFault e outcome
