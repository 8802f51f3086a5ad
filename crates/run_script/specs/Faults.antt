-- What is wrong with a script, and on which line.
use Rattle.std.specs.Prelude.{ℕ}
use Rattle.run_script.specs.declared.fault.ScriptKind.{ScriptKind}

-- what is wrong first, and on which line
pub record Fault : Type 0 where
  pub kind : ScriptKind
  pub line : ℕ

abbrev pub fault : ScriptKind → ℕ → Fault
fault kind line = record { kind = kind; line = line }
