use Rattle.std.proofs.Common.{length, ◌+◌}
use Rattle.script_format.specs.ScriptText.{lines}
use Rattle.script_format.specs.Reading.{IsReading}
use Rattle.script_format.proofs.reader.read_rows.Given as goal

abbrev pub invariant-loop-cut : goal.invariant-loop-cut
invariant-loop-cut l = IsReading l.version (lines l.text) (length l.text + 1) l.line l.rest l.reading

abbrev pub decreases-loop-cut : goal.decreases-loop-cut
decreases-loop-cut l = length l.rest
