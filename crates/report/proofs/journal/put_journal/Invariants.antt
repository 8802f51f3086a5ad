use Rattle.std.proofs.Common.{◌≡◌, ◌++◌, take, length}
use Rattle.std.specs.Prelude.{flat_map, codes}
use Rattle.std.specs.Fmt.{decimal}
use Rattle.report.specs.Report.{line, event_text}
use Rattle.report.proofs.journal.put_journal.Given as goal

abbrev pub invariant-loop-event : goal.invariant-loop-event
invariant-loop-event l = l.out.items ≡ l.fn.out.items ++ line (codes "journal " ++ decimal (length l.journal)) ++ flat_map event_text (take l.event-index l.journal)
