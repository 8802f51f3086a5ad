-- All that the report of a whole history tells.
use Rattle.std.proofs.Common.{◌≡◌, List, Some, refl, ap, ◌∙◌}
use Rattle.run_script.specs.Jobs.{JobView, IsJob}
use Rattle.step_registry.specs.declared.event.Event.{Event}
use Rattle.step_registry.specs.Core.{first, IsWhole}
use Rattle.step_registry.specs.CoreLaws.{first-sound}
use Rattle.report.specs.Report.{report_text}
use Rattle.report.specs.Printed.{printed_journal}
use Rattle.report.specs.Headline.{IsWholeRun, Reports}
use Rattle.report.proofs.Read.{journal-again}
use Rattle.report.proofs.Whole.{pins-never-fall, frees-exactly, whole-read, all-fit}
use Rattle.report.proofs.Lists.{answers-are-true, boxes-in-order}

pub journal-printed : (job : JobView) (h : List Event) → IsJob job → IsWhole job h → printed_journal (report_text job h) ≡ Some h
journal-printed job h j w = journal-again job h (all-fit job (first job) h j (first-sound job) w.legal) ∙ ap Some (whole-read job h w)

pub whole-run : (job : JobView) (h : List Event) → IsWhole job h → IsWholeRun job h
whole-run job h w = record {
  whole = w;
  pins = pins-never-fall job h w.legal;
  boxes = boxes-in-order job h w;
  answers = answers-are-true job h w;
  freed = frees-exactly job h w.legal;
}

pub report-holds : (job : JobView) (h : List Event) → IsJob job → IsWhole job h → Reports job (report_text job h)
report-holds job h j w = record {
  history = h;
  printed = journal-printed job h j w;
  report = refl;
  tells = whole-run job h w;
}
