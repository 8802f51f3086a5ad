-- The history that the text of watches prints.
use Rattle.std.proofs.Common.{◌≡◌, ℕ, true, List, ◌++◌, length, Option, Some, None, refl, ap, ◌∙◌}
use Rattle.std.specs.Prelude.{flat_map, codes}
use Rattle.std.specs.List.{list_all, range_with_len}
use Rattle.std.specs.Fmt.{decimal}
use Rattle.run_script.specs.Jobs.{JobView, IsJob}
use Rattle.step_registry.specs.declared.event.Event.{Event}
use Rattle.step_registry.specs.Core.{first, IsWhole}
use Rattle.step_registry.specs.CoreLaws.{first-sound}
use Rattle.report.specs.Report.{line, list_line, session_words, sizes_text}
use Rattle.report.specs.Printed.{printed_journal}
use Rattle.report.proofs.Bytes.{both-all}
use Rattle.report.proofs.Read.{is_quiet, Passed, quiet-line, passed-both, passed-all, decimal-quiet, list-passed, sizes-passed, session_line-passed, journal-behind}
use Rattle.report.proofs.Whole.{whole-read, all-fit}
use Rattle.report.proofs.Holds.{whole-run}
use Rattle.box_watch.specs.declared.watch.Watch.{Watch}
use Rattle.box_watch.specs.Watches.{session_watches}
use Rattle.box_watch.specs.WatchText.{prior_word, watch_words, watch_lines, watched_session, watched_text, Watches}

prior-quiet : (prior : Option ℕ) → list_all is_quiet (prior_word prior) ≡ true
prior-quiet None = refl
prior-quiet (Some q) = decimal-quiet q

watch-quiet : (w : Watch) → list_all is_quiet (watch_words w) ≡ true
watch-quiet w =
    let t1 = codes "box " ++ decimal w.query in let t2 = t1 ++ codes " step " in let t3 = t2 ++ decimal w.step in let t4 = t3 ++ codes " from " in
    let t5 = t4 ++ prior_word w.prior in let t6 = t5 ++ codes " entered " in let t7 = t6 ++ decimal (length w.entered) in let t8 = t7 ++ codes " left " in
    let q2 = both-all is_quiet t1 (codes " step ") (decimal-quiet w.query) refl in let q3 = both-all is_quiet t2 (decimal w.step) q2 (decimal-quiet w.step) in
    let q4 = both-all is_quiet t3 (codes " from ") q3 refl in let q5 = both-all is_quiet t4 (prior_word w.prior) q4 (prior-quiet w.prior) in
    let q6 = both-all is_quiet t5 (codes " entered ") q5 refl in let q7 = both-all is_quiet t6 (decimal (length w.entered)) q6 (decimal-quiet (length w.entered)) in
    let q8 = both-all is_quiet t7 (codes " left ") q7 refl in both-all is_quiet t8 (decimal (length w.left)) q8 (decimal-quiet (length w.left))

watch-passed : (w : Watch) → Passed (watch_lines w)
watch-passed w =
    passed-both (line (watch_words w) ++ list_line w.entered) (list_line w.left)
    (passed-both (line (watch_words w)) (list_line w.entered) (quiet-line (watch_words w) (watch-quiet w)) (list-passed w.entered)) (list-passed w.left)

session-passed : (job : JobView) (h : List Event) (s : ℕ) → Passed (watched_session job h s)
session-passed job h s =
    passed-both (line (session_words job s)) (flat_map watch_lines (session_watches job h s)) (session_line-passed job s)
    (passed-all watch_lines watch-passed (session_watches job h s))

printed : (job : JobView) (h : List Event) → IsJob job → IsWhole job h → printed_journal (watched_text job h) ≡ Some h
unfolding watched_text
printed job h j w =
    let name = line (codes "octopus watch 1") in let sessions = flat_map (watched_session job h) (range_with_len 0 (length job.sessions)) in
    journal-behind (name ++ sizes_text job ++ sessions) h
    (passed-both (name ++ sizes_text job) sessions (passed-both name (sizes_text job) (quiet-line (codes "octopus watch 1") refl) (sizes-passed job))
    (passed-all (watched_session job h) (session-passed job h) (range_with_len 0 (length job.sessions))))
    (all-fit job (first job) h j (first-sound job) w.legal)
    ∙ ap Some (whole-read job h w)

pub watch-holds : (job : JobView) (h : List Event) → IsJob job → IsWhole job h → Watches job (watched_text job h)
watch-holds job h j w = record { history = h; printed = printed job h j w; watched = refl; tells = whole-run job h w }
