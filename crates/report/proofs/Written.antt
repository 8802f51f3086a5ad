-- The text that the code writes is the report.
use Rattle.std.proofs.Common.{◌≡◌, ℕ, zero, suc, ◌+◌, ◌<◌, List, [], ◌∷◌, ◌++◌, length, take, refl, sym, ap, ◌∙◌, arith, append_assoc}
use Rattle.std.specs.Prelude.{flat_map, filter, codes, slice_index_or}
use Rattle.std.specs.List.{range_with_len}
use Rattle.std.proofs.lemmas.List.Concat.{flat_map-append}
use Rattle.std.proofs.lemmas.List.Elements.{filter_more}
use Rattle.report.proofs.Ranges.{flat_map_next}
use Rattle.run_script.specs.Jobs.{JobView}
use Rattle.mesh_base.specs.declared.answer.Answer.{Answer}
use Rattle.step_registry.specs.declared.event.Event.{Event}
use Rattle.step_registry.specs.Core.{first, session_of, fresh, answers_of}
use Rattle.step_registry.specs.CoreLaws.{first-sound, get-replicate}
use Rattle.step_registry.specs.Lines.{of_session, turns_at, steps_of, session_answers}
use Rattle.report.specs.Report.{line, answer_text, session_words, listed, session_text, journal_text, sizes_text, report_text}
use Rattle.report.specs.ByAnswers.{session_part, sessions_part, text_by}

-- one more answer was looked at
pub answers_more : (s : ℕ) (xs : List Answer) (i : ℕ) (x : Answer) (a b c : List ℕ) → i < length xs → x ≡ slice_index_or xs i x
    → b ≡ a ++ flat_map answer_text (filter (of_session s) (take i xs)) → c ≡ b ++ flat_map answer_text (filter (of_session s) (x ∷ []))
    → c ≡ a ++ flat_map answer_text (filter (of_session s) (take (i + 1) xs))
answers_more s xs i x a b c lt is eb ec =
    let kept = filter (of_session s) (take i xs) in let new = filter (of_session s) (x ∷ []) in
    let step : filter (of_session s) (take (i + 1) xs) ≡ kept ++ new =
    filter_more (of_session s) xs i x lt ∙ ap (λ y. kept ++ filter (of_session s) (y ∷ [])) (sym is) in
    ec ∙ (ap (λ l. l ++ flat_map answer_text new) eb
    ∙ (append_assoc a (flat_map answer_text kept) (flat_map answer_text new)
    ∙ ap (λ l. a ++ l) (sym (flat_map-append answer_text kept new) ∙ ap (flat_map answer_text) (sym step))))

-- the same text for each number of a range
same_texts : (f g : ℕ → List ℕ) (a n : ℕ) → ((s : ℕ) → s < a + n → f s ≡ g s) → flat_map f (range_with_len a n) ≡ flat_map g (range_with_len a n)
same_texts f g a zero each = refl
same_texts f g a (suc n) each =
    ap (λ l. l ++ flat_map f (range_with_len (a + 1) n)) (each a (omega arith))
    ∙ ap (λ l. g a ++ l) (same_texts f g (a + 1) n (λ s lt. each s (omega arith)))

-- the answers of one session among all
pub listed-is : (job : JobView) (h : List Event) (s : ℕ) → s < length job.sessions → filter (of_session s) (answers_of job h) ≡ listed job h s
listed-is job h s lt =
    let even = (first-sound job).even in let start : (session_of (first job) s).done ≡ 0 = ap (λ me. me.done) (get-replicate (length job.sessions) s fresh) in
    session_answers job (first job) s h (omega arith) ∙ ap (λ d. turns_at job s d (steps_of s h)) start

sessions-are : (job : JobView) (h : List Event) → sessions_part job (answers_of job h) (length job.sessions) ≡ flat_map (session_text job h) (range_with_len 0 (length job.sessions))
sessions-are job h =
    same_texts (session_part job (answers_of job h)) (session_text job h) 0 (length job.sessions)
    (λ s lt. ap (λ l. line (session_words job s) ++ flat_map answer_text l) (listed-is job h s (omega arith)))

pub text-is : (job : JobView) (h : List Event) → text_by job (answers_of job h) h ≡ report_text job h
unfolding report_text
text-is job h = ap (λ l. line (codes "octopus report 1") ++ sizes_text job ++ l ++ journal_text h ++ line (codes "end")) (sessions-are job h)

-- one more session was written
pub sessions_more : (job : JobView) (answers : List Answer) (s : ℕ) (a b c : List ℕ) → b ≡ a ++ sessions_part job answers s → c ≡ b ++ session_part job answers s → c ≡ a ++ sessions_part job answers (s + 1)
sessions_more job answers s a b c eb ec =
    ec ∙ (ap (λ l. l ++ session_part job answers s) eb
    ∙ (append_assoc a (sessions_part job answers s) (session_part job answers s) ∙ ap (λ l. a ++ l) (sym (flat_map_next (session_part job answers) s))))

pub text-from : (job j : JobView) (answers : List Answer) (h k : List Event) → j ≡ job → answers ≡ answers_of job h → k ≡ h → text_by j answers k ≡ report_text job h
text-from job j answers h k ej ea ek = ap (λ i. text_by i answers k) ej ∙ (ap (λ l. text_by job l k) ea ∙ (ap (λ i. text_by job (answers_of job h) i) ek ∙ text-is job h))
