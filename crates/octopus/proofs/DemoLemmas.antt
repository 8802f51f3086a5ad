-- The summary of a demo is the same in each whole history.
use Rattle.std.proofs.Common.{◌≡◌, ℕ, zero, suc, ◌+◌, ◌<◌, List, [], ◌∷◌, ◌++◌, length, take, refl, sym, ap, ◌∙◌, arith, append_assoc}
use Rattle.std.specs.Prelude.{flat_map, filter, codes, slice_index_or}
use Rattle.std.specs.Fmt.{decimal}
use Rattle.std.specs.List.{range_with_len}
use Rattle.std.proofs.lemmas.List.Concat.{flat_map-append}
use Rattle.std.proofs.lemmas.List.Elements.{filter_more, All-from_recursion}
use Rattle.mesh_base.specs.declared.answer.Answer.{Answer}
use Rattle.run_script.specs.declared.job.SessionTurn.{SessionTurn}
use Rattle.run_script.specs.Jobs.{turns, step_at}
use Rattle.step_registry.specs.declared.event.Event.{Event}
use Rattle.step_registry.specs.Core.{IsWhole, answers_of}
use Rattle.step_registry.specs.Lines.{of_session}
use Rattle.report.specs.Last.{NeedsLast, answered_last}
use Rattle.report.proofs.Written.{listed-is}
use Rattle.report.proofs.Latest.{listed-last}
use Rattle.sample_meshes.specs.Block.{block}
use Rattle.octopus.specs.Lines.{line}
use Rattle.demo_job.specs.Demo.{demo_steps, demo_boxes, demo_items, demo_job}
use Rattle.octopus.specs.Demo.{box_words, demo_line, demo_head, demo_text, answer_words, line_by, summary_by}

pub answers_more : (s : ℕ) (xs : List Answer) (i : ℕ) (x : Answer) (a b c : List ℕ) → i < length xs → x ≡ slice_index_or xs i x
    → b ≡ a ++ flat_map answer_words (filter (of_session s) (take i xs)) → c ≡ b ++ flat_map answer_words (filter (of_session s) (x ∷ []))
    → c ≡ a ++ flat_map answer_words (filter (of_session s) (take (i + 1) xs))
answers_more s xs i x a b c lt is eb ec =
    let kept = filter (of_session s) (take i xs) in let new = filter (of_session s) (x ∷ []) in
    let step : filter (of_session s) (take (i + 1) xs) ≡ kept ++ new =
    filter_more (of_session s) xs i x lt ∙ ap (λ y. kept ++ filter (of_session s) (y ∷ [])) (sym is) in
    ec ∙ (ap (λ l. l ++ flat_map answer_words new) eb
    ∙ (append_assoc a (flat_map answer_words kept) (flat_map answer_words new)
    ∙ ap (λ l. a ++ l) (sym (flat_map-append answer_words kept new) ∙ ap (flat_map answer_words) (sym step))))

same_texts : (f g : ℕ → List ℕ) (a n : ℕ) → ((s : ℕ) → s < a + n → f s ≡ g s) → flat_map f (range_with_len a n) ≡ flat_map g (range_with_len a n)
same_texts f g a zero each = refl
same_texts f g a (suc n) each =
    ap (λ l. l ++ flat_map f (range_with_len (a + 1) n)) (each a (omega arith))
    ∙ ap (λ l. g a ++ l) (same_texts f g (a + 1) n (λ s lt. each s (omega arith)))

-- each session needs the last step
needs-last : (n seed s : ℕ) → s < 4 → NeedsLast (demo_job n seed) s
needs-last n seed zero lt = All-from_recursion (λ (turn : SessionTurn). turn.need ≡ demo_steps) (turns (demo_items n)) (refl, (refl, (refl, tt)))
needs-last n seed (suc zero) lt = All-from_recursion (λ (turn : SessionTurn). turn.need ≡ demo_steps) (turns (demo_items n)) (refl, (refl, (refl, tt)))
needs-last n seed (suc (suc zero)) lt = All-from_recursion (λ (turn : SessionTurn). turn.need ≡ demo_steps) (turns (demo_items n)) (refl, (refl, (refl, tt)))
needs-last n seed (suc (suc (suc zero))) lt = All-from_recursion (λ (turn : SessionTurn). turn.need ≡ demo_steps) (turns (demo_items n)) (refl, (refl, (refl, tt)))
needs-last n seed (suc (suc (suc (suc s)))) lt = absurd (omega arith)

-- its answers at that step are those of the boxes on its mesh
same-words : (n seed s : ℕ) → s < 4 → flat_map answer_words (answered_last (demo_job n seed) s) ≡ flat_map (box_words (step_at (demo_job n seed) demo_steps)) (demo_boxes n)
same-words n seed zero lt = refl
same-words n seed (suc zero) lt = refl
same-words n seed (suc (suc zero)) lt = refl
same-words n seed (suc (suc (suc zero))) lt = refl
same-words n seed (suc (suc (suc (suc s)))) lt = absurd (omega arith)

same-line : (n seed : ℕ) (h : List Event) (s : ℕ) → IsWhole (demo_job n seed) h → s < 4 → line_by (answers_of (demo_job n seed) h) s ≡ demo_line (step_at (demo_job n seed) demo_steps) (demo_boxes n) s
same-line n seed h s whole lt =
    let job = demo_job n seed in
    ap (λ l. line (codes "session " ++ decimal s ++ l))
    (ap (flat_map answer_words) (listed-is job h s lt ∙ listed-last job h s whole lt (needs-last n seed s lt)) ∙ same-words n seed s lt)

pub summary-is : (n seed : ℕ) (h : List Event) → IsWhole (demo_job n seed) h → summary_by (block n) (answers_of (demo_job n seed) h) ≡ demo_text n seed
unfolding demo_text
summary-is n seed h whole =
    ap (λ l. demo_head (block n) ++ l ++ line (codes "end"))
    (same_texts (line_by (answers_of (demo_job n seed) h)) (demo_line (step_at (demo_job n seed) demo_steps) (demo_boxes n)) 0 4 (λ s lt. same-line n seed h s whole (omega arith)))
