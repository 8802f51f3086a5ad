-- Each event keeps what a registry keeps.
use Rattle.std.specs.Prelude.{◌≡◌, ℕ, ◌+◌, ◌-◌, ◌==◌, ◌≤◌, ◌<◌, ◌≢◌, ◌||◌, Bool, true, false, cond, List, [], ◌∷◌, ◌++◌, length, map, slice_index_or, slice_set, Option, Some, None, refl}
use Rattle.std.specs.Option.{option_to_list, is_some, IfSome}
use Rattle.std.specs.List.{remove}
use Rattle.std.proofs.Common.{arith, suc, zero, sym, ◌∙◌, ap, subst, length-append, append-nil}
use Rattle.std.proofs.lemmas.List.{length-set}
use Rattle.std.proofs.Math.Seq.{set-append_seam}
use Rattle.std.proofs.lemmas.List.Sums.{get_or-le-sum_by}
use Rattle.std.proofs.lemmas.Bool.{lt-ltb, ltb-true, ltb-false, eqb-true, eqb-false}
use Rattle.run_script.specs.Jobs.{JobView, turns_of}
use Rattle.step_view.specs.StepView.{StepView, step_of}
use Rattle.step_view.specs.Rows.{SharesView, all_shares}
use Rattle.mesh_base.specs.declared.answer.Answer.{Answer}
use Rattle.step_registry.specs.declared.event.Event.{Event}
use Rattle.step_registry.specs.declared.event.Event.TheVariants.{Publish, Pin, Unpin, Close}
use Rattle.step_registry.specs.declared.event.SessionState.{SessionState}
use Rattle.step_registry.specs.Core.{State, first, session_of, pinned, effect, CanHappen, after, has_out, outs, is_out, older, held, row_of, answers_of, answers_by, answers_from, freed_by}
use Rattle.step_registry.specs.CoreLaws.{IsSound, sound, legal_more, after-append, answers-append, length_fits, answers_fit}
use Rattle.step_registry.specs.Rows.{older_rows, rows_publish, rows_pin, rows_unpin_newest, rows_unpin_older, outs-set, outs-le, outs_above, rows_few, numbers, numbers-rows, rows_between, rows_split, number_at, row_back, out-counted, numbers_within, place, IsBackAt, has_out-same, has_out-other, outs-unpinned}
use Rattle.step_registry.specs.Laws.{IsKept, answers_in}

seam_there : (before : List SharesView) (row : SharesView) (rest : List SharesView) (k : ℕ) → row.step.number ≡ k → (i : ℕ) × (i < length (before ++ row ∷ rest)) × (number_at (before ++ row ∷ rest) i ≡ k)
seam_there [] row rest k e = (0, omega arith, e)
seam_there (b ∷ before) row rest k e = let more = seam_there before row rest k e in (suc more.0, omega arith, more.2)

seam_row : (before : List SharesView) (row : SharesView) (rest : List SharesView) → row_back (before ++ row ∷ rest) (length before) ≡ row
seam_row [] row rest = refl
seam_row (b ∷ before) row rest = seam_row before row rest

remove_seam : (before : List SharesView) (row : SharesView) (rest : List SharesView) → remove (before ++ row ∷ rest) (length before) ≡ before ++ rest
remove_seam [] row rest = refl
remove_seam (b ∷ before) row rest = ap (λ l. b ∷ l) (remove_seam before row rest)

module _ (job : JobView) (h : List Event) (st : State) (latest : SharesView) (rows : List SharesView) (answers : List Answer) (er ar rr : ℕ) where
  pub kept_more : (e : Event) (latest' : SharesView) (rows' : List SharesView) (answers' : List Answer) → IsKept job h st latest rows answers er ar rr → CanHappen job (after job h) e → latest' ≡ row_of job (effect st e).sessions (effect st e).newest → rows' ≡ older_rows job (effect st e) → answers' ≡ answers ++ answers_by job st e → IsKept job (h ++ e ∷ []) (effect st e) latest' rows' answers' er ar rr
  kept_more e latest' rows' answers' kept can l r a = record {
    legal = legal_more job h e kept.legal can;
    state_is = ap (λ s. effect s e) kept.state_is ∙ sym (after-append (first job) h (e ∷ []));
    latest_is = l;
    older_is = r;
    answers_is = a ∙ (ap (λ s. answers ++ answers_by job s e) kept.state_is ∙ (ap (λ x. x ++ answers_by job (after job h) e) kept.answers_is ∙ (ap (λ x. answers_of job h ++ x) (sym (append-nil (answers_by job (after job h) e))) ∙ sym (answers-append job (first job) h (e ∷ [])))));
    events_fit = kept.events_fit;
    answers_fit = kept.answers_fit;
    rows_fit = kept.rows_fit;
    job_is = kept.job_is;
  }

  -- one more event has room
  pub event_room : (e : Event) → IsKept job h st latest rows answers er ar rr → CanHappen job (after job h) e → length h < er
  event_room e kept can = let fits = length_fits job (h ++ e ∷ []) (legal_more job h e kept.legal can) in let len = length-append h (e ∷ []) in let room = kept.events_fit in omega arith

  pub close_kept : IsKept job h st latest rows answers er ar rr → CanHappen job (after job h) Close → IsKept job (h ++ Close ∷ []) (effect st Close) latest rows answers er ar rr
  close_kept kept can = kept_more Close latest rows answers kept can kept.latest_is kept.older_is (sym (append-nil answers))

  can_now : (e : Event) → IsKept job h st latest rows answers er ar rr → CanHappen job (after job h) e → CanHappen job st e
  can_now e kept can = subst (λ s. CanHappen job s e) (sym kept.state_is) can

  pub sound_now : IsKept job h st latest rows answers er ar rr → IsSound job st
  sound_now kept = subst (IsSound job) (sym kept.state_is) (sound job h kept.legal)

  row_is : (v : SharesView) (step : StepView) (n : ℕ) → v.step ≡ step → v.count ≡ n → v ≡ record { step = step; count = n }
  row_is v step n e f = ap (λ (s : StepView). let r : SharesView = record { step = s; count = v.count } in r) e ∙ ap (λ (m : ℕ). let r : SharesView = record { step = step; count = m } in r) f

  latest_step : IsKept job h st latest rows answers er ar rr → latest.step ≡ step_of job st.newest
  latest_step kept = ap (λ (v : SharesView). v.step) kept.latest_is

  latest_count : IsKept job h st latest rows answers er ar rr → latest.count ≡ (length job.sessions + 1) - outs st.newest st.sessions
  latest_count kept = ap (λ (v : SharesView). v.count) kept.latest_is

  -- a session that has none out leaves a share at home
  pub pin_left : (s k : ℕ) → IsKept job h st latest rows answers er ar rr → CanHappen job (after job h) (Pin s k) → (s < length st.sessions) × (1 < latest.count) × (st.newest ≡ k)
  pin_left s k kept can =
      let now = can_now (Pin s k) kept can in let even = (sound_now kept).even in let lt : s < length st.sessions = subst (λ n. s < n) (sym even) now.0 in
      let after_pin = outs-le st.newest (slice_set st.sessions s (pinned st.newest (session_of st s))) in let same_length = length-set st.sessions s (pinned st.newest (session_of st s)) in
      let moved = outs-set st.newest st.sessions s (pinned st.newest (session_of st s)) lt in let one = has_out-same st.newest in let none : has_out st.newest (session_of st s).out ≡ 0 = ap (has_out st.newest) now.1 in
      let count = latest_count kept in (lt, omega arith, sym now.5)

  pub pin_kept : (s k : ℕ) (latest' : SharesView) → IsKept job h st latest rows answers er ar rr → CanHappen job (after job h) (Pin s k) → latest'.step ≡ latest.step → latest'.count + 1 ≡ latest.count → IsKept job (h ++ Pin s k ∷ []) (effect st (Pin s k)) latest' rows answers er ar rr
  pin_kept s k latest' kept can step count =
      let now = can_now (Pin s k) kept can in let even = (sound_now kept).even in let lt : s < length st.sessions = subst (λ n. s < n) (sym even) now.0 in
      let moved = outs-set st.newest st.sessions s (pinned k (session_of st s)) lt in let none : has_out st.newest (session_of st s).out ≡ 0 = ap (has_out st.newest) now.1 in
      let one : has_out st.newest (Some k) ≡ 1 = subst (λ j. has_out st.newest (Some j) ≡ 1) (sym now.5) (has_out-same st.newest) in
      let before = latest_count kept in
      kept_more (Pin s k) latest' rows answers kept can (row_is latest' (step_of job st.newest) ((length job.sessions + 1) - outs st.newest (effect st (Pin s k)).sessions) (step ∙ latest_step kept) (omega arith)) (kept.older_is ∙ sym (rows_pin job st s k lt now.1 (let e = now.5 in omega arith))) (sym (append-nil answers))

  pub newest_now : IsKept job h st latest rows answers er ar rr → st.newest ≡ (after job h).newest
  newest_now kept = ap (λ (s : State). s.newest) kept.state_is

  pub pin_can : (s : ℕ) → IsKept job h st latest rows answers er ar rr → CanHappen job (after job h) (Pin s (after job h).newest) → CanHappen job (after job h) (Pin s st.newest)
  pin_can s kept can = subst (λ k. CanHappen job (after job h) (Pin s k)) (sym (newest_now kept)) can

  -- one row more has room
  pub row_room : IsKept job h st latest rows answers er ar rr → length rows < rr
  row_room kept = let few = rows_few job st in let even = (sound_now kept).even in let len : length rows ≡ length (older_rows job st) = ap length kept.older_is in let room = kept.rows_fit in omega arith

  -- what becomes of the former newest step's row
  former : (b : Bool) → is_out st.sessions st.newest ≡ b → IsKept job h st latest rows answers er ar rr → (rows' : List SharesView) (handed : Option SharesView) → (latest.count ≡ length job.sessions + 1 → (rows' ≡ rows) × (handed ≡ Some latest)) → (latest.count < length job.sessions + 1 → (rows' ≡ rows ++ latest ∷ []) × (handed ≡ None)) → (rows' ≡ rows ++ cond b (latest ∷ []) []) × (option_to_list handed ≡ cond b [] (latest ∷ []))
  former true e kept rows' handed full partly =
      let some : 0 < outs st.newest st.sessions = ltb-true 0 (outs st.newest st.sessions) e in let count = latest_count kept in let fact = partly (omega arith) in (fact.0, ap option_to_list fact.1)
  former false e kept rows' handed full partly =
      let none : outs st.newest st.sessions ≤ 0 = ltb-false 0 (outs st.newest st.sessions) e in let count = latest_count kept in let fact = full (omega arith) in (fact.0 ∙ sym (append-nil rows), ap option_to_list fact.1)

  pub publish_kept : (k : ℕ) (latest' : SharesView) (rows' : List SharesView) (handed : Option SharesView) → IsKept job h st latest rows answers er ar rr → CanHappen job (after job h) (Publish k) → latest' ≡ all_shares job k → (latest.count ≡ length job.sessions + 1 → (rows' ≡ rows) × (handed ≡ Some latest)) → (latest.count < length job.sessions + 1 → (rows' ≡ rows ++ latest ∷ []) × (handed ≡ None)) → IsKept job (h ++ Publish k ∷ []) (effect st (Publish k)) latest' rows' answers er ar rr
  publish_kept k latest' rows' handed kept can l full partly =
      let now = can_now (Publish k) kept can in let what = former (is_out st.sessions st.newest) refl kept rows' handed full partly in
      let none : outs k st.sessions ≡ 0 = outs_above job st k (sound_now kept) (let e = now.0 in omega arith) in
      let rows_are : rows' ≡ older_rows job (effect st (Publish k)) =
      what.0 ∙ (ap (λ l. l ++ cond (is_out st.sessions st.newest) (latest ∷ []) []) kept.older_is ∙ (ap (λ r. older_rows job st ++ cond (is_out st.sessions st.newest) (r ∷ []) []) kept.latest_is ∙ (sym (rows_publish job st) ∙ ap (λ j. older_rows job (effect st (Publish j))) (sym now.0)))) in
      kept_more (Publish k) latest' rows' answers kept can (let count : latest'.count ≡ length job.sessions + 1 = ap (λ (v : SharesView). v.count) l in row_is latest' (step_of job k) ((length job.sessions + 1) - outs k st.sessions) (ap (λ (v : SharesView). v.step) l) (omega arith)) rows_are (sym (append-nil answers))

  -- the step that a session has out
  out_fits : (s k : ℕ) (a : Bool) → IsKept job h st latest rows answers er ar rr → CanHappen job (after job h) (Unpin s k a) → (s < length st.sessions) × ((session_of st s).out ≡ Some k) × (k ≤ st.newest) × (0 < outs k st.sessions) × ((session_of st s).done < length (turns_of job s))
  out_fits s k a kept can =
      let now = can_now (Unpin s k a) kept can in let sd = sound_now kept in let lt : s < length st.sessions = subst (λ n. s < n) (sym sd.even) now.0 in
      (lt, now.1, (sd.each s).out_below k now.1, out-counted st s k lt now.1, ((sd.each s).out_goes k now.1).0)

  rows_cut : (s k : ℕ) (a : Bool) → IsKept job h st latest rows answers er ar rr → CanHappen job (after job h) (Unpin s k a) → k < st.newest → rows ≡ rows_between job st.sessions 0 k ++ (row_of job st.sessions k ∷ rows_between job st.sessions (k + 1) (st.newest - k - 1))
  rows_cut s k a kept can below =
      let fits = out_fits s k a kept can in
      kept.older_is ∙ (rows_split job st.sessions st.newest k below ∙ ap (λ b. rows_between job st.sessions 0 k ++ (cond b (row_of job st.sessions k ∷ []) [] ++ rows_between job st.sessions (k + 1) (st.newest - k - 1))) (lt-ltb 0 (outs k st.sessions) fits.3))

  -- the row of the step is there, at its only place
  pub back_there : (s k : ℕ) (a : Bool) → IsKept job h st latest rows answers er ar rr → CanHappen job (after job h) (Unpin s k a) → k ≢ st.newest → (i : ℕ) × (i < length rows) × (number_at rows i ≡ k)
  back_there s k a kept can ne =
      let below : k < st.newest = (let le = (out_fits s k a kept can).2 in omega arith) in
      subst (λ r. (i : ℕ) × (i < length r) × (number_at r i ≡ k)) (sym (rows_cut s k a kept can below)) (seam_there (rows_between job st.sessions 0 k) (row_of job st.sessions k) (rows_between job st.sessions (k + 1) (st.newest - k - 1)) k refl)

  pub back_row : (s k i : ℕ) (a : Bool) → IsKept job h st latest rows answers er ar rr → CanHappen job (after job h) (Unpin s k a) → k ≢ st.newest → i < length rows → number_at rows i ≡ k → (i ≡ length (rows_between job st.sessions 0 k)) × (row_back rows i ≡ row_of job st.sessions k)
  back_row s k i a kept can ne lt here =
      let below : k < st.newest = (let le = (out_fits s k a kept can).2 in omega arith) in
      let cut = rows_cut s k a kept can below in let before = rows_between job st.sessions 0 k in let row = row_of job st.sessions k in let rest = rows_between job st.sessions (k + 1) (st.newest - k - 1) in
      let low : (j : ℕ) → j < length before → number_at before j ≢ k = λ j l same. (let r = numbers_within job st.sessions 0 k j l in absurd (omega arith)) in
      let high : (j : ℕ) → j < length rest → number_at rest j ≢ k = λ j l same. (let r = numbers_within job st.sessions (k + 1) (st.newest - k - 1) j l in absurd (omega arith)) in
      let at : i ≡ length before = place before row rest k i refl low high (subst (λ r. i < length r) cut lt) (subst (λ r. number_at r i ≡ k) cut here) in
      (at, ap (λ r. row_back r i) cut ∙ (ap (row_back (before ++ row ∷ rest)) at ∙ seam_row before row rest))

  -- the row that comes back
  back_rows : (b : Bool) (s k i : ℕ) (a : Bool) (rows' : List SharesView) (handed : Option SharesView) → is_out (effect st (Unpin s k a)).sessions k ≡ b → IsKept job h st latest rows answers er ar rr → CanHappen job (after job h) (Unpin s k a) → k ≢ st.newest → IsBackAt rows rows' (step_of job k) (length job.sessions + 1) handed i → (rows' ≡ rows_between job st.sessions 0 k ++ (cond b (row_of job (effect st (Unpin s k a)).sessions k ∷ []) [] ++ rows_between job st.sessions (k + 1) (st.newest - k - 1))) × (option_to_list handed ≡ map (all_shares job) (cond b [] (k ∷ [])))
  back_rows true s k i a rows' handed e kept can ne back =
      let fits = out_fits s k a kept can in let below : k < st.newest = (let le = fits.2 in omega arith) in let ws = (effect st (Unpin s k a)).sessions in
      let cut = rows_cut s k a kept can below in let before = rows_between job st.sessions 0 k in let rest = rows_between job st.sessions (k + 1) (st.newest - k - 1) in
      let at = back_row s k i a kept can ne back.within back.here in let moved = outs-unpinned st s k a fits.0 fits.1 k in let one = has_out-same k in
      let some : 0 < outs k ws = ltb-true 0 (outs k ws) e in let few = outs-le k st.sessions in let even = (sound_now kept).even in
      let count : (row_back rows i).count ≡ (length job.sessions + 1) - outs k st.sessions = ap (λ (r : SharesView). r.count) at.1 in
      let fact = back.partly (omega arith) in
      let row : SharesView = record { step = step_of job k; count = (row_back rows i).count + 1 } in
      let new : row ≡ row_of job ws k = row_is row (step_of job k) ((length job.sessions + 1) - outs k ws) refl (omega arith) in
      (fact.0 ∙ (ap (λ r. slice_set r i row) cut ∙ (ap (λ j. slice_set (before ++ (row_of job st.sessions k ∷ rest)) j row) at.0 ∙ (set-append_seam before (row_of job st.sessions k) rest row ∙ ap (λ r. before ++ (r ∷ rest)) new))), ap option_to_list fact.1)
  back_rows false s k i a rows' handed e kept can ne back =
      let fits = out_fits s k a kept can in let below : k < st.newest = (let le = fits.2 in omega arith) in let ws = (effect st (Unpin s k a)).sessions in
      let cut = rows_cut s k a kept can below in let before = rows_between job st.sessions 0 k in let rest = rows_between job st.sessions (k + 1) (st.newest - k - 1) in
      let at = back_row s k i a kept can ne back.within back.here in let moved = outs-unpinned st s k a fits.0 fits.1 k in let one = has_out-same k in
      let none : outs k ws ≤ 0 = ltb-false 0 (outs k ws) e in
      let count : (row_back rows i).count ≡ (length job.sessions + 1) - outs k st.sessions = ap (λ (r : SharesView). r.count) at.1 in
      let fact = back.full (omega arith) in
      (fact.0 ∙ (ap (λ r. remove r i) cut ∙ (ap (remove (before ++ (row_of job st.sessions k ∷ rest))) at.0 ∙ remove_seam before (row_of job st.sessions k) rest)), ap option_to_list fact.1)

  -- what unpin makes of the rows, in both cases
  pub record Comes (s k : ℕ) (a : Bool) (latest' : SharesView) (rows' : List SharesView) (handed : Option SharesView) : Type 0 where
    pub newest : k ≡ st.newest → (latest'.step ≡ latest.step) × (latest'.count ≡ latest.count + 1) × (rows' ≡ rows) × (handed ≡ None)
    pub elder : k ≢ st.newest → (latest' ≡ latest) × ((i : ℕ) × IsBackAt rows rows' (step_of job k) (length job.sessions + 1) handed i)

  comes : (b : Bool) (s k : ℕ) (a : Bool) (latest' : SharesView) (rows' : List SharesView) (handed : Option SharesView) → (k == st.newest) ≡ b → IsKept job h st latest rows answers er ar rr → CanHappen job (after job h) (Unpin s k a) → Comes s k a latest' rows' handed → (latest' ≡ row_of job (effect st (Unpin s k a)).sessions st.newest) × (rows' ≡ older_rows job (effect st (Unpin s k a))) × (option_to_list handed ≡ map (all_shares job) (cond (b || is_out (effect st (Unpin s k a)).sessions k) [] (k ∷ [])))
  comes true s k a latest' rows' handed e kept can c =
      let same : k ≡ st.newest = eqb-true k st.newest e in let fits = out_fits s k a kept can in let f = c.newest same in
      let moved = outs-unpinned st s k a fits.0 fits.1 st.newest in let one : has_out st.newest (Some k) ≡ 1 = subst (λ j. has_out j (Some k) ≡ 1) same (has_out-same k) in
      let before = latest_count kept in let some : 0 < outs st.newest st.sessions = subst (λ j. 0 < outs j st.sessions) same fits.3 in let few = outs-le st.newest st.sessions in let even = (sound_now kept).even in
      let count = f.1 in (
        row_is latest' (step_of job st.newest) ((length job.sessions + 1) - outs st.newest (effect st (Unpin s k a)).sessions) (f.0 ∙ latest_step kept) (omega arith),
        f.2 ∙ (kept.older_is ∙ sym (rows_unpin_newest job st s k a fits.0 fits.1 (omega arith))),
        ap option_to_list f.3,
      )
  comes false s k a latest' rows' handed e kept can c =
      let ne : k ≢ st.newest = eqb-false k st.newest e in let fits = out_fits s k a kept can in let below : k < st.newest = (let le = fits.2 in omega arith) in let f = c.elder ne in
      let moved = outs-unpinned st s k a fits.0 fits.1 st.newest in let zero_out : has_out st.newest (Some k) ≡ 0 = has_out-other st.newest k (λ x. ne (sym x)) in
      let outs_same : outs st.newest (effect st (Unpin s k a)).sessions ≡ outs st.newest st.sessions = omega arith in
      let back = back_rows (is_out (effect st (Unpin s k a)).sessions k) s k f.1.0 a rows' handed refl kept can ne f.1.1 in
      let before = latest_count kept in (
        f.0 ∙ row_is latest (step_of job st.newest) ((length job.sessions + 1) - outs st.newest (effect st (Unpin s k a)).sessions) (latest_step kept) (omega arith),
        back.0 ∙ sym (rows_unpin_older job st s k a fits.0 fits.1 below),
        back.1,
      )

  pub unpin_kept : (s k : ℕ) (a : Bool) (latest' : SharesView) (rows' : List SharesView) (handed : Option SharesView) (answers' : List Answer) → IsKept job h st latest rows answers er ar rr → CanHappen job (after job h) (Unpin s k a) → Comes s k a latest' rows' handed → answers' ≡ answers ++ answers_by job st (Unpin s k a) → IsKept job (h ++ Unpin s k a ∷ []) (effect st (Unpin s k a)) latest' rows' answers' er ar rr
  unpin_kept s k a latest' rows' handed answers' kept can c more =
      let what = comes (k == st.newest) s k a latest' rows' handed refl kept can c in kept_more (Unpin s k a) latest' rows' answers' kept can what.0 what.1 more

  pub unpin_freed : (s k : ℕ) (a : Bool) (latest' : SharesView) (rows' : List SharesView) (handed : Option SharesView) → IsKept job h st latest rows answers er ar rr → CanHappen job (after job h) (Unpin s k a) → Comes s k a latest' rows' handed → option_to_list handed ≡ map (all_shares job) (freed_by (after job h) (Unpin s k a))
  unpin_freed s k a latest' rows' handed kept can c =
      (comes (k == st.newest) s k a latest' rows' handed refl kept can c).2 ∙ ap (λ z. map (all_shares job) (freed_by z (Unpin s k a))) kept.state_is

  -- what give_back asks for
  pub back_latest : (s k : ℕ) (a : Bool) → IsKept job h st latest rows answers er ar rr → CanHappen job (after job h) (Unpin s k a) → k ≡ st.newest → (step_of job k ≡ latest.step) × (latest.count < length job.sessions + 1)
  back_latest s k a kept can same =
      let fits = out_fits s k a kept can in let count = latest_count kept in let some : 0 < outs st.newest st.sessions = subst (λ j. 0 < outs j st.sessions) same fits.3 in
      (ap (λ (j : ℕ). let v : StepView = step_of job j in v) same ∙ sym (latest_step kept), omega arith)

  pub back_each : (s k : ℕ) (a : Bool) → IsKept job h st latest rows answers er ar rr → CanHappen job (after job h) (Unpin s k a) → k ≢ st.newest → (i : ℕ) → i < length rows → number_at rows i ≡ k → ((row_back rows i).step ≡ step_of job k) × ((row_back rows i).count < length job.sessions + 1)
  back_each s k a kept can ne i lt here =
      let fits = out_fits s k a kept can in let row = (back_row s k i a kept can ne lt here).1 in let count : (row_back rows i).count ≡ (length job.sessions + 1) - outs k st.sessions = ap (λ (r : SharesView). r.count) row in
      let some = fits.3 in (ap (λ (r : SharesView). r.step) row, omega arith)

  -- the answers of a turn have room
  pub answers_room : (s k : ℕ) (a : Bool) → IsKept job h st latest rows answers er ar rr → CanHappen job (after job h) (Unpin s k a) → length answers + length (answers_by job st (Unpin s k a)) ≤ ar
  answers_room s k a kept can =
      let fits = answers_fit job (h ++ Unpin s k a ∷ []) (legal_more job h (Unpin s k a) kept.legal can) in
      let both = answers-append job (first job) h (Unpin s k a ∷ []) in let room = kept.answers_fit in
      let is : length answers ≡ length (answers_of job h) = ap length kept.answers_is in
      let by : length (answers_by job st (Unpin s k a)) ≡ length (answers_by job (after job h) (Unpin s k a)) = ap (λ z. length (answers_by job z (Unpin s k a))) kept.state_is in
      omega (arith, ap length both, length-append (answers_of job h) (answers_from job (after job h) (Unpin s k a ∷ [])), length-append (answers_by job (after job h) (Unpin s k a)) [])

  pub kept_wider : (wide : ℕ) → ar ≤ wide → IsKept job h st latest rows answers er ar rr → IsKept job h st latest rows answers er wide rr
  kept_wider wide le kept = record {
    legal = kept.legal;
    state_is = kept.state_is;
    latest_is = kept.latest_is;
    older_is = kept.older_is;
    answers_is = kept.answers_is;
    events_fit = kept.events_fit;
    answers_fit = (let room = kept.answers_fit in omega arith);
    rows_fit = kept.rows_fit;
    job_is = kept.job_is;
  }

  pub sessions_few : IsKept job h st latest rows answers er ar rr → (length st.sessions ≡ length job.sessions) × (length job.sessions ≤ 8)
  sessions_few kept = ((sound_now kept).even, kept.job_is.few_sessions)

  pub done_fits : (s k : ℕ) (a : Bool) → IsKept job h st latest rows answers er ar rr → CanHappen job (after job h) (Unpin s k a) → (s < length st.sessions) × ((session_of st s).done < 100000)
  done_fits s k a kept can =
      let fits = out_fits s k a kept can in let now = can_now (Unpin s k a) kept can in
      let all = get_or-le-sum_by length job.sessions s [] now.0 in let most = kept.job_is.few_turns in let left = fits.4 in (fits.0, omega arith)

  pub session_there : (s : ℕ) → IsKept job h st latest rows answers er ar rr → s < length job.sessions → s < length st.sessions
  session_there s kept lt = subst (λ n. s < n) (sym (sound_now kept).even) lt

  pub rows_fit_now : IsKept job h st latest rows answers er ar rr → length rows ≤ 8
  rows_fit_now kept = let few = rows_few job st in let even = (sound_now kept).even in let len : length rows ≡ length (older_rows job st) = ap length kept.older_is in let most = kept.job_is.few_sessions in omega arith

  pub rows_fewer : IsKept job h st latest rows answers er ar rr → length rows ≤ length job.sessions
  rows_fewer kept = let few = rows_few job st in let even = (sound_now kept).even in let len : length rows ≡ length (older_rows job st) = ap length kept.older_is in omega arith

  pub held_now : IsKept job h st latest rows answers er ar rr → numbers rows ++ st.newest ∷ [] ≡ held (after job h)
  held_now kept = ap (λ l. numbers l ++ st.newest ∷ []) kept.older_is ∙ (ap (λ l. l ++ st.newest ∷ []) (numbers-rows job st.sessions (older st)) ∙ ap held kept.state_is)

pub answers_match : (answers : Option (List Answer)) (want : List Answer) → IfSome answers (λ list. list ≡ want) → answers_in answers ≡ cond (is_some answers) want []
answers_match None want e = refl
answers_match (Some list) want e = e

pub get-any : (xs : List SessionState) (i : ℕ) (d e : SessionState) → i < length xs → slice_index_or xs i d ≡ slice_index_or xs i e
get-any [] i d e lt = absurd (omega arith)
get-any (x ∷ xs) zero d e lt = refl
get-any (x ∷ xs) (suc i) d e lt = get-any xs i d e (omega arith)
