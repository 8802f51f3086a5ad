-- What a whole history has.
use Rattle.std.proofs.Common.{◌≡◌, ℕ, ◌+◌, ◌<◌, ◌≤◌, Bool, true, false, cond, not, List, [], ◌∷◌, ◌++◌, length, map, refl, sym, ap, ◌∙◌, subst, arith}
use Rattle.std.specs.Prelude.{slice_set, slice_index_or, ◌==◌, ◌&&◌, ◌||◌, nat_lt, nat_le}
use Rattle.std.specs.List.{AllByRecursion}
use Rattle.std.proofs.lemmas.Bool.{true≢false, eqb-true, eqb-false}
use Rattle.std.proofs.lemmas.Bool.Decides.{nat_tests}
use Rattle.std.proofs.lemmas.List.{length-set, get_or-set_other, get_or-set_same}
use Rattle.run_script.specs.Jobs.{JobView, IsJob}
use Rattle.step_registry.specs.declared.event.Event.{Event}
use Rattle.step_registry.specs.declared.event.Event.TheVariants.{Publish, Pin, Unpin, Close}
use Rattle.step_registry.specs.declared.event.SessionState.{SessionState}
use Rattle.step_registry.specs.Core.{State, fresh, first, session_of, pinned, unpinned, with_session, effect, after_from, LegalFrom, after, IsLegal, is_out, freed, IsWhole}
use Rattle.step_registry.specs.CoreLaws.{IsSound, first-sound, step-sound, rises, legal_part, legal_rest, after-append, one_if}
use Rattle.step_registry.specs.SeatLaws.{none_stopped, times, freed_exact}
use Rattle.report.specs.Headline.{PinsNeverFall, FreesExactly}
use Rattle.report.proofs.Read.{Fits, as_read}

-- ---- pins

pub pins-never-fall : (job : JobView) (h : List Event) → IsLegal job h → PinsNeverFall job h
pins-never-fall job h l g rest s k e =
    let whole : LegalFrom job (first job) (g ++ Pin s k ∷ rest) = subst (IsLegal job) e l in
    let here = legal_rest job (first job) g (Pin s k ∷ rest) whole in let front = legal_part job (first job) g (Pin s k ∷ rest) whole in
    let newest = here.0.5 in let need = here.0.4 in
    (omega arith, λ f later j eg. earlier job g s k newest front f later j eg)
  where
    earlier : (job : JobView) (g : List Event) (s k : ℕ) → k ≡ (after job g).newest → IsLegal job g → (f later : List Event) (j : ℕ) → g ≡ f ++ Pin s j ∷ later → j ≤ k
    earlier job g s k is l f later j eg =
        let cut : LegalFrom job (first job) (f ++ Pin s j ∷ later) = subst (IsLegal job) eg l in
        let there = legal_rest job (first job) f (Pin s j ∷ later) cut in let then = there.0.5 in
        let up = rises job (after job f) (Pin s j ∷ later) there in
        let same : (after job g).newest ≡ (after_from (after job f) (Pin s j ∷ later)).newest = ap (λ i. (after job i).newest) eg ∙ ap (λ (z : State). z.newest) (after-append (first job) f (Pin s j ∷ later)) in
        omega arith

-- ---- freed steps

freed_one : (t k n : ℕ) (o : Bool) → t + one_if (k == n || o) ≡ one_if (nat_le k n) → t ≡ one_if (nat_lt k n && not o)
freed_one t k n true e = grind (arith, nat_tests)
freed_one t k n false e = grind (arith, nat_tests)

pub frees-exactly : (job : JobView) (h : List Event) → IsLegal job h → FreesExactly job h
frees-exactly job h l g rest e k =
    let front = legal_part job (first job) g rest (subst (IsLegal job) e l) in
    freed_one (times k (freed job g)) k (after job g).newest (is_out (after job g).sessions k) (freed_exact job g k front)

-- ---- each unpin is answered

pub at_set : (xs : List SessionState) (i s : ℕ) (me : SessionState) → s < length xs → i ≡ s → slice_index_or (slice_set xs i me) s fresh ≡ me
at_set xs i s me lt e = subst (λ j. slice_index_or (slice_set xs j me) s fresh ≡ me) (sym e) (get_or-set_same xs s me fresh lt)

pin-stops : (st : State) (i s k : ℕ) (b : Bool) → (i == s) ≡ b → s < length st.sessions → (session_of (with_session st i (pinned k (session_of st i))) s).is_stopped ≡ (session_of st s).is_stopped
pin-stops st i s k true e lt = let is : i ≡ s = eqb-true i s e in ap (λ (w : SessionState). w.is_stopped) (at_set st.sessions i s (pinned k (session_of st i)) lt is) ∙ ap (λ j. (session_of st j).is_stopped) is
pin-stops st i s k false e lt = ap (λ (w : SessionState). w.is_stopped) (get_or-set_other st.sessions i s (pinned k (session_of st i)) fresh (λ is. eqb-false i s e (sym is)))

kept-stopped : (a b : Bool) → b ≡ true → cond a b true ≡ true
kept-stopped true b e = e
kept-stopped false b e = refl

unpin-stops : (st : State) (i s k : ℕ) (a b : Bool) → (i == s) ≡ b → s < length st.sessions → (session_of st s).is_stopped ≡ true → (session_of (with_session st i (unpinned a (session_of st i))) s).is_stopped ≡ true
unpin-stops st i s k a true e lt on =
    let is : i ≡ s = eqb-true i s e in
    ap (λ (w : SessionState). w.is_stopped) (at_set st.sessions i s (unpinned a (session_of st i)) lt is) ∙ kept-stopped a (session_of st i).is_stopped (ap (λ j. (session_of st j).is_stopped) is ∙ on)
unpin-stops st i s k a false e lt on = ap (λ (w : SessionState). w.is_stopped) (get_or-set_other st.sessions i s (unpinned a (session_of st i)) fresh (λ is. eqb-false i s e (sym is))) ∙ on

stays-stopped : (st : State) (s : ℕ) (h : List Event) → s < length st.sessions → (session_of st s).is_stopped ≡ true → (session_of (after_from st h) s).is_stopped ≡ true
stays-stopped st s [] lt on = on
stays-stopped st s (Publish k ∷ es) lt on = stays-stopped (effect st (Publish k)) s es lt on
stays-stopped st s (Close ∷ es) lt on = stays-stopped (effect st Close) s es lt on
stays-stopped st s (Pin i k ∷ es) lt on =
    let n = length-set st.sessions i (pinned k (session_of st i)) in stays-stopped (effect st (Pin i k)) s es (omega arith) (pin-stops st i s k (i == s) refl lt ∙ on)
stays-stopped st s (Unpin i k a ∷ es) lt on =
    let n = length-set st.sessions i (unpinned a (session_of st i)) in stays-stopped (effect st (Unpin i k a)) s es (omega arith) (unpin-stops st i s k a (i == s) refl lt on)

-- the numbers of the events are small, and each unpin is answered
pub all-read : (job : JobView) (st : State) (h : List Event) → IsSound job st → LegalFrom job st h → ((s : ℕ) → s < length job.sessions → (session_of (after_from st h) s).is_stopped ≡ false) → map as_read h ≡ h
all-read job st [] sd l goes = refl
all-read job st (Publish k ∷ es) sd l goes = ap (λ r. Publish k ∷ r) (all-read job (effect st (Publish k)) es (step-sound job st (Publish k) sd l.0) l.1 goes)
all-read job st (Pin s k ∷ es) sd l goes = ap (λ r. Pin s k ∷ r) (all-read job (effect st (Pin s k)) es (step-sound job st (Pin s k) sd l.0) l.1 goes)
all-read job st (Close ∷ es) sd l goes = ap (λ r. Close ∷ r) (all-read job (effect st Close) es (step-sound job st Close sd l.0) l.1 goes)
all-read job st (Unpin s k true ∷ es) sd l goes = ap (λ r. Unpin s k true ∷ r) (all-read job (effect st (Unpin s k true)) es (step-sound job st (Unpin s k true) sd l.0) l.1 goes)
all-read job st (Unpin s k false ∷ es) sd l goes =
    let lt : s < length st.sessions = subst (λ n. s < n) (sym sd.even) l.0.0 in
    let n = length-set st.sessions s (unpinned false (session_of st s)) in
    let on : (session_of (effect st (Unpin s k false)) s).is_stopped ≡ true = ap (λ (w : SessionState). w.is_stopped) (at_set st.sessions s s (unpinned false (session_of st s)) lt refl) in
    absurd (true≢false (sym (stays-stopped (effect st (Unpin s k false)) s es (omega arith) on) ∙ goes s l.0.0))

pub whole-read : (job : JobView) (h : List Event) → IsWhole job h → map as_read h ≡ h
whole-read job h w = all-read job (first job) h (first-sound job) w.legal (λ s lt. none_stopped job h s w lt)

pub all-fit : (job : JobView) (st : State) (h : List Event) → IsJob job → IsSound job st → LegalFrom job st h → AllByRecursion Fits h
all-fit job st [] j sd l = tt
all-fit job st (Publish k ∷ es) j sd l = let a = l.0.1 in let b = j.few_steps in (omega arith, all-fit job (effect st (Publish k)) es j (step-sound job st (Publish k) sd l.0) l.1)
all-fit job st (Close ∷ es) j sd l = (tt, all-fit job (effect st Close) es j (step-sound job st Close sd l.0) l.1)
all-fit job st (Pin s k ∷ es) j sd l =
    let a = l.0.0 in let b = j.few_sessions in let c = l.0.5 in let d = sd.newest_fits in let e = j.few_steps in
    ((omega arith, omega arith), all-fit job (effect st (Pin s k)) es j (step-sound job st (Pin s k) sd l.0) l.1)
all-fit job st (Unpin s k answered ∷ es) j sd l =
    let a = l.0.0 in let b = j.few_sessions in let c = (sd.each s).out_below k l.0.1 in let d = sd.newest_fits in let e = j.few_steps in
    ((omega arith, omega arith), all-fit job (effect st (Unpin s k answered)) es j (step-sound job st (Unpin s k answered) sd l.0) l.1)
