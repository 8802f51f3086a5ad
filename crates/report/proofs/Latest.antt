-- A session whose turns all need the last step meets no other.
use Rattle.std.proofs.Common.{◌≡◌, ℕ, ◌<◌, Bool, true, false, cond, List, [], ◌∷◌, length, replicate, Option, Some, None, refl, sym, ap, ◌∙◌, subst, arith}
use Rattle.std.specs.Prelude.{◌==◌, ◌&&◌}
use Rattle.std.specs.List.{AllByRecursion}
use Rattle.std.proofs.lemmas.Bool.{eqb-true, eqb-false}
use Rattle.std.proofs.lemmas.List.{get_or-set_other}
use Rattle.run_script.specs.Jobs.{JobView, steps, turns_of}
use Rattle.step_registry.specs.declared.event.Event.{Event}
use Rattle.step_registry.specs.declared.event.Event.TheVariants.{Publish, Pin, Unpin, Close}
use Rattle.step_registry.specs.declared.event.SessionState.{SessionState}
use Rattle.step_registry.specs.Core.{State, no_turn, turn_at, fresh, first, session_of, pinned, unpinned, with_session, effect, LegalFrom, CanHappen, IsWhole}
use Rattle.step_registry.specs.CoreLaws.{IsSound, first-sound, step-sound, get-replicate}
use Rattle.step_registry.specs.Lines.{turns_at, steps_of}
use Rattle.report.specs.Report.{listed}
use Rattle.report.specs.Last.{NeedsLast, answered_last}
use Rattle.report.proofs.Whole.{at_set}
use Rattle.report.proofs.Lists.{steps-count}

-- what the session has out is the last step
abbrev HasLast : JobView → State → ℕ → Type 0
HasLast job st s = (j : ℕ) → (session_of st s).out ≡ Some j → j ≡ steps job

some-same : (o : Option ℕ) (k j : ℕ) → o ≡ Some k → o ≡ Some j → j ≡ k
some-same o k j e f = cc

none-some : (o : Option ℕ) (j n : ℕ) → o ≡ None → o ≡ Some j → j ≡ n
none-some o j n e f = cc

out-set : (st : State) (i s : ℕ) (me : SessionState) (b : Bool) → (i == s) ≡ b → s < length st.sessions → (session_of (with_session st i me) s).out ≡ cond b me.out (session_of st s).out
out-set st i s me true e lt = ap (λ (w : SessionState). w.out) (at_set st.sessions i s me lt (eqb-true i s e))
out-set st i s me false e lt = ap (λ (w : SessionState). w.out) (get_or-set_other st.sessions i s me fresh (λ is. eqb-false i s e (sym is)))

pin-last : (job : JobView) (st : State) (i k s : ℕ) (b : Bool) → (i == s) ≡ b → s < length st.sessions → NeedsLast job s → HasLast job st s → IsSound job st → CanHappen job st (Pin i k) → HasLast job (effect st (Pin i k)) s
pin-last job st i k s true e lt all met sd can j out =
    let is : i ≡ s = eqb-true i s e in
    let need : (turn_at job i (session_of st i).done).need ≡ steps job = subst (λ n. (turn_at job n (session_of st n).done).need ≡ steps job) (sym is) (all (session_of st s).done no_turn (subst (λ n. (session_of st n).done < length (turns_of job n)) is can.3)) in
    let same = some-same (session_of (effect st (Pin i k)) s).out k j (out-set st i s (pinned k (session_of st i)) true e lt) out in
    let le = can.4 in let now = can.5 in let top = sd.newest_fits in omega arith
pin-last job st i k s false e lt all met sd can j out = met j (sym (out-set st i s (pinned k (session_of st i)) false e lt) ∙ out)

unpin-last : (job : JobView) (st : State) (i k s : ℕ) (a b : Bool) → (i == s) ≡ b → s < length st.sessions → HasLast job st s → HasLast job (effect st (Unpin i k a)) s
unpin-last job st i k s a true e lt met j out = none-some (session_of (effect st (Unpin i k a)) s).out j (steps job) (out-set st i s (unpinned a (session_of st i)) true e lt) out
unpin-last job st i k s a false e lt met j out = met j (sym (out-set st i s (unpinned a (session_of st i)) false e lt) ∙ out)

steps-unpin : (P : ℕ → Type 0) (b a : Bool) (k : ℕ) (ks : List ℕ) → (b ≡ true → P k) → AllByRecursion P ks → AllByRecursion P (cond (b && a) (k ∷ ks) ks)
steps-unpin P true true k ks p all = (p refl, all)
steps-unpin P true false k ks p all = all
steps-unpin P false a k ks p all = all

last-steps : (job : JobView) (st : State) (s : ℕ) (h : List Event) → s < length job.sessions → IsSound job st → NeedsLast job s → HasLast job st s → LegalFrom job st h → AllByRecursion (λ k. k ≡ steps job) (steps_of s h)
last-steps job st s [] lt sd all met l = tt
last-steps job st s (Publish k ∷ es) lt sd all met l = last-steps job (effect st (Publish k)) s es lt (step-sound job st (Publish k) sd l.0) all met l.1
last-steps job st s (Close ∷ es) lt sd all met l = last-steps job (effect st Close) s es lt (step-sound job st Close sd l.0) all met l.1
last-steps job st s (Pin i k ∷ es) lt sd all met l =
    last-steps job (effect st (Pin i k)) s es lt (step-sound job st (Pin i k) sd l.0) all (pin-last job st i k s (i == s) refl (subst (λ n. s < n) (sym sd.even) lt) all met sd l.0) l.1
last-steps job st s (Unpin i k a ∷ es) lt sd all met l =
    steps-unpin (λ j. j ≡ steps job) (i == s) a k (steps_of s es) (λ e. met k (ap (λ n. (session_of st n).out) (sym (eqb-true i s e)) ∙ l.0.1))
    (last-steps job (effect st (Unpin i k a)) s es lt (step-sound job st (Unpin i k a) sd l.0) all (unpin-last job st i k s a (i == s) refl (subst (λ n. s < n) (sym sd.even) lt) met) l.1)

all-same : (n : ℕ) (xs : List ℕ) → AllByRecursion (λ k. k ≡ n) xs → xs ≡ replicate (length xs) n
all-same n [] all = refl
all-same n (x ∷ xs) all = ap (λ y. y ∷ xs) all.0 ∙ ap (λ l. n ∷ l) (all-same n xs all.1)

first-last : (job : JobView) (s : ℕ) → HasLast job (first job) s
first-last job s j out = none-some (session_of (first job) s).out j (steps job) (ap (λ (w : SessionState). w.out) (get-replicate (length job.sessions) s fresh)) out

pub listed-last : (job : JobView) (h : List Event) (s : ℕ) → IsWhole job h → s < length job.sessions → NeedsLast job s → listed job h s ≡ answered_last job s
listed-last job h s w lt all =
    let lasts = last-steps job (first job) s h lt (first-sound job) all (first-last job s) w.legal in
    ap (turns_at job s 0) (all-same (steps job) (steps_of s h) lasts ∙ ap (λ n. replicate n (steps job)) (steps-count job h s w lt))
