-- What one event does, over plain variables.
use Rattle.std.specs.Prelude.{◌≡◌, ℕ, ◌+◌, ◌-◌, ◌*◌, ◌/◌, ◌%◌, ◌≤◌, ◌<◌, Bool, true, false, List, [], ◌∷◌, ◌++◌, All, length, take, slice_index_or, slice_set, Option, Some, None, refl}
use Rattle.std.proofs.Common.{arith, sym, ◌∙◌, ap, subst, length-append}
use Rattle.std.proofs.lemmas.List.{get_or-set_same}
use Rattle.std.proofs.Math.Seq.{take-append_seam}
use Rattle.turn_table.specs.Views.{Begins}
use Rattle.run_script.specs.Jobs.{JobView, turns_of, steps}
use Rattle.step_registry.specs.Core.{turn_at}
use Rattle.step_registry.specs.declared.event.Event.{Event}
use Rattle.step_registry.specs.declared.event.Event.TheVariants.{Publish, Pin, Unpin, Close}
use Rattle.step_registry.specs.declared.event.SessionState.{SessionState}
use Rattle.step_registry.specs.Core.{State, fresh, first, session_of, pinned, unpinned, effect, CanHappen, after, after_from, IsLegal}
use Rattle.step_registry.specs.CoreLaws.{IsSound, sound, first-sound, rises, legal_rest, after-append}
use Rattle.step_registry.specs.SeatLaws.{own, Says, bare, same_front, front_own, session_own}
use Rattle.step_table.specs.Seats.{earlier, Follows, Adds, IsKnown}

pub earlier_is : (h : List Event) (e : Event) → earlier (h ++ e ∷ []) ≡ h
earlier_is h e = let n : length (h ++ e ∷ []) - 1 ≡ length h = omega (arith, length-append h (e ∷ [])) in ap (λ i. take i (h ++ e ∷ [])) n ∙ take-append_seam h (e ∷ [])

-- the state after one event more
pub after_more : (job : JobView) (h : List Event) (e : Event) → after job (h ++ e ∷ []) ≡ effect (after job h) e
after_more job h e = after-append (first job) h (e ∷ [])

-- newest and closed are known to the publisher
pub front_same : (job : JobView) (h seen : List Event) → own 0 h ≡ own 0 seen → ((after job h).newest ≡ (after job seen).newest) × ((after job h).closed ≡ (after job seen).closed)
front_same job h seen e = let a = front_own (first job) h in let b = front_own (first job) seen in
    (sym a.0 ∙ (ap (λ l. (after job l).newest) e ∙ b.0), sym a.1 ∙ (ap (λ l. (after job l).closed) e ∙ b.1))

-- its own state is known to a session
pub state_same : (job : JobView) (h seen : List Event) (s : ℕ) → s < length job.sessions → own (s + 1) h ≡ own (s + 1) seen → session_of (after job h) s ≡ session_of (after job seen) s
state_same job h seen s lt e =
    let l : s < length (first job).sessions = (let even = (first-sound job).even in omega arith) in
    session_own (first job) (first job) s h l l refl ∙ (ap (λ x. session_of (after job x) s) e ∙ sym (session_own (first job) (first job) s seen l l refl))

module _ (job : JobView) (number : ℕ) (seen : List Event) (words : List ℕ) (h : List Event) where
  -- what a turn adds
  pub adds : (e : Event) (now : List Event) → Follows number seen words h → IsLegal job now → now ≡ h ++ e ∷ [] → Adds job number seen words e now
  adds e now follows legal is =
      let was : earlier now ≡ h = ap earlier is ∙ earlier_is h e in
      record { last = is ∙ ap (λ l. l ++ e ∷ []) (sym was); legal = legal; follows = subst (Follows number seen words) (sym was) follows }

  pub can_publish : (k : ℕ) → own 0 h ≡ own 0 seen → (after job seen).closed ≡ false → k ≡ (after job seen).newest + 1 → k ≤ steps job → CanHappen job (after job h) (Publish k)
  can_publish k e going next le = let f = front_same job h seen e in (next ∙ ap (λ n. n + 1) (sym f.0), le, f.1 ∙ going)

  pub can_close : own 0 h ≡ own 0 seen → (after job seen).closed ≡ false → CanHappen job (after job h) Close
  can_close e going = (front_same job h seen e).1 ∙ going

  pub can_pin : (s known : ℕ) → s < length job.sessions → own (s + 1) h ≡ own (s + 1) seen → known ≤ (after job h).newest
      → (session_of (after job seen) s).out ≡ None → (session_of (after job seen) s).is_stopped ≡ false → (session_of (after job seen) s).done < length (turns_of job s)
      → (turn_at job s (session_of (after job seen) s).done).need ≤ known → CanHappen job (after job h) (Pin s (after job h).newest)
  can_pin s known lt e low out goes left need =
      subst (λ (me : SessionState). (s < length job.sessions) × (me.out ≡ None) × (me.is_stopped ≡ false) × (me.done < length (turns_of job s)) × ((turn_at job s me.done).need ≤ (after job h).newest) × ((after job h).newest ≡ (after job h).newest))
      (sym (state_same job h seen s lt e)) (lt, out, goes, left, omega arith, refl)

  pub can_unpin : (s k : ℕ) (answered : Bool) → s < length job.sessions → own (s + 1) h ≡ own (s + 1) seen → (session_of (after job seen) s).out ≡ Some k → CanHappen job (after job h) (Unpin s k answered)
  can_unpin s k answered lt e out = (lt, ap (λ (me : SessionState). me.out) (state_same job h seen s lt e) ∙ out)

-- a session's state after an event of its own
pub pinned_state : (job : JobView) (h : List Event) (s k : ℕ) → IsLegal job h → s < length job.sessions → session_of (after job (h ++ Pin s k ∷ [])) s ≡ pinned k (session_of (after job h) s)
pinned_state job h s k legal lt =
    let l : s < length (after job h).sessions = (let even = (sound job h legal).even in omega arith) in
    ap (λ st. session_of st s) (after_more job h (Pin s k)) ∙ get_or-set_same (after job h).sessions s (pinned k (session_of (after job h) s)) fresh l

pub unpinned_state : (job : JobView) (h : List Event) (s k : ℕ) (a : Bool) → IsLegal job h → s < length job.sessions → session_of (after job (h ++ Unpin s k a ∷ [])) s ≡ unpinned a (session_of (after job h) s)
unpinned_state job h s k a legal lt =
    let l : s < length (after job h).sessions = (let even = (sound job h legal).even in omega arith) in
    ap (λ st. session_of st s) (after_more job h (Unpin s k a)) ∙ get_or-set_same (after job h).sessions s (unpinned a (session_of (after job h) s)) fresh l

-- a step that was published is known for good
pub known_on : (job : JobView) (number : ℕ) (now : List Event) (words : List ℕ) (k : ℕ) → k ≤ (after job now).newest → IsKnown job number now words k
known_on job number now words k le h legal follows =
    let rest = follows.begins in let all = legal_rest job (first job) now rest.0 (subst (IsLegal job) (sym rest.1) legal) in
    let up = rises job (after job now) rest.0 all in
    let cut : (after job h).newest ≡ (after_from (after job now) rest.0).newest = ap (λ l. (after job l).newest) (sym rest.1) ∙ ap (λ (z : State). z.newest) (after-append (first job) now rest.0) in omega arith

-- the words of the publisher
pub says_open : (job : JobView) (h : List Event) (k : ℕ) → (after job h).newest ≡ k → Says h (2 * k)
says_open job h k e = let same = (same_front (first job) bare h refl refl).0 in (omega arith, λ odd. absurd (omega arith))

pub says_closed : (job : JobView) (h : List Event) (k : ℕ) → (after job h).newest ≡ k → (after job h).closed ≡ true → Says h (2 * k + 1)
says_closed job h k e c = let same = same_front (first job) bare h refl refl in let n = same.0 in (omega arith, λ odd. (sym same.1 ∙ c, sym same.0 ∙ (e ∙ omega arith)))

-- what a word says of newest and of the end
pub word_known : (job : JobView) (h : List Event) (w : ℕ) → Says h w → w / 2 ≤ (after job h).newest
word_known job h w says = let same = (same_front (first job) bare h refl refl).0 in let low = says.0 in omega arith

pub says_ended : (job : JobView) (h : List Event) (n : ℕ) → Says h (2 * n + 1) → ((after job h).newest ≡ n) × ((after job h).closed ≡ true)
says_ended job h n says = let same = same_front (first job) bare h refl refl in let odd : (2 * n + 1) % 2 ≡ 1 = omega arith in let half : (2 * n + 1) / 2 ≡ n = omega arith in
    let told = says.1 odd in (same.0 ∙ (told.1 ∙ half), same.1 ∙ told.0)
