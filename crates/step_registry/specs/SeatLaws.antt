-- What words and seats know of a history; what a whole history has; what was handed out.
use Rattle.std.specs.Prelude.{◌≡◌, ℕ, ◌+◌, ◌-◌, ◌/◌, ◌%◌, ◌==◌, ◌≤◌, ◌<◌, ◌≢◌, ◌||◌, ◌&&◌, nat_lt, nat_le, Bool, true, false, cond, List, [], ◌∷◌, ◌++◌, length, replicate, slice_index_or, slice_set, refl}
use Rattle.std.specs.List.{filter, range_with_len, sum_by, count_by}
use Rattle.std.proofs.Common.{arith, suc, zero, sym, ◌∙◌, ap, subst}
use Rattle.std.proofs.lemmas.List.{length-set, get_or-set_same, get_or-set_other}
use Rattle.std.proofs.lemmas.List.Sums.{sum_by-cons, sum_by-append}
use Rattle.std.proofs.lemmas.Bool.{true≢false, eqb-true, eqb-false, lt-ltb}
use Rattle.std.proofs.lemmas.Bool.Decides.{nat_tests}
use Rattle.run_script.specs.Jobs.{JobView}
use Rattle.step_registry.specs.declared.event.Event.{Event}
use Rattle.step_registry.specs.declared.event.Event.TheVariants.{Publish, Pin, Unpin, Close}
use Rattle.step_registry.specs.declared.event.SessionState.{SessionState}
use Rattle.step_registry.specs.Core.{State, fresh, first, session_of, with_session, pinned, unpinned, effect, CanHappen, after_from, LegalFrom, after, IsLegal, has_out, outs, is_out, freed_by, freed_from, freed, IsWhole, turn_at}
use Rattle.step_registry.specs.CoreLaws.{IsSound, sound, first-sound, step-sound, rises, legal_rest, after-append, one_if}
use Rattle.step_registry.specs.Rows.{has_out-other, outs_above, outs-unpinned, outs-pinned, out-counted}

-- the publishes are those of 1, 2, 3 and so on
abbrev pub publishes : List Event → List ℕ
publishes [] = []
publishes (Publish k ∷ es) = k ∷ publishes es
publishes (Pin s k ∷ es) = publishes es
publishes (Unpin s k a ∷ es) = publishes es
publishes (Close ∷ es) = publishes es

pub publishes_from : (job : JobView) (st : State) (h : List Event) → LegalFrom job st h
    → publishes h ≡ range_with_len (st.newest + 1) ((after_from st h).newest - st.newest)
publishes_from job st [] l = let z : st.newest - st.newest ≡ 0 = omega arith in ap (range_with_len (st.newest + 1)) (sym z)
publishes_from job st (Publish k ∷ es) l =
    let up : k ≡ st.newest + 1 = l.0.0 in let more = publishes_from job (effect st (Publish k)) es l.1 in let le = rises job (effect st (Publish k)) es l.1 in
    let n : (after_from (effect st (Publish k)) es).newest - st.newest ≡ suc ((after_from (effect st (Publish k)) es).newest - k) = omega arith in
    ap (λ x. k ∷ x) more ∙ (ap (λ j. j ∷ range_with_len (j + 1) ((after_from (effect st (Publish k)) es).newest - k)) up ∙ ap (range_with_len (st.newest + 1)) (sym n))
publishes_from job st (Pin s k ∷ es) l = publishes_from job (effect st (Pin s k)) es l.1
publishes_from job st (Unpin s k a ∷ es) l = publishes_from job (effect st (Unpin s k a)) es l.1
publishes_from job st (Close ∷ es) l = publishes_from job (effect st Close) es l.1

-- newest and closed alone
abbrev pub bare : State
bare = record { newest = 0; closed = false; sessions = [] }

pub same_front : (st sv : State) (h : List Event) → st.newest ≡ sv.newest → st.closed ≡ sv.closed
    → ((after_from st h).newest ≡ (after_from sv h).newest) × ((after_from st h).closed ≡ (after_from sv h).closed)
same_front st sv [] n c = (n, c)
same_front st sv (Publish k ∷ es) n c = same_front (effect st (Publish k)) (effect sv (Publish k)) es refl c
same_front st sv (Pin s k ∷ es) n c = same_front (effect st (Pin s k)) (effect sv (Pin s k)) es n c
same_front st sv (Unpin s k a ∷ es) n c = same_front (effect st (Unpin s k a)) (effect sv (Unpin s k a)) es n c
same_front st sv (Close ∷ es) n c = same_front (effect st Close) (effect sv Close) es n refl

-- the word 2 k + c says that k is published and, for c = 1, that the plan is closed with k the newest
abbrev pub Says : List Event → ℕ → Type 0
Says h word = (word / 2 ≤ (after_from bare h).newest)
    × (word % 2 ≡ 1 → ((after_from bare h).closed ≡ true) × ((after_from bare h).newest ≡ word / 2))

stays_closed : (job : JobView) (st : State) (h : List Event) → LegalFrom job st h → st.closed ≡ true
    → ((after_from st h).closed ≡ true) × ((after_from st h).newest ≡ st.newest)
stays_closed job st [] l c = (c, refl)
stays_closed job st (Publish k ∷ es) l c = absurd (true≢false (sym c ∙ l.0.2))
stays_closed job st (Pin s k ∷ es) l c = stays_closed job (effect st (Pin s k)) es l.1 c
stays_closed job st (Unpin s k a ∷ es) l c = stays_closed job (effect st (Unpin s k a)) es l.1 c
stays_closed job st (Close ∷ es) l c = absurd (true≢false (sym c ∙ l.0))

pub says_nothing : (job : JobView) (h : List Event) → IsLegal job h → Says h 0
says_nothing job h l = (omega arith, λ e. absurd (omega arith))

pub says_longer : (job : JobView) (h more : List Event) (word : ℕ) → IsLegal job (h ++ more) → Says h word
    → Says (h ++ more) word
says_longer job h more word l says =
    let front = same_front (first job) bare h refl refl in let whole = same_front (first job) bare (h ++ more) refl refl in
    let rest = legal_rest job (first job) h more l in let up = rises job (after job h) more rest in let cut = after-append (first job) h more in
    let n : (after job (h ++ more)).newest ≡ (after_from (after job h) more).newest = ap (λ (z : State). z.newest) cut in
    let c : (after job (h ++ more)).closed ≡ (after_from (after job h) more).closed = ap (λ (z : State). z.closed) cut in
    let n0 = front.0 in let n1 = whole.0 in let low = says.0 in (
      omega arith,
      λ odd. let given = says.1 odd in let stay = stays_closed job (after job h) more rest (front.1 ∙ given.0) in let k = given.1 in let m = stay.1 in
          (sym whole.1 ∙ (c ∙ stay.0), omega arith),
    )

-- who makes an event: the publisher is 0, session s is s + 1
abbrev pub maker_of : Event → ℕ
maker_of (Publish k) = 0
maker_of (Pin s k) = s + 1
maker_of (Unpin s k a) = s + 1
maker_of Close = 0

abbrev pub own : ℕ → List Event → List Event
own n h = filter (λ e. maker_of e == n) h

not_zero : (s : ℕ) → (s + 1 == 0) ≡ false
not_zero s = grind (arith, nat_tests)

zero_not : (s : ℕ) → (0 == s + 1) ≡ false
zero_not s = grind (arith, nat_tests)

-- newest and closed are those of the publisher's own events
pub front_own : (st : State) (h : List Event) → ((after_from st (own 0 h)).newest ≡ (after_from st h).newest)
    × ((after_from st (own 0 h)).closed ≡ (after_from st h).closed)
front_own st [] = (refl, refl)
front_own st (Publish k ∷ es) = front_own (effect st (Publish k)) es
front_own st (Close ∷ es) = front_own (effect st Close) es
front_own st (Pin s k ∷ es) =
    let off = not_zero s in let more = front_own st es in let same = same_front st (effect st (Pin s k)) es refl refl in
    (ap (λ b. (after_from st (cond b (Pin s k ∷ own 0 es) (own 0 es))).newest) off ∙ (more.0 ∙ same.0), ap (λ b. (after_from st (cond b (Pin s k ∷ own 0 es) (own 0 es))).closed) off ∙ (more.1 ∙ same.1))
front_own st (Unpin s k a ∷ es) =
    let off = not_zero s in let more = front_own st es in let same = same_front st (effect st (Unpin s k a)) es refl refl in
    (ap (λ b. (after_from st (cond b (Unpin s k a ∷ own 0 es) (own 0 es))).newest) off ∙ (more.0 ∙ same.0), ap (λ b. (after_from st (cond b (Unpin s k a ∷ own 0 es) (own 0 es))).closed) off ∙ (more.1 ∙ same.1))

-- out, done and stopped of a session are those of its own events
at_set : (xs : List SessionState) (i s : ℕ) (me : SessionState) → s < length xs → i ≡ s
    → slice_index_or (slice_set xs i me) s fresh ≡ me
at_set xs i s me lt e = subst (λ j. slice_index_or (slice_set xs j me) s fresh ≡ me) (sym e) (get_or-set_same xs s me fresh lt)

skip : (st sv : State) (i s : ℕ) (change : SessionState → SessionState) (e : Event) (es : List Event) (b : Bool)
    → (i + 1 == s + 1) ≡ b → s < length st.sessions → s < length sv.sessions → session_of st s ≡ session_of sv s
    → effect sv e ≡ with_session sv i (change (session_of sv i))
    → ((sw : State) → s < length sw.sessions → session_of (with_session st i (change (session_of st i))) s
    ≡ session_of sw s → session_of (after_from (with_session st i (change (session_of st i))) es) s
    ≡ session_of (after_from sw (own (s + 1) es)) s)
    → session_of (after_from (with_session st i (change (session_of st i))) es) s
    ≡ session_of (after_from sv (cond b (e ∷ own (s + 1) es) (own (s + 1) es))) s
skip st sv i s change e es true eq lt lv same act more =
    let is : i ≡ s = (let k = eqb-true (i + 1) (s + 1) eq in omega arith) in let sw = with_session sv i (change (session_of sv i)) in
    let long : s < length (slice_set sv.sessions i (change (session_of sv i))) = (let n = length-set sv.sessions i (change (session_of sv i)) in omega arith) in
    let here : session_of (with_session st i (change (session_of st i))) s ≡ session_of sw s =
    at_set st.sessions i s (change (session_of st i)) lt is ∙ (ap (λ j. change (session_of st j)) is ∙ (ap change same ∙ (ap (λ j. change (session_of sv j)) (sym is) ∙ sym (at_set sv.sessions i s (change (session_of sv i)) lv is)))) in
    more sw long here ∙ ap (λ z. session_of (after_from z (own (s + 1) es)) s) (sym act)
skip st sv i s change e es false eq lt lv same act more =
    let ne : s ≢ i = λ is. eqb-false (i + 1) (s + 1) eq (ap (λ n. n + 1) (sym is)) in
    more sv lv (get_or-set_other st.sessions i s (change (session_of st i)) fresh ne ∙ same)

pub session_own : (st sv : State) (s : ℕ) (h : List Event) → s < length st.sessions → s < length sv.sessions
    → session_of st s ≡ session_of sv s → session_of (after_from st h) s ≡ session_of (after_from sv (own (s + 1) h)) s
session_own st sv s [] lt lv same = same
session_own st sv s (Publish k ∷ es) lt lv same = session_own (effect st (Publish k)) sv s es lt lv same ∙ ap (λ b. session_of (after_from sv (cond b (Publish k ∷ own (s + 1) es) (own (s + 1) es))) s) (sym (zero_not s))
session_own st sv s (Close ∷ es) lt lv same = session_own (effect st Close) sv s es lt lv same ∙ ap (λ b. session_of (after_from sv (cond b (Close ∷ own (s + 1) es) (own (s + 1) es))) s) (sym (zero_not s))
session_own st sv s (Pin i k ∷ es) lt lv same =
    skip st sv i s (pinned k) (Pin i k) es (i + 1 == s + 1) refl lt lv same refl
    (λ sw lw e. session_own (effect st (Pin i k)) sw s es (let n = length-set st.sessions i (pinned k (session_of st i)) in omega arith) lw e)
session_own st sv s (Unpin i k a ∷ es) lt lv same =
    skip st sv i s (unpinned a) (Unpin i k a) es (i + 1 == s + 1) refl lt lv same refl
    (λ sw lw e. session_own (effect st (Unpin i k a)) sw s es (let n = length-set st.sessions i (unpinned a (session_of st i)) in omega arith) lw e)

-- in a whole history no session is stopped
pub none_stopped : (job : JobView) (h : List Event) (s : ℕ) → IsWhole job h → s < length job.sessions
    → (session_of (after job h) s).is_stopped ≡ false
none_stopped job h s whole lt = at (session_of (after job h) s).is_stopped refl
  where
    at : (b : Bool) → (session_of (after job h) s).is_stopped ≡ b → b ≡ false
    at true e = let low = ((sound job h whole.legal).each s).stopped_fits e in let all = (whole.done s lt).0 in absurd (omega arith)
    at false e = refl

-- what was handed out, each step once: those published that aren't held
abbrev pub live : State → ℕ → ℕ
live st k = one_if (k == st.newest || is_out st.sessions k)

abbrev pub born : State → ℕ → ℕ
born st k = one_if (nat_le k st.newest)

abbrev pub times : ℕ → List ℕ → ℕ
times k xs = count_by (λ x. x == k) xs

publish_counts : (k n : ℕ) (o m : Bool) → (n + 1 ≡ k → m ≡ false) → (k ≡ n → o ≡ m)
    → times k (cond o [] (n ∷ [])) + one_if (k == n + 1 || m) + one_if (nat_le k n)
    ≡ one_if (k == n || m) + one_if (nat_le k (n + 1))
publish_counts k n true true a b = grind (arith, nat_tests)
publish_counts k n true false a b = grind (arith, nat_tests)
publish_counts k n false true a b = grind (arith, nat_tests)
publish_counts k n false false a b = grind (arith, nat_tests)

live_same : (k n : ℕ) (b : Bool) (p q : ℕ) → (k == n) ≡ b → (k ≢ n → p ≡ q)
    → one_if (b || nat_lt 0 p) ≡ one_if (b || nat_lt 0 q)
live_same k n true p q e same = refl
live_same k n false p q e same = ap (λ x. one_if (nat_lt 0 x)) (same (eqb-false k n e))

here_counts : (k : ℕ) (c d : Bool) → d ≡ true → times k (cond c [] (k ∷ [])) + one_if c ≡ one_if d
here_counts k true d e = sym (ap one_if e)
here_counts k false d e = let one : one_if d ≡ 1 = ap one_if e in grind (arith, nat_tests)

none_counts : (k j : ℕ) (c : Bool) → j ≢ k → times k (cond c [] (j ∷ [])) ≡ 0
none_counts k j true ne = refl
none_counts k j false ne = grind (arith, nat_tests)

or_true : (b c : Bool) → c ≡ true → (b || c) ≡ true
or_true true c e = refl
or_true false c e = e

unpin_counts : (k j n p q r : ℕ) (b : Bool) → (j == k) ≡ b → (k ≢ j → p ≡ q) → (k ≡ j → (0 < q) × (r ≡ p))
    → times k (cond (j == n || nat_lt 0 r) [] (j ∷ [])) + one_if (k == n || nat_lt 0 p) ≡ one_if (k == n || nat_lt 0 q)
unpin_counts k j n p q r true e same here =
    let is : j ≡ k = eqb-true j k e in let f = here (sym is) in
    subst (λ i. times k (cond (i == n || nat_lt 0 r) [] (i ∷ [])) + one_if (k == n || nat_lt 0 p) ≡ one_if (k == n || nat_lt 0 q)) (sym is)
    (subst (λ i. times k (cond (k == n || nat_lt 0 i) [] (k ∷ [])) + one_if (k == n || nat_lt 0 p) ≡ one_if (k == n || nat_lt 0 q)) (sym f.1)
    (here_counts k (k == n || nat_lt 0 p) (k == n || nat_lt 0 q) (or_true (k == n) (nat_lt 0 q) (lt-ltb 0 q f.0))))
unpin_counts k j n p q r false e same here =
    let ne : j ≢ k = eqb-false j k e in let zero_times = none_counts k j (j == n || nat_lt 0 r) ne in
    let rest : one_if (k == n || nat_lt 0 p) ≡ one_if (k == n || nat_lt 0 q) = ap (λ x. one_if (k == n || nat_lt 0 x)) (same (λ is. ne (sym is))) in omega arith

step-freed : (job : JobView) (st : State) (e : Event) (k : ℕ) → IsSound job st → CanHappen job st e
    → times k (freed_by st e) + live (effect st e) k + born st k ≡ live st k + born (effect st e) k
step-freed job st (Publish j) k sd can =
    subst (λ i. times k (cond (is_out st.sessions st.newest) [] (st.newest ∷ [])) + one_if (k == i || is_out st.sessions k) + born st k ≡ live st k + one_if (nat_le k i)) (sym can.0)
    (publish_counts k st.newest (is_out st.sessions st.newest) (is_out st.sessions k) (λ e. ap (λ x. nat_lt 0 x) (outs_above job st k sd (omega arith))) (λ e. ap (is_out st.sessions) (sym e)))
step-freed job st (Pin s j) k sd can =
    let lt : s < length st.sessions = subst (λ n. s < n) (sym sd.even) can.0 in
    let same = live_same k st.newest (k == st.newest) (outs k (effect st (Pin s j)).sessions) (outs k st.sessions) refl (λ ne. let moved = outs-pinned st s j lt can.1 k in let z = has_out-other k j (λ e. ne (e ∙ can.5)) in omega arith) in omega arith
step-freed job st (Unpin s j a) k sd can =
    let lt : s < length st.sessions = subst (λ n. s < n) (sym sd.even) can.0 in let ws = (effect st (Unpin s j a)).sessions in
    let counts = unpin_counts k j st.newest (outs k ws) (outs k st.sessions) (outs j ws) (j == k) refl
    (λ ne. let moved = outs-unpinned st s j a lt can.1 k in let z = has_out-other k j ne in omega arith)
    (λ is. (subst (λ i. 0 < outs i st.sessions) (sym is) (out-counted st s j lt can.1), ap (λ i. outs i ws) (sym is))) in omega arith
step-freed job st Close k sd can = omega arith

freed_counts : (job : JobView) (st : State) (h : List Event) (k : ℕ) → IsSound job st → LegalFrom job st h
    → times k (freed_from st h) + live (after_from st h) k + born st k ≡ live st k + born (after_from st h) k
freed_counts job st [] k sd l = omega arith
freed_counts job st (e ∷ es) k sd l =
    let step = step-freed job st e k sd l.0 in let more = freed_counts job (effect st e) es k (step-sound job st e sd l.0) l.1 in
    omega (arith, sum_by-append (λ x. cond (x == k) 1 0) (freed_by st e) (freed_from (effect st e) es))

-- no step is handed out twice, none that is held, and each that was published is held or was handed out
pub freed_exact : (job : JobView) (h : List Event) (k : ℕ) → IsLegal job h
    → times k (freed job h) + live (after job h) k ≡ born (after job h) k
freed_exact job h k l = let all = freed_counts job (first job) h k (first-sound job) l in let start = start_counts k (outs k (first job).sessions) (outs_first job k) in omega arith
  where
    start_counts : (k p : ℕ) → p ≡ 0 → one_if (k == 0 || nat_lt 0 p) ≡ one_if (nat_le k 0)
    start_counts k p e = grind (arith, nat_tests)

    outs_first : (job : JobView) (k : ℕ) → outs k (first job).sessions ≡ 0
    outs_first job k = none (length job.sessions)
      where
        none : (n : ℕ) → outs k (replicate n fresh) ≡ 0
        none zero = refl
        none (suc n) = omega (arith, none n, sum_by-cons (λ me. has_out k me.out) fresh (replicate n fresh))

-- the steps that a session pins never fall, and each is at least its need
abbrev pub PinsRise : JobView → State → ℕ → ℕ → List Event → Type 0
PinsRise job st s low [] = Unit {0}
PinsRise job st s low (Pin i k ∷ es) = (i ≡ s → (low ≤ k) × ((turn_at job s (session_of st s).done).need ≤ k))
    × PinsRise job (effect st (Pin i k)) s (cond (i == s) k low) es
PinsRise job st s low (Publish k ∷ es) = PinsRise job (effect st (Publish k)) s low es
PinsRise job st s low (Unpin i k a ∷ es) = PinsRise job (effect st (Unpin i k a)) s low es
PinsRise job st s low (Close ∷ es) = PinsRise job (effect st Close) s low es

either-le : (b : Bool) (k low n : ℕ) → k ≤ n → low ≤ n → cond b k low ≤ n
either-le true k low n p q = p
either-le false k low n p q = q

pub pins_rise : (job : JobView) (st : State) (s low : ℕ) (h : List Event) → low ≤ st.newest → LegalFrom job st h
    → PinsRise job st s low h
pins_rise job st s low [] le l = tt
pins_rise job st s low (Pin i k ∷ es) le l =
    let new = l.0.5 in let need = l.0.4 in
    (λ is. (omega arith, subst (λ j. (turn_at job j (session_of st j).done).need ≤ k) is (omega arith)), pins_rise job (effect st (Pin i k)) s (cond (i == s) k low) es (either-le (i == s) k low st.newest (omega arith) le) l.1)
pins_rise job st s low (Publish k ∷ es) le l = let up = l.0.0 in pins_rise job (effect st (Publish k)) s low es (omega arith) l.1
pins_rise job st s low (Unpin i k a ∷ es) le l = pins_rise job (effect st (Unpin i k a)) s low es le l.1
pins_rise job st s low (Close ∷ es) le l = pins_rise job (effect st Close) s low es le l.1

-- how many answered unpins a session has
abbrev pub answered_by : ℕ → Event → ℕ
answered_by s (Publish k) = 0
answered_by s (Pin i k) = 0
answered_by s (Unpin i k a) = cond (i == s && a) 1 0
answered_by s Close = 0

pub unpin_done : (st : State) (i s k : ℕ) (a b : Bool) → (i == s) ≡ b → s < length st.sessions
    → (session_of (with_session st i (unpinned a (session_of st i))) s).done
    ≡ (session_of st s).done + cond (b && a) 1 0
unpin_done st i s k true true e lt = let is : i ≡ s = eqb-true i s e in let z = ap (λ (w : SessionState). w.done) (at_set st.sessions i s (unpinned true (session_of st i)) lt is) in let y : (session_of st i).done ≡ (session_of st s).done = ap (λ j. (session_of st j).done) is in omega arith
unpin_done st i s k false true e lt = let is : i ≡ s = eqb-true i s e in let z = ap (λ (w : SessionState). w.done) (at_set st.sessions i s (unpinned false (session_of st i)) lt is) in let y : (session_of st i).done ≡ (session_of st s).done = ap (λ j. (session_of st j).done) is in omega arith
unpin_done st i s k a false e lt = let z = ap (λ (w : SessionState). w.done) (get_or-set_other st.sessions i s (unpinned a (session_of st i)) fresh (λ is. eqb-false i s e (sym is))) in omega arith

pub pin_done : (st : State) (i s k : ℕ) (b : Bool) → (i == s) ≡ b → s < length st.sessions
    → (session_of (with_session st i (pinned k (session_of st i))) s).done ≡ (session_of st s).done
pin_done st i s k true e lt = let is : i ≡ s = eqb-true i s e in ap (λ (w : SessionState). w.done) (at_set st.sessions i s (pinned k (session_of st i)) lt is) ∙ ap (λ j. (session_of st j).done) is
pin_done st i s k false e lt = ap (λ (w : SessionState). w.done) (get_or-set_other st.sessions i s (pinned k (session_of st i)) fresh (λ is. eqb-false i s e (sym is)))

pub done_counts : (st : State) (s : ℕ) (h : List Event) → s < length st.sessions
    → (session_of (after_from st h) s).done ≡ (session_of st s).done + sum_by (answered_by s) h
done_counts st s [] lt = omega arith
done_counts st s (Publish k ∷ es) lt = omega (arith, done_counts (effect st (Publish k)) s es lt, sum_by-cons (answered_by s) (Publish k) es)
done_counts st s (Close ∷ es) lt = omega (arith, done_counts (effect st Close) s es lt, sum_by-cons (answered_by s) Close es)
done_counts st s (Pin i k ∷ es) lt =
    let n = length-set st.sessions i (pinned k (session_of st i)) in let more = done_counts (effect st (Pin i k)) s es (omega arith) in let step = pin_done st i s k (i == s) refl lt in
    omega (arith, more, step, sum_by-cons (answered_by s) (Pin i k) es)
done_counts st s (Unpin i k a ∷ es) lt =
    let n = length-set st.sessions i (unpinned a (session_of st i)) in let more = done_counts (effect st (Unpin i k a)) s es (omega arith) in let step = unpin_done st i s k a (i == s) refl lt in
    omega (arith, more, step, sum_by-cons (answered_by s) (Unpin i k a) es)
