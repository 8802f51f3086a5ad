-- The watches of a history stand in their order.
use Rattle.std.proofs.Common.{◌≡◌, ℕ, zero, suc, ◌+◌, ◌-◌, ◌<◌, ◌≤◌, inl, inr, ◌⊎◌, Option, Some, None, List, [], ◌++◌, length, refl, sym, ap, ◌∙◌, subst, arith}
use Rattle.std.specs.Prelude.{flat_map, All}
use Rattle.std.specs.List.{range_with_len}
use Rattle.std.specs.List.Sorted.{IsStrictlyIncreasing}
use Rattle.std.proofs.lemmas.Bool.{cases_lt}
use Rattle.std.proofs.lemmas.List.{get_or_append_left, get_or-append_right, length-append}
use Rattle.std.proofs.lemmas.List.FromFn.{get_or-map-range_with_len, length-map-range_with_len}
use Rattle.mesh_base.specs.Place.{Area}
use Rattle.mesh_base.specs.declared.answer.Answer.{Answer}
use Rattle.run_script.specs.Jobs.{JobView}
use Rattle.step_registry.specs.declared.event.Event.{Event}
use Rattle.step_registry.specs.Core.{IsWhole}
use Rattle.report.specs.Report.{listed}
use Rattle.box_watch.specs.declared.watch.Watch.{Watch}
use Rattle.box_watch.specs.Priors.{prior_of}
use Rattle.box_watch.specs.Watches.{boxes_of, vertices_before, watch_of, watches_by, session_watches, watches_of}
use Rattle.box_watch.specs.Replay.{no_watch, watch_at, IsWatched, IsWatchList, answered}
use Rattle.box_watch.proofs.Members.{without-increasing}
use Rattle.box_watch.proofs.Lasts.{last-below}
use Rattle.box_watch.proofs.Follows.{all-flat, all-mapped, own-ascending}

-- each box that is named as the one before is that of an earlier watch
abbrev Earlier : List Watch → Type 0
Earlier all = (i q : ℕ) → i < length all → (watch_at all i).prior ≡ Some q → IsWatched all i (watch_at all i).session q

watched-front : (xs ys : List Watch) (i s q : ℕ) → i ≤ length xs → IsWatched xs i s q → IsWatched (xs ++ ys) i s q
watched-front xs ys i s q le (j, lt, es, eq) =
    let same : watch_at (xs ++ ys) j ≡ watch_at xs j = get_or_append_left xs ys no_watch j (omega arith) in
    (j, lt, ap (λ (w : Watch). w.session) same ∙ es, ap (λ (w : Watch). w.query) same ∙ eq)

watched-back : (xs ys : List Watch) (i s q : ℕ) → length xs ≤ i → IsWatched ys (i - length xs) s q → IsWatched (xs ++ ys) i s q
watched-back xs ys i s q le (j, lt, es, eq) =
    let k = length xs + j in let back : k - length xs ≡ j = omega arith in
    let same : watch_at (xs ++ ys) k ≡ watch_at ys j = get_or-append_right xs ys (length xs) k no_watch refl (omega arith) ∙ ap (watch_at ys) back in
    (k, omega arith, ap (λ (w : Watch). w.session) same ∙ es, ap (λ (w : Watch). w.query) same ∙ eq)

earlier-append : (xs ys : List Watch) → Earlier xs → Earlier ys → Earlier (xs ++ ys)
earlier-append xs ys ex ey i q lt e = by (cases_lt i (length xs))
  where
    front : i < length xs → IsWatched (xs ++ ys) i (watch_at (xs ++ ys) i).session q
    front l =
        let same : watch_at (xs ++ ys) i ≡ watch_at xs i = get_or_append_left xs ys no_watch i l in
        subst (λ (w : Watch). IsWatched (xs ++ ys) i w.session q) (sym same)
        (watched-front xs ys i (watch_at xs i).session q (omega arith) (ex i q l (ap (λ (w : Watch). w.prior) (sym same) ∙ e)))

    back : length xs ≤ i → IsWatched (xs ++ ys) i (watch_at (xs ++ ys) i).session q
    back g =
        let k = i - length xs in let len = length-append xs ys in
        let same : watch_at (xs ++ ys) i ≡ watch_at ys k = get_or-append_right xs ys (length xs) i no_watch refl g in
        subst (λ (w : Watch). IsWatched (xs ++ ys) i w.session q) (sym same)
        (watched-back xs ys i (watch_at ys k).session q g (ey k q (omega arith) (ap (λ (w : Watch). w.prior) (sym same) ∙ e)))

    by : (i < length xs) ⊎ (length xs ≤ i) → IsWatched (xs ++ ys) i (watch_at (xs ++ ys) i).session q
    by (inl l) = front l
    by (inr g) = back g

earlier-none : Earlier []
earlier-none i q lt e = absurd (omega arith)

earlier-flat : (f : ℕ → List Watch) (a n : ℕ) → ((s : ℕ) → Earlier (f s)) → Earlier (flat_map f (range_with_len a n))
earlier-flat f a zero each = earlier-none
earlier-flat f a (suc n) each = earlier-append (f a) (flat_map f (range_with_len (a + 1) n)) (each a) (earlier-flat f (a + 1) n each)

earlier-session : (s : ℕ) (boxes : List Area) (answers : List Answer) → Earlier (watches_by s boxes answers)
earlier-session s boxes answers i q lt e =
    let f = watch_of s boxes answers in let n = length boxes in let len = length-map-range_with_len f 0 n in
    let here : watch_at (watches_by s boxes answers) i ≡ f i = get_or-map-range_with_len f 0 n i i no_watch (omega arith) (omega arith) in
    let below = last-below _ i q (ap (λ (w : Watch). w.prior) (sym here) ∙ e) in
    let there : watch_at (watches_by s boxes answers) q ≡ f q = get_or-map-range_with_len f 0 n q q no_watch (omega arith) (omega arith) in
    (q, below, ap (λ (w : Watch). w.session) there ∙ ap (λ (w : Watch). w.session) (sym here), ap (λ (w : Watch). w.query) there)

before-ascending : (job : JobView) (h : List Event) (s n : ℕ) (prior : Option ℕ) → IsWhole job h → s < length job.sessions → n ≤ length (boxes_of job s) → ((k : ℕ) → prior ≡ Some k → k < n)
    → IsStrictlyIncreasing (vertices_before (listed job h s) prior)
before-ascending job h s n None w lt le below = λ k l. absurd (omega arith)
before-ascending job h s n (Some q) w lt le below = own-ascending job h s q w lt (let b = below q refl in omega arith)

pub in-order : (job : JobView) (h : List Event) → IsWhole job h → IsWatchList (watches_of job h)
in-order job h w = record { entered = entered; left = left; earlier = earlier-flat (session_watches job h) 0 (length job.sessions) (λ s. earlier-session s (boxes_of job s) (listed job h s)) }
  where
    entered : All (λ (x : Watch). IsStrictlyIncreasing x.entered) (watches_of job h)
    entered =
        all-flat (λ (x : Watch). IsStrictlyIncreasing x.entered) (session_watches job h) 0 (length job.sessions)
        (λ s lt. all-mapped (λ (x : Watch). IsStrictlyIncreasing x.entered) (watch_of s (boxes_of job s) (listed job h s)) 0 (length (boxes_of job s))
        (λ q lq. without-increasing (answered job h s q) (vertices_before (listed job h s) (prior_of (boxes_of job s) q)) (own-ascending job h s q w (omega arith) (omega arith))))

    left : All (λ (x : Watch). IsStrictlyIncreasing x.left) (watches_of job h)
    left =
        all-flat (λ (x : Watch). IsStrictlyIncreasing x.left) (session_watches job h) 0 (length job.sessions)
        (λ s lt. all-mapped (λ (x : Watch). IsStrictlyIncreasing x.left) (watch_of s (boxes_of job s) (listed job h s)) 0 (length (boxes_of job s))
        (λ q lq. without-increasing (vertices_before (listed job h s) (prior_of (boxes_of job s) q)) (answered job h s q)
        (before-ascending job h s q (prior_of (boxes_of job s) q) w (omega arith) (omega arith) (λ k e. last-below _ q k e))))
