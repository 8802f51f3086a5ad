-- The answers again, from the watches.
use Rattle.std.proofs.Common.{◌≡◌, ℕ, zero, suc, ◌+◌, ◌<◌, inl, inr, ◌⊎◌, Option, Some, None, List, length, map, Contains, refl, sym, ap, ◌∙◌, subst, arith}
use Rattle.std.specs.Prelude.{flat_map, All}
use Rattle.std.specs.List.{range_with_len}
use Rattle.std.specs.List.Sorted.{IsStrictlyIncreasing}
use Rattle.std.proofs.lemmas.List.{length-map}
use Rattle.std.proofs.lemmas.List.Concat.{length-flat_map}
use Rattle.std.proofs.lemmas.List.Elements.{All-nil, All-cons, All-append}
use Rattle.std.proofs.lemmas.List.FromFn.{length-range_with_len}
use Rattle.mesh_base.specs.Numbers.{IsListOf}
use Rattle.run_script.specs.Jobs.{JobView, turns_of, box_count}
use Rattle.step_registry.specs.declared.event.Event.{Event}
use Rattle.step_registry.specs.Core.{IsWhole}
use Rattle.report.specs.Report.{listed}
use Rattle.report.specs.Headline.{query_of}
use Rattle.report.proofs.Lists.{answers-are-true, boxes-in-order}
use Rattle.box_watch.specs.declared.watch.Watch.{Watch}
use Rattle.box_watch.specs.Lists.{without}
use Rattle.box_watch.specs.Priors.{prior_of}
use Rattle.box_watch.specs.Watches.{no_answer, boxes_of, vertices_before, watch_of, session_watches, watches_of}
use Rattle.box_watch.specs.Replay.{IsAfter, vertices_at, Follows, answered}
use Rattle.box_watch.proofs.Members.{decide, without-parts, without-from}

pub all-flat : {X : Type 0} (P : X → Type 0) (f : ℕ → List X) (a n : ℕ) → ((s : ℕ) → s < a + n → All P (f s)) → All P (flat_map f (range_with_len a n))
all-flat P f a zero each = All-nil P
all-flat P f a (suc n) each =
    All-append P (f a) (flat_map f (range_with_len (a + 1) n)) (each a (omega arith)) (all-flat P f (a + 1) n (λ s lt. each s (omega arith)))

pub all-mapped : {X : Type 0} (P : X → Type 0) (f : ℕ → X) (a n : ℕ) → ((q : ℕ) → q < a + n → P (f q)) → All P (map f (range_with_len a n))
all-mapped P f a zero each = All-nil P
all-mapped P f a (suc n) each = All-cons P (f a) (map f (range_with_len (a + 1) n)) (each a (omega arith)) (all-mapped P f (a + 1) n (λ q lt. each q (omega arith)))

-- what entered and what left make the new list of the old one
pub after-is : (now before : List ℕ) → IsStrictlyIncreasing now → IsListOf (λ v. Contains (without now before) v ⊎ (Contains before v × ¬ Contains (without before now) v)) now
after-is now before asc = record { ascending = asc; every = every; only = only }
  where
    stayed : (v : ℕ) → Contains before v → ¬ Contains (without before now) v → Contains now v ⊎ ¬ Contains now v → Contains now v
    stayed v c n (inl m) = m
    stayed v c n (inr out) = absurd (n (without-from before now v c out))

    every : (v : ℕ) → Contains (without now before) v ⊎ (Contains before v × ¬ Contains (without before now) v) → Contains now v
    every v (inl c) = (without-parts now before v c).0
    every v (inr p) = stayed v p.0 p.1 (decide now v)

    only : (v : ℕ) → Contains now v → Contains (without now before) v ⊎ (Contains before v × ¬ Contains (without before now) v)
    only v m = by (decide before v)
      where
        by : Contains before v ⊎ ¬ Contains before v → Contains (without now before) v ⊎ (Contains before v × ¬ Contains (without before now) v)
        by (inl c) = inr (c, λ d. (without-parts before now v d).1 m)
        by (inr n) = inl (without-from now before v m n)

-- a session has an answer for each of its boxes
pub own-length : (job : JobView) (h : List Event) (s : ℕ) → IsWhole job h → s < length job.sessions → length (listed job h s) ≡ length (boxes_of job s)
own-length job h s w lt =
    sym (length-map (listed job h s) query_of) ∙ (ap length (boxes-in-order job h w s lt)
    ∙ (length-range_with_len 0 (box_count (turns_of job s)) ∙ sym (length-flat_map (λ t. t.areas) (turns_of job s))))

pub own-ascending : (job : JobView) (h : List Event) (s q : ℕ) → IsWhole job h → s < length job.sessions → q < length (boxes_of job s) → IsStrictlyIncreasing (answered job h s q)
own-ascending job h s q w lt lq =
    let n = own-length job h s w lt in (answers-are-true job h w s lt q no_answer (omega arith)).ascending

same-before : (job : JobView) (h : List Event) (s : ℕ) (prior : Option ℕ) → vertices_before (listed job h s) prior ≡ vertices_at (answered job h) s prior
same-before job h s None = refl
same-before job h s (Some q) = refl

one-follows : (job : JobView) (h : List Event) (s q : ℕ) → IsWhole job h → s < length job.sessions → q < length (boxes_of job s)
    → IsAfter (vertices_at (answered job h) s (prior_of (boxes_of job s) q)) (watch_of s (boxes_of job s) (listed job h s) q) (answered job h s q)
one-follows job h s q w lt lq =
    subst (λ before. IsAfter before (watch_of s (boxes_of job s) (listed job h s) q) (answered job h s q)) (same-before job h s (prior_of (boxes_of job s) q))
    (after-is (answered job h s q) (vertices_before (listed job h s) (prior_of (boxes_of job s) q)) (own-ascending job h s q w lt lq))

pub answers-replayed : (job : JobView) (h : List Event) → IsWhole job h → Follows (watches_of job h) (answered job h)
answers-replayed job h w =
    let P : Watch → Type 0 = λ x. IsAfter (vertices_at (answered job h) x.session x.prior) x (answered job h x.session x.query) in
    all-flat P (session_watches job h) 0 (length job.sessions)
    (λ s lt. all-mapped P (watch_of s (boxes_of job s) (listed job h s)) 0 (length (boxes_of job s)) (λ q lq. one-follows job h s q w (omega arith) (omega arith)))
