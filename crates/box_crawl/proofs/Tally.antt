-- the list of a crawl beside its marks
use Rattle.std.proofs.Common.{◌≡◌, ℕ, ◌<◌, ◌≤◌, inl, inr, Bool, true, false, cond, List, [], ◌∷◌, ◌++◌, Contains, ◌↔◌, ap, subst, ◌∙◌, arith}
use Rattle.std.proofs.lemmas.List.Elements.{Contains-append_left, Contains-push_cases, Contains-push}
use Rattle.mesh_base.proofs.Ascending.{Contains-from_In}
use Rattle.mesh_base.proofs.Once.{bit, times, times-In}
use Rattle.box_crawl.specs.Marked.{is_marked}
use Rattle.box_crawl.specs.Found.{IsTally}

pub from_marked : (found : List ℕ) (marks : List Bool) (v : ℕ) → IsTally found marks → is_marked marks v ≡ true → Contains found v
from_marked found marks v t m = let e = t.each v ∙ ap bit m in Contains-from_In found v (times-In found v (omega arith))

pub once : (found : List ℕ) (marks : List Bool) (v : ℕ) → IsTally found marks → times found v ≤ 1
once found marks v t = by (is_marked marks v) (t.each v)
  where
    by : (b : Bool) → times found v ≡ cond b 1 0 → times found v ≤ 1
    by true e = omega arith
    by false e = omega arith

-- the same members before and after one more
push_part : (xs ys : List ℕ) (v w : ℕ) → (Contains xs w → Contains ys w) → Contains (xs ++ v ∷ []) w → Contains (ys ++ v ∷ []) w
push_part xs ys v w f h = elim (Contains-push_cases xs v w h) [ inl m ↦ Contains-append_left ys (v ∷ []) w (f m) | inr e ↦ subst (Contains (ys ++ v ∷ [])) e (Contains-push ys v) ]

pub push_same : (xs ys zs : List ℕ) (v w : ℕ) → Contains zs w ↔ Contains (xs ++ v ∷ []) w → Contains xs w ↔ Contains ys w → Contains zs w ↔ Contains (ys ++ v ∷ []) w
push_same xs ys zs v w a b = (λ h. push_part xs ys v w b.0 (a.0 h), λ h. a.1 (push_part ys xs v w b.1 h))
