-- The list of all that are in one of two lists.
use Rattle.std.proofs.Common.{◌≡◌, ℕ, inl, inr, ◌⊎◌, List, ◌++◌, Contains, sym, ap, ◌∙◌, subst}
use Rattle.std.specs.List.Sorted.{IsStrictlyIncreasing}
use Rattle.std.proofs.lemmas.List.Elements.{Contains-append_left, Contains-append_right, Contains-append_cases}
use Rattle.mesh_base.specs.Numbers.{IsListOf}
use Rattle.box_watch.specs.declared.watch.Watch.{Watch}
use Rattle.box_watch.specs.Lists.{without}
use Rattle.box_watch.specs.Replay.{IsAfter}
use Rattle.box_watch.proofs.Members.{without-parts, without-from}

pub both-once : (xs ys all us : List ℕ) → all ≡ xs ++ ys → IsStrictlyIncreasing us → ((v : ℕ) → Contains all v → Contains us v) → ((v : ℕ) → Contains us v → Contains all v)
    → IsListOf (λ v. Contains xs v ⊎ Contains ys v) us
both-once xs ys all us e asc every only = record {
  ascending = asc;
  every = λ v h. every v (subst (λ l. Contains l v) (sym e) (join v h));
  only = λ v c. Contains-append_cases xs ys v (subst (λ l. Contains l v) e (only v c));
}
  where
    join : (v : ℕ) → Contains xs v ⊎ Contains ys v → Contains (xs ++ ys) v
    join v (inl a) = Contains-append_left xs ys v a
    join v (inr b) = Contains-append_right xs ys v b

pub after-union : (before : List ℕ) (w : Watch) (stayed left entered us : List ℕ) → left ≡ w.left → entered ≡ w.entered → stayed ≡ without before left
    → IsListOf (λ v. Contains stayed v ⊎ Contains entered v) us → IsAfter before w us
after-union before w stayed left entered us el ee e list = record {
  ascending = list.ascending;
  every = λ v h. list.every v (into v h);
  only = λ v c. back v (list.only v c);
}
  where
    is : stayed ≡ without before w.left
    is = e ∙ ap (without before) el

    into : (v : ℕ) → Contains w.entered v ⊎ (Contains before v × ¬ Contains w.left v) → Contains stayed v ⊎ Contains entered v
    into v (inl a) = inr (subst (λ l. Contains l v) (sym ee) a)
    into v (inr p) = inl (subst (λ l. Contains l v) (sym is) (without-from before w.left v p.0 p.1))

    back : (v : ℕ) → Contains stayed v ⊎ Contains entered v → Contains w.entered v ⊎ (Contains before v × ¬ Contains w.left v)
    back v (inl s) = inr (without-parts before w.left v (subst (λ l. Contains l v) is s))
    back v (inr a) = inl (subst (λ l. Contains l v) ee a)
