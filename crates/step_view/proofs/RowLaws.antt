-- rows of shares
use Rattle.std.proofs.Common.{◌≡◌, ℕ, suc, ◌+◌, ◌<◌, ◌≤◌, List, [], ◌∷◌, ◌++◌, length, replicate, Option, Some, refl, sym, ap, subst, ◌∙◌, arith}
use Rattle.std.proofs.lemmas.List.{replicate_more, length-replicate}
use Rattle.step_view.specs.StepView.{StepView}
use Rattle.step_view.specs.Rows.{SharesView, IsRow, front_step}

abbrev pub shares : StepView → ℕ → SharesView
shares step n = record { step = step; count = n }

abbrev pub the_view : List (Option StepView) → SharesView
the_view row = shares (front_step row) (length row)

-- one share more makes a row longer by one
pub longer : (n : ℕ) (step : StepView) (row : List (Option StepView)) → row ≡ replicate n (Some step) → row ++ Some step ∷ [] ≡ replicate (suc n) (Some step)
longer n step row e = ap (λ xs. xs ++ Some step ∷ []) e ∙ replicate_more n (Some step) ∙ ap (λ k. replicate k (Some step)) next
  where
    next : n + 1 ≡ suc n
    next = omega arith

-- a row of one step is a row
pub is_row : (n : ℕ) (step : StepView) (row : List (Option StepView)) → row ≡ replicate (suc n) (Some step) → n ≤ 8 → IsRow row
is_row n step row e few = subst IsRow (sym e) (record { same = sym (ap (λ k. replicate k (Some step)) len); some = omega (arith, len); fits = omega (arith, len, few) })
  where
    len : length (replicate (suc n) (Some step)) ≡ suc n
    len = length-replicate (suc n) (Some step)

-- and is seen as that step, so many times
pub seen : (n : ℕ) (step : StepView) (row : List (Option StepView)) → row ≡ replicate (suc n) (Some step) → the_view row ≡ shares step (n + 1)
seen n step row e = ap the_view e ∙ ap (shares step) (length-replicate (suc n) (Some step) ∙ next)
  where
    next : suc n ≡ n + 1
    next = omega arith
