-- how many of the first numbers pass a test
use Rattle.std.proofs.Common.{◌≡◌, ℕ, zero, suc, ◌+◌, ◌≤◌, Bool, true, false, cond, [], ◌∷◌, length, filter, refl, sym, ap, subst, ◌∙◌, arith, length-append}
use Rattle.std.specs.List.{range_with_len}
use Rattle.mesh_base.proofs.CellLists.{filter-range_more}

pub passed_more : (p : ℕ → Bool) (n : ℕ) → length (filter p (range_with_len 0 (n + 1))) ≡ length (filter p (range_with_len 0 n)) + cond (p n) 1 0
passed_more p n = ap length (filter-range_more p n) ∙ length-append (filter p (range_with_len 0 n)) (cond (p n) (n ∷ []) []) ∙ ap (λ k. length (filter p (range_with_len 0 n)) + k) (by (p n))
  where
    by : (b : Bool) → length (cond b (n ∷ []) []) ≡ cond b 1 0
    by true = refl
    by false = refl

pub passed-le : (p : ℕ → Bool) (k d : ℕ) → length (filter p (range_with_len 0 k)) ≤ length (filter p (range_with_len 0 (d + k)))
passed-le p k zero = let e : 0 + k ≡ k = omega arith in subst (λ n. length (filter p (range_with_len 0 k)) ≤ length (filter p (range_with_len 0 n))) (sym e) (omega arith)
passed-le p k (suc d) =
    let e : suc d + k ≡ (d + k) + 1 = omega arith in
    let r = passed-le p k d in
    subst (λ n. length (filter p (range_with_len 0 k)) ≤ length (filter p (range_with_len 0 n))) (sym e) (omega (arith, passed_more p (d + k)))
