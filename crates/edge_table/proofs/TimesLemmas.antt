-- the numbers of a row after a neighbour got several cells more
use Rattle.std.proofs.Common.{◌≡◌, ℕ, ◌+◌, ◌-◌, ◌<◌, Bool, true, false, cond, eqb, List, length, get_or, set, insert, refl, ap, ◌∙◌, arith}
use Rattle.std.proofs.lemmas.Bool.Decides.{nat_tests}
use Rattle.std.specs.List.Sorted.{IsStrictlyIncreasing}
use Rattle.mesh_base.proofs.Ascending.{Asc-from_increasing, increasing-le}
use Rattle.mesh_base.specs.Numbers.{IsPlaceOf}
use Rattle.edge_table.specs.Pairs.{number_at, IsRow}
use Rattle.edge_table.proofs.RowLemmas.{number_at-absent, number_at-set, number_at-insert, number_of, not_in}

same_at : (xs ns : List ℕ) (w u : ℕ) → eqb w u ≡ true → number_at xs ns w ≡ number_at xs ns u
same_at xs ns w u e = let q : w ≡ u = grind (arith, nat_tests) in ap (number_at xs ns) q

-- a neighbour that is listed, and one that is not
pub more_there_by : (xs ns : List ℕ) (i w n u : ℕ) → IsRow xs ns → i < length xs → get_or xs i 0 ≡ w
    → number_at xs (set ns i (get_or ns i 0 + n)) u ≡ number_at xs ns u + cond (eqb w u) n 0
more_there_by xs ns i w n u r lt e =
    number_at-set xs ns i (get_or ns i 0 + n) u (Asc-from_increasing xs r.ascending) r.even lt
    ∙ ap (λ k. cond (eqb k u) (get_or ns i 0 + n) (number_at xs ns u)) e ∙ by (eqb w u) refl
  where
    by : (b : Bool) → eqb w u ≡ b → cond b (get_or ns i 0 + n) (number_at xs ns u) ≡ number_at xs ns u + cond b n 0
    by true q = let s = same_at xs ns w u q in let t = number_of xs ns i w r lt e in omega arith
    by false q = omega arith

pub more_in_by : (xs ns : List ℕ) (i w n u : ℕ) → IsRow xs ns → IsPlaceOf w xs i
    → number_at (insert xs i w) (insert ns i n) u ≡ number_at xs ns u + cond (eqb w u) n 0
more_in_by xs ns i w n u r p = number_at-insert xs ns i w n u (not_in w xs i p) r.even p.within ∙ by (eqb w u) refl
  where
    by : (b : Bool) → eqb w u ≡ b → cond b n (number_at xs ns u) ≡ number_at xs ns u + cond b n 0
    by true q = let s = same_at xs ns w u q in let t = number_at-absent xs ns w (not_in w xs i p) in omega arith
    by false q = omega arith

-- a number above the last belongs at the end
pub end_place : (xs : List ℕ) (n w : ℕ) → n ≡ length xs → IsStrictlyIncreasing xs → (0 < n → get_or xs (n - 1) 0 < w) → IsPlaceOf w xs n
end_place xs n w e asc last = record {
  within = omega (arith, e);
  before = λ k lt.
      let a = increasing-le xs asc k (n - 1) (omega arith) (omega (arith, e)) in
      let b = last (omega arith) in
      omega (arith, a, b);
  after = λ k ge lt. absurd (omega (arith, e));
}
