-- marks by numbers and a round
use Rattle.std.proofs.Common.{◌≡◌, ℕ, zero, suc, ◌+◌, ◌≤◌, true, false, eqb, List, [], ◌∷◌, ◌++◌, length, map, set, take, replicate, All, refl, sym, ap, ◌∙◌, arith}
use Rattle.std.proofs.lemmas.Bool.Decides.{nat_tests}
use Rattle.std.specs.List.{AllByRecursion}
use Rattle.std.proofs.lemmas.List.Elements.{recursion_from_All}
use Rattle.std.proofs.lemmas.List.{map-set, map-append, length-map, take_all}
use Rattle.std.proofs.Math.Seq.{take-append_seam}

-- where all numbers are at most r, the next round marks none
raised_by : (r : ℕ) (xs : List ℕ) → AllByRecursion (λ n. n ≤ r) xs → map (λ n. eqb n (r + 1)) xs ≡ replicate (length xs) false
raised_by r [] h = refl
raised_by r (x ∷ xs) h =
    let e : eqb x (r + 1) ≡ false = grind (arith, nat_tests, h.0) in
    ap (λ b. b ∷ map (λ n. eqb n (r + 1)) xs) e ∙ ap (λ l. false ∷ l) (raised_by r xs h.1)

pub raised : (r : ℕ) (xs : List ℕ) → All (λ n. n ≤ r) xs → map (λ n. eqb n (r + 1)) xs ≡ replicate (length (map (λ n. eqb n r) xs)) false
raised r xs h = raised_by r xs (recursion_from_All (λ n. n ≤ r) xs h) ∙ ap (λ k. replicate k false) (sym (length-map xs (λ n. eqb n r)))

pub map-zeros : (r n : ℕ) → map (λ n. eqb n r) (replicate n 0) ≡ replicate n (eqb 0 r)
map-zeros r zero = refl
map-zeros r (suc n) = ap (λ l. eqb 0 r ∷ l) (map-zeros r n)

-- more numbers at the end keep the marks before them
pub resized : (r n : ℕ) (xs ys zs : List ℕ) → length xs ≤ n → ys ≡ take n xs ++ zs → take (length (map (λ n. eqb n r) xs)) (map (λ n. eqb n r) ys) ≡ map (λ n. eqb n r) xs
resized r n xs ys zs le e =
    ap (λ l. take (length (map (λ n. eqb n r) xs)) l) (ap (map (λ n. eqb n r)) (e ∙ ap (λ l. l ++ zs) (take_all n xs le)) ∙ map-append (λ n. eqb n r) xs zs)
    ∙ take-append_seam (map (λ n. eqb n r) xs) (map (λ n. eqb n r) zs)

pub zeroed : (r : ℕ) (xs ys : List ℕ) → ys ≡ replicate (length xs) 0 → map (λ n. eqb n 1) ys ≡ replicate (length (map (λ n. eqb n r) xs)) false
zeroed r xs ys e = ap (map (λ n. eqb n 1)) e ∙ map-zeros 1 (length xs) ∙ ap (λ k. replicate k false) (sym (length-map xs (λ n. eqb n r)))

eqb_self : (r : ℕ) → eqb r r ≡ true
eqb_self r = grind (arith, nat_tests)

pub marked : (r v : ℕ) (xs : List ℕ) → map (λ n. eqb n r) (set xs v r) ≡ set (map (λ n. eqb n r) xs) v true
marked r v xs = map-set (λ n. eqb n r) xs v r ∙ ap (set (map (λ n. eqb n r) xs) v) (eqb_self r)
