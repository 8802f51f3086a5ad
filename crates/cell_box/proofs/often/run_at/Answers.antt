use Rattle.std.proofs.Common.{◌≡◌, ◌≢◌, ℕ, ◌+◌, ◌-◌, ◌<◌, ◌≤◌, eqb, length, get_or, take, sym, ap, subst, ◌∙◌, arith, length-take}
use Rattle.std.proofs.lemmas.List.Sums.{count_by-le-length}
use Rattle.cell_box.specs.Often.{times}
use Rattle.cell_box.proofs.Runs.{none_before, times_here}
use Rattle.cell_box.proofs.often.run_at.Goals as goal
use Rattle.cell_box.proofs.often.run_at.Goals.{else-k-gt0-via-then-k-gt0+else-numbers-k, else-k-gt0-via-else-k-gt0}

pub overflow_add-result : goal.overflow_add-result
overflow_add-result c =
    let xs = c.args.numbers.now in
    let k = c.args.k in
    let j : k ≡ (k - 1) + 1 = omega arith in
    let r = c.requires.run (k - 1) j in
    let l = count_by-le-length (λ x. eqb x (get_or xs (k - 1) 0)) (take k xs) in
    omega (arith, r, l, length-take k xs, c.requires.place)

pub returns-then-numbers-k : goal.returns-then-numbers-k
returns-then-numbers-k c =
    let xs = c.args.numbers.now in
    let k = c.args.k in
    let j : k ≡ (k - 1) + 1 = omega arith in
    ap (λ n. n + 1) (c.requires.run (k - 1) j ∙ ap (times (take k xs)) c.if-numbers-k.true) ∙ sym (times_here xs k c.requires.place)

pub returns-else-k-gt0 : goal.returns-else-k-gt0
returns-else-k-gt0 c =
    let xs = c.args.numbers.now in
    let k = c.args.k in
    let apart : (j : ℕ) → k ≡ j + 1 → get_or xs j 0 ≢ get_or xs k 0 = λ j e q. elim c.else-k-gt0.branch [
      | else-k-gt0-via-then-k-gt0+else-numbers-k w ↦ (let i : j ≡ k - 1 = omega arith in w.if-numbers-k.false (subst (λ m. get_or xs m 0 ≡ get_or xs k 0) i q))
      | else-k-gt0-via-else-k-gt0 w ↦ (let z = w.if-k-gt0.false in absurd (omega arith))
    ] in
    let z = none_before xs k c.requires.sorted c.requires.place apart in
    let t = times_here xs k c.requires.place in
    omega (arith, z, t)
