-- how often a number stands in a list
use Rattle.std.specs.Prelude.{ℕ, ◌==◌, List, count_by}

abbrev pub times : List ℕ → ℕ → ℕ
times xs i = count_by (λ x. x == i) xs
