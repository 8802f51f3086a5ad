-- how far rings go
use Rattle.std.specs.Prelude.{ℕ}

-- the most edges to the last ring
abbrev pub most_hops : ℕ
most_hops = 1000
