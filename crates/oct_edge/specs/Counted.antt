-- What contracts see of a folder of real files: how often it was called, and nothing of the bytes.
use Rattle.std.specs.Prelude.{ℕ}

pub record CallCounts : Type 0 where
  pub faults : ℕ
  pub opened : ℕ
