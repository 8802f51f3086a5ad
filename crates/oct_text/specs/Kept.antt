-- What is known of the bytes that a text's tokens are taken from.
use Rattle.std.specs.Prelude.{ℕ, ◌+◌, ◌-◌, ◌^◌, ◌<◌, ◌≤◌, List, drop}
use Rattle.oct_text.specs.Rest.{solid_len, line_len}

-- The bytes from `at` on are still to be taken; they end below 2^64; the first `solid` of them are no blanks, and the
-- first `unbroken` no LF.
pub record IsKept (kept : List ℕ) (len at place solid unbroken : ℕ) : Type 0 where
  pub inside : at ≤ len
  pub room : place + (len - at) < 2 ^ 64
  pub no_blank : solid ≤ solid_len (drop at kept)
  pub no_lf : unbroken ≤ line_len (drop at kept)
