-- What a scan of digits keeps: the number before a place, as far as it matters, and whether the digits behind the place
-- are all 0.
use Rattle.std.specs.Prelude.{◌≡◌, ℕ, ◌-◌, ◌^◌, ◌<◌, ◌≤◌, Bool, ◌==◌, List, length, take, drop}
use Rattle.std.specs.List.{list_all}
use Rattle.std.specs.Str.Parse.{digits_value}
use Rattle.oct_text.specs.declared.scan.Scan.{Scan}

-- v is n, or both are above 2^30
pub record IsCapped (n v : ℕ) : Type 0 where
  pub exact : n ≤ 2 ^ 30 → v ≡ n
  pub above : 2 ^ 30 < n → 2 ^ 30 < v

abbrev pub is_zero : ℕ → Bool
is_zero b = b == 48

pub record Scans (place : ℕ) (seen : List ℕ) (s : Scan) : Type 0 where
  pub left : s.left ≡ place - length seen
  pub value : IsCapped (digits_value 10 (take place seen)) s.value
  pub clean : s.clean ≡ list_all is_zero (drop place seen)
