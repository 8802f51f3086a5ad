use Rattle.std.proofs.Common.{◌≡◌, ℕ, ◌^◌, ◌<◌, get_or, take, true}
use Rattle.std.specs.Str.Parse.{digits_value}
use Rattle.oct_text.specs.Numbers.{is_digit}
use Rattle.oct_text.proofs.short.short_digits.Given as goal

abbrev pub invariant-loop-i : goal.invariant-loop-i
invariant-loop-i l = record {
  digits : (k : ℕ) → k < l.i → is_digit (get_or l.text k 0) ≡ true;
  value : l.value ≡ digits_value 10 (take l.i l.text);
  small : l.value < 10 ^ l.i;
}
