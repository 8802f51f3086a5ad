use Rattle.std.proofs.Common.{◌≡◌, ◌∷◌, ◌≤◌, take, length}
use Rattle.oct_text.specs.Rest.{behind}
use Rattle.oct_text.specs.Ahead.{TakesCounts}
use Rattle.oct_text.proofs.tokens.Tokens.row_ahead.Given as goal

abbrev pub invariant-loop-i : goal.invariant-loop-i
invariant-loop-i l = record {
  inside : l.len ≤ length l.self.bytes;
  counts : TakesCounts l.self (l.size ∷ take l.i l.values) (behind l.len l.self);
  four : length l.values ≡ 4;
}
