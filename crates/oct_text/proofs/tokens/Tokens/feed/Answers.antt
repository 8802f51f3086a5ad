use Rattle.std.proofs.Common.{◌+◌, ◌∙◌, ap, length, vec_len, rules, arith}
use Rattle.oct_text.specs.Rest.{Rest}
use Rattle.oct_text.proofs.TokenLemmas.{IsKept-fed}
use Rattle.oct_text.proofs.tokens.Tokens.feed.Goals as goal

pub invariant_of-self-2 : goal.invariant_of-self-2
invariant_of-self-2 c =
    rw (c.in_ok-extend_from_slice.ensures.items, c.in_ok-extend_from_slice.ensures.len)
    (IsKept-fed c.self.inside.kept.items c.args.piece.now (vec_len c.self.inside.kept) c.self.inside.at c.self.inside.place c.self.inside.solid c.self.inside.unbroken (search rules) c.self.invariant
    (omega (arith, c.requires.room, ap (λ (r : Rest). r.place + length r.bytes) (c.self.view_is ∙ c.forget.ensures))))
