use Rattle.std.proofs.Common.{sym, ◌∙◌}
use Rattle.oct_text.proofs.PartsLemmas.{cut_of, is_mantissa, no_mantissa}
use Rattle.oct_text.proofs.coordinate.mantissa.Goals as goal

pub returns-then-is_mantissa-clause-some : goal.returns-then-is_mantissa-clause-some
returns-then-is_mantissa-clause-some c =
    let cut = cut_of c.args.text.now c.split_at.result.0.now c.split_at.result.1.now c.fraction.result.0.now c.fraction.result.1.now c.args.front_len c.requires.digits c.split_at.ensures.front c.split_at.ensures.back c.fraction.ensures in
    is_mantissa c.args.text.now c.split_at.result.0.now c.fraction.result.0.now c.fraction.result.1.now cut (sym c.is_mantissa.ensures ∙ c.if-is_mantissa.true)

pub returns-else-is_mantissa-clause-none : goal.returns-else-is_mantissa-clause-none
returns-else-is_mantissa-clause-none c none =
    let cut = cut_of c.args.text.now c.split_at.result.0.now c.split_at.result.1.now c.fraction.result.0.now c.fraction.result.1.now c.args.front_len c.requires.digits c.split_at.ensures.front c.split_at.ensures.back c.fraction.ensures in
    no_mantissa c.args.text.now c.split_at.result.0.now c.fraction.result.0.now c.fraction.result.1.now cut (sym c.is_mantissa.ensures ∙ c.if-is_mantissa.false)
