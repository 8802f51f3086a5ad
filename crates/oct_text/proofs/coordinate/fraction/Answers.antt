use Rattle.std.proofs.Common.{◌≡◌, get_or, refl, arith}
use Rattle.oct_text.proofs.PartsLemmas.{is_fraction}
use Rattle.oct_text.proofs.coordinate.fraction.Goals as goal

pub returns-in-46 : goal.returns-in-46
returns-in-46 c =
    let first : get_or c.args.text.now 0 0 ≡ 46 = omega arith in
    is_fraction c.args.text.now _ c.split_at.result.0.now c.split_at.result.1.now c.digits_len.result c.in-46.len_at_least first refl c.digits_len.ensures.exact c.split_at.ensures.front c.split_at.ensures.back
