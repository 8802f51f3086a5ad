use Rattle.std.proofs.Common.{sym, ◌∙◌, arith}
use Rattle.oct_text.proofs.AheadLemmas.{count_at}
use Rattle.oct_text.proofs.ahead.count_front.Goals as goal

pub returns-clause-exact : goal.returns-clause-exact
returns-clause-exact c =
    let d = c.short_digits-digits in
    count_at c.args.bytes.now c.behind-word.result.now c.blanks-start.result d.result.len d.result.value c.if-bytes-lt16.false
    (rw c.first.ensures.bytes at c.blanks-start.ensures.exact) c.behind-word.ensures.bytes (rw c.first-2.ensures.bytes at d.ensures.exact) (omega arith) (omega arith)
    (sym c.is_blank_byte.ensures ∙ c.if-not-is_blank_byte.false) (rw c.first-2.ensures.bytes at d.ensures.value)
