use Rattle.std.proofs.Common.{sym, arith, w32}
use Rattle.std.proofs.lemmas.Int.{to_z-of_z}
use Rattle.oct_text.proofs.AheadLemmas.{whole_at}
use Rattle.oct_text.proofs.RangeLemmas.{whole_fits}
use Rattle.oct_text.proofs.ahead.whole_front.Goals as goal

pub returns-in-Ok-clause-exact : goal.returns-in-Ok-clause-exact
returns-in-Ok-clause-exact c =
    rw (to_z-of_z w32 c.in-Ok.value (whole_fits c.first-3.result.now c.in-Ok.value (sym c.in-Ok.ensures))) (whole_at c.args.bytes.now c.behind-word.result.now c.first-3.result.now c.blanks-start.result c.word_end-len.result c.in-Ok.value c.if-bytes-lt64.false
    (rw c.first.ensures.bytes at c.blanks-start.ensures.exact) c.behind-word.ensures.bytes (rw c.first-2.ensures.bytes at c.word_end-len.ensures.exact) (omega arith) (omega arith) c.first-3.ensures.bytes (sym c.in-Ok.ensures))
