use Rattle.std.proofs.lemmas.Result.{err_from_is_err_and}
use Rattle.script_format.proofs.ReaderLemmas.{next-reading, fault-reading, end-fits, end-outcome}
use Rattle.script_format.proofs.reader.read_rows.Goals as goal

pub returns-in_err-take_line : goal.returns-in_err-take_line
returns-in_err-take_line c =
    let p = err_from_is_err_and c.from_residual.result c.from_residual.ensures.1 in
    let r = c.loop-cut.invariant in
    rw (p.1, p.2) (fault-reading _ _ _ _ _ _ r _ _ _ c.in-Some.ensures (c.in_err-take_line.ensures.takes _ r.stands))

pub loop-cut-preserved : goal.loop-cut-preserved
loop-cut-preserved c =
    let r = c.loop-cut.invariant in
    next-reading _ _ _ _ _ _ r _ _ _ _ c.in-Some.ensures (c.in_ok-take_line.ensures.takes _ r.stands) (c.in_ok-take_line.ensures.few _ r.few)

pub finish-requires : goal.finish-requires
finish-requires c = end-fits _ _ _ _ _ _ c.loop-cut.invariant c.in_default.ensures c.requires.version

pub returns : goal.returns
returns c = rw (end-outcome _ _ _ _ _ _ c.loop-cut.invariant c.in_default.ensures) c.finish.ensures
