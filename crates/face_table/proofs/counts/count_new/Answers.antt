use Rattle.std.proofs.Common.{◌≡◌, ap, refl, arith}
use Rattle.face_table.specs.Tally.{tally_in, single_share}
use Rattle.face_table.proofs.Sums.{on_ok, insert-share}
use Rattle.face_table.proofs.counts.count_new.Goals as goal

pub returns-clause-singles : goal.returns-clause-singles
returns-clause-singles c v =
    let es = c.args.counts.now.entries in
    let k = c.args.face in
    let e = on_ok c.insert.result (c.insert.ensures.succeeds c.requires.room) c.insert.ensures.entries in
    let s = insert-share es c.insert.new.self.entries k 2 v e in
    let z : single_share v (k, tally_in es k) ≡ 0 = ap (λ n. single_share v (k, n)) c.requires.new in
    let t : single_share v (k, 2) ≡ 0 = refl in
    omega (arith, s, z, t)
