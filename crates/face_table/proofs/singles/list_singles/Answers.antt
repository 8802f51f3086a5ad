use Rattle.std.proofs.Common.{Some, refl, sym, arith, take, length-take}
use Rattle.face_table.proofs.Sums.{share_more, single_count-le}
use Rattle.face_table.proofs.singles.list_singles.Goals as goal

pub follow-requires-clause-after_within : goal.follow-requires-clause-after_within
follow-requires-clause-after_within c one =
    let w = c.requires.within c.entry-face.result.0 (let t = c.entry-face.ensures.counted in omega arith) in
    omega (arith, w, c.loop-i.invariant.len)

pub follow-requires-clause-fits : goal.follow-requires-clause-fits
follow-requires-clause-fits c v lt =
    let l = single_count-le (take c.loop-i.i c.args.counts.now.entries) v in
    let s = c.loop-i.invariant.singles v in
    omega (arith, l, s, length-take c.loop-i.i c.args.counts.now.entries)

pub loop-i-preserved : goal.loop-i-preserved
loop-i-preserved c = record {
  len = omega (arith, c.follow.ensures.len, c.loop-i.invariant.len);
  singles = λ v.
      let m = share_more c.args.counts.now.entries c.loop-i.i v (Some c.entry-face.result) c.entry-face.result (omega arith) (sym c.entry-face.ensures.entry) refl in
      omega (arith, m, c.follow.ensures.followed v, c.loop-i.invariant.singles v);
}
