use Rattle.std.proofs.Common.{ap, arith}
use Rattle.std.proofs.lemmas.List.Sums.{sum_by_more_le}
use Rattle.std.proofs.lemmas.List.Sorted.{sum_by-IsPermutation}
use Rattle.edge_table.specs.Corner.{pair_of}
use Rattle.edge_table.proofs.CornerLemmas.{pair_of-own}
use Rattle.edge_table.proofs.groups.count_seen.Goals as goal

pub count_pair-requires-clause-fits : goal.count_pair-requires-clause-fits
count_pair-requires-clause-fits c lt =
    let seen = c.sort_unstable.new.self.items in
    let r = c.index-pair.result.now in
    let s = sum_by-IsPermutation (λ e. pair_of e.0 e.1 e.2 r.0 r.1) c.args.seen.now.items seen c.sort_unstable.ensures.permutation in
    let m = sum_by_more_le (λ e. pair_of e.0 e.1 e.2 r.0 r.1) seen c.loop-i.i r (omega arith) in
    let e = ap (λ e. pair_of e.0 e.1 e.2 r.0 r.1) c.index-pair.ensures in
    let l = c.loop-i.invariant.len in
    let p = c.loop-i.invariant.pairs r.0 r.1 (omega arith) in
    let q = c.requires.fits r.0 r.1 (omega arith) in
    omega (arith, s, m, e, pair_of-own r.0 r.1 r.2, p, q)
