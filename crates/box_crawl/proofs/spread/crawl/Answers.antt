use Rattle.std.proofs.Common.{ℕ, length, sym, ap, subst, arith, false, IsPermutation}
use Rattle.std.proofs.lemmas.List.{length-replicate}
use Rattle.std.specs.List.Sorted.{IsNonDecreasing}
use Rattle.std.proofs.lemmas.List.Sorted.{IsNonDecreasingBy-from_sort}
use Rattle.mesh_base.specs.Query.{JoinedToOne, joined_to, degrees}
use Rattle.mesh_base.proofs.Ascending.{same_list_of}
use Rattle.mesh_base.proofs.JoinedLaws.{joined_is, more_seeds, same_joined}
use Rattle.mesh_base.proofs.NumberLaws.{of_scan}
use Rattle.box_crawl.proofs.Paths.{sorted_list}
use Rattle.box_crawl.proofs.spread.crawl.Goals as goal

pub put_all-requires-clause-points : goal.put_all-requires-clause-points
put_all-requires-clause-points g c s m =
    let p = of_scan c.args.step.now.mesh c.args.area.now s (c.requires.seeds s m) in
    let e = ap length c.clear.ensures in
    let n = length-replicate (length c.args.scratch.now) false in
    omega (arith, e, n, p.1, c.requires.reach)

pub spread_all-requires-clause-inside : goal.spread_all-requires-clause-inside
spread_all-requires-clause-inside g c s m = c.requires.seeds s ((c.in_ok-put_all.ensures.same s).0 m)

pub returns-in_err-spread_all-clause-reads : goal.returns-in_err-spread_all-clause-reads
returns-in_err-spread_all-clause-reads g c =
    let e = ap (degrees c.args.step.now.mesh c.args.area.now) (same_joined c.args.step.now.mesh c.args.area.now c.put_all.new.found.items c.args.seeds.now c.in_ok-put_all.ensures.same c.requires.seeds) in
    omega (arith, e, c.spread_all.ensures.reads)

pub returns-clause-joined : goal.returns-clause-joined
returns-clause-joined g c =
    let mesh = c.args.step.now.mesh in
    let area = c.args.area.now in
    let starts = c.put_all.new.found.items in
    let found = c.spread_all.new.found.items in
    let seeds = c.args.seeds.now in
    let same = c.in_ok-put_all.ensures.same in
    sorted_list (JoinedToOne mesh area seeds) found c.of.result c.spread_all.new.marks c.in_ok-spread_all.ensures.tally
    (subst (IsPermutation found) (sym c.of.ensures) c.sort_unstable.ensures.permutation)
    (subst IsNonDecreasing (sym c.of.ensures) (IsNonDecreasingBy-from_sort (λ (x : ℕ). x) c.sort_unstable.new.self.items c.sort_unstable.ensures.sorted))
    (λ w j. c.in_ok-spread_all.ensures.every w (more_seeds mesh area seeds starts w (λ s. (same s).1) j))
    (λ w m. more_seeds mesh area starts seeds w (λ s. (same s).0) (c.in_ok-spread_all.ensures.only w m))

pub returns-clause-list : goal.returns-clause-list
returns-clause-list g c =
    same_list_of (JoinedToOne c.args.step.now.mesh c.args.area.now c.args.seeds.now) c.of.result (joined_to c.args.step.now.mesh c.args.area.now c.args.seeds.now)
    (returns-clause-joined g c) (joined_is c.args.step.now.mesh c.args.area.now c.args.seeds.now c.requires.seeds)

pub returns-clause-reads : goal.returns-clause-reads
returns-clause-reads g c =
    let e = ap (degrees c.args.step.now.mesh c.args.area.now) (same_joined c.args.step.now.mesh c.args.area.now c.put_all.new.found.items c.args.seeds.now c.in_ok-put_all.ensures.same c.requires.seeds) in
    omega (arith, e, c.spread_all.ensures.reads)
