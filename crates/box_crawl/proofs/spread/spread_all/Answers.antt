use Rattle.std.proofs.Common.{◌<◌, length, sym, ap, arith, length-append}
use Rattle.std.proofs.lemmas.List.Sums.{sum_by-take-le}
use Rattle.mesh_base.specs.Mesh.{degree}
use Rattle.mesh_base.proofs.AnswerLaws.{joined_in}
use Rattle.mesh_base.proofs.JoinedLaws.{all_found}
use Rattle.mesh_base.proofs.NumberLaws.{of_scan}
use Rattle.box_crawl.proofs.Paths.{more_keeps, only_more, closed_more, closed_all, reads_more, reads_before, degrees_most}
use Rattle.box_crawl.proofs.spread.spread_all.Goals as goal

pub visit-requires-clause-point : goal.visit-requires-clause-point
visit-requires-clause-point g c =
    let mesh = c.args.step.now.mesh in
    let area = c.args.area.now in
    let v = c.index-v.result.now in
    let lt : c.loop-at.at < length c.loop-at.found.items = omega arith in
    let j = c.loop-at.invariant.only v (c.loop-at.at, lt, sym c.index-v.ensures) in
    (of_scan mesh area v (joined_in mesh area c.args.found.now.items v j)).1

pub returns-in_err-visit-clause-reads : goal.returns-in_err-visit-clause-reads
returns-in_err-visit-clause-reads g c =
    let lt : c.loop-at.at < length c.loop-at.found.items = omega arith in
    let r = reads_before c.args.step.now.mesh c.args.area.now c.args.found.now.items c.loop-at.found.items c.loop-at.marks c.loop-at.at c.index-v.result.now lt c.index-v.ensures
    c.loop-at.invariant.tally c.loop-at.invariant.only c.requires.inside in
    omega (arith, r, c.visit.ensures.reads, c.loop-at.invariant.reads)

pub loop-at-preserved : goal.loop-at-preserved
loop-at-preserved g c =
    let mesh = c.args.step.now.mesh in
    let area = c.args.area.now in
    let v = c.index-v.result.now in
    let xs = c.loop-at.found.items in
    let ys = c.visit.new.found.items in
    let lt : c.loop-at.at < length xs = omega arith in
    let more = c.in_ok-visit.ensures.more in
    let e = reads_more mesh area xs ys c.loop-at.at v lt c.index-v.ensures more in
    let l = ap length more.is in
    record {
      len = omega (arith, c.visit.ensures.len, c.loop-at.invariant.len);
      tally = c.in_ok-visit.ensures.tally;
      within = omega (arith, l, length-append xs more.more);
      starts = λ w m. more_keeps mesh area v xs ys w more (c.loop-at.invariant.starts w m);
      only = only_more mesh area c.args.found.now.items xs ys v (c.loop-at.at, lt, sym c.index-v.ensures) more c.loop-at.invariant.only;
      closed = closed_more mesh area xs ys c.loop-at.at v lt c.index-v.ensures more c.in_ok-visit.ensures.done c.loop-at.invariant.closed;
      reads = omega (arith, e, c.visit.ensures.reads, c.loop-at.invariant.reads);
    }

pub returns-clause-every : goal.returns-clause-every
returns-clause-every g c =
    let mesh = c.args.step.now.mesh in
    let area = c.args.area.now in
    let xs = c.loop-at.found.items in
    all_found mesh area c.args.found.now.items xs c.loop-at.invariant.starts (closed_all mesh area xs c.loop-at.at (omega arith) c.loop-at.invariant.closed)

pub returns-clause-reads : goal.returns-clause-reads
returns-clause-reads g c =
    let mesh = c.args.step.now.mesh in
    let area = c.args.area.now in
    let xs = c.loop-at.found.items in
    let a = degrees_most mesh area c.args.found.now.items xs c.loop-at.marks c.loop-at.invariant.tally c.loop-at.invariant.only c.requires.inside in
    omega (arith, a, sum_by-take-le (degree mesh) xs c.loop-at.at, c.loop-at.invariant.reads)
