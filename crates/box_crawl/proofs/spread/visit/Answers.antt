use Rattle.std.proofs.Common.{◌≡◌, ◌<◌, length, get_or, take, Contains, sym, subst, arith}
use Rattle.std.proofs.lemmas.List.{take_all}
use Rattle.box_crawl.specs.Marked.{is_marked}
use Rattle.box_crawl.proofs.Paths.{near_item, done_more, more_push}
use Rattle.box_crawl.proofs.spread.visit.Goals as goal

pub look-requires-clause-point : goal.look-requires-clause-point
look-requires-clause-point g c =
    let near = c.neighbours-w-items.result.now in
    let lt : c.loop-w.w-index < length near = omega arith in
    (near_item c.args.step.now.mesh c.args.area.now c.args.v c.loop-w.w-index near c.neighbours-w-items.ensures lt).1

pub loop-w-preserved : goal.loop-w-preserved
loop-w-preserved g c =
    let near = c.neighbours-w-items.result.now in
    let i = c.loop-w.w-index in
    let lt : i < length near = omega arith in
    let mesh = c.args.step.now.mesh in
    let area = c.args.area.now in
    let n = near_item mesh area c.args.v i near c.neighbours-w-items.ensures lt in
    record {
      len = omega (arith, c.look.ensures.len, c.loop-w.invariant.len);
      tally = c.in_ok-look.ensures.tally;
      more = more_push mesh area c.args.v c.args.found.now.items c.loop-w.found.items c.look.new.found.items (get_or near i 0) (is_marked c.loop-w.marks (get_or near i 0))
          c.loop-w.invariant.more n.0 n.1 c.in_ok-look.ensures.items;
      done = done_more mesh area c.args.v i near c.loop-w.found.items c.look.new.found.items c.loop-w.marks c.neighbours-w-items.ensures lt
          c.loop-w.invariant.tally c.in_ok-look.ensures.items c.loop-w.invariant.done;
      reads = omega (arith, c.look.ensures.reads, c.loop-w.invariant.reads);
    }

pub returns-clause-done : goal.returns-clause-done
returns-clause-done g c w m inside =
    let near = c.neighbours-w-items.result.now in
    let e = c.neighbours-w-items.ensures in
    let all : take c.loop-w.w-index near ≡ near = take_all c.loop-w.w-index near (omega arith) in
    c.loop-w.invariant.done w (subst (λ l. Contains (take c.loop-w.w-index l) w) e (subst (λ l. Contains l w) (sym all) (subst (λ l. Contains l w) (sym e) m))) inside
