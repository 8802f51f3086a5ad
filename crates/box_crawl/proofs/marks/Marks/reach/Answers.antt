use Rattle.std.proofs.Common.{◌≡◌, ◌≤◌, ◌-◌, replicate, length, vec_len, arith}
use Rattle.box_crawl.proofs.MarkLemmas.{resized}
use Rattle.box_crawl.proofs.marks.Marks.reach.Goals as goal

pub returns-in_ok-resize-clause-kept : goal.returns-in_ok-resize-clause-kept
returns-in_ok-resize-clause-kept c =
    let xs = c.self.inside.numbers in
    let n = c.args.points in
    let e : vec_len xs ≡ length xs.items = omega arith in
    let le : length xs.items ≤ n = omega arith in
    rw (← c.self.view_is) (resized c.self.inside.round n xs.items c.resize.new.self.items (replicate (n - vec_len xs) 0) le c.in_ok-resize.ensures.items)
