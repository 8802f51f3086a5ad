use Rattle.std.proofs.Common.{◌≡◌, ◌∙◌, ap, replicate, length, vec_len, arith}
use Rattle.box_crawl.proofs.MarkLemmas.{raised, zeroed}
use Rattle.box_crawl.proofs.marks.Marks.clear.Goals as goal

pub returns-then-self : goal.returns-then-self
returns-then-self c =
    let xs = c.self.inside.numbers in
    let e : vec_len xs ≡ length xs.items = omega arith in
    rw (← c.self.view_is) (zeroed c.self.inside.round xs.items c.fill.new.self.items (c.fill.ensures.items (λ y q. q) ∙ ap (λ k. replicate k 0) e))

pub returns-else-self : goal.returns-else-self
returns-else-self c = rw (← c.self.view_is) (raised c.self.inside.round c.self.inside.numbers.items c.self.invariant.past)
