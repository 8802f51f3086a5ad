use Rattle.std.proofs.Common.{◌≡◌, arith, inl, inr}
use Rattle.oct_text.proofs.ScanLemmas.{ten_more, ten_zero, ten_big, ten_none}
use Rattle.oct_text.proofs.times.times_ten.Goals as goal

pub loop-i-init : goal.loop-i-init
loop-i-init c = ((λ n h. ten_none n c.args.value h), c.requires)

pub returns-then-more-eq0 : goal.returns-then-more-eq0
returns-then-more-eq0 c n h =
    let now = c.loop-i.invariant.0 n h in
    elim c.then-more-eq0.either [
      | inl e ↦ rw e (ten_zero n c.loop-i._i c.args.count (rw e at now))
      | inr e ↦ ten_big n c.loop-i._i c.args.count c.loop-i.more (omega arith) (omega (arith, e.1)) now
    ]

pub loop-i-preserved : goal.loop-i-preserved
loop-i-preserved c = ((λ n h. ten_more n c.loop-i._i c.loop-i.more (omega arith) (c.loop-i.invariant.0 n h)), omega arith)

pub returns : goal.returns
returns c n h = let all : c.loop-i._i ≡ c.args.count = omega arith in rw (← all) (c.loop-i.invariant.0 n h)
