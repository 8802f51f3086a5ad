use Rattle.std.proofs.Common.{Contains, sym, subst, ◌∙◌, arith, below_more}
use Rattle.std.proofs.lemmas.Bool.{false≢true}
use Rattle.hop_rings.proofs.RingLists.{ring_is, ring_read}
use Rattle.hop_rings.proofs.trail.ring_of.Goals as goal

pub has-requires : goal.has-requires
has-requires c = (ring_is c.requires.rings.mesh c.requires.rings.inside c.args.rings.now c.loop-n.n c.index-rings-n.result c.requires.rings.are c.loop-n-test.true c.index-rings-n.is).vertices.ascending

pub returns-then-has : goal.returns-then-has
returns-then-has c = record {
  within = c.loop-n-test.true;
  member = subst (λ r. Contains r.vertices c.args.v) (sym (ring_read c.args.rings.now c.loop-n.n c.index-rings-n.result c.loop-n-test.true c.index-rings-n.is)) (c.has.ensures.0 c.if-has.true);
}

pub loop-n-preserved : goal.loop-n-preserved
loop-n-preserved c =
    below_more _ _ c.loop-n.invariant
    (λ h. absurd (false≢true (sym c.if-has.false ∙ c.has.ensures.1 (subst (λ r. Contains r.vertices c.args.v) (ring_read c.args.rings.now c.loop-n.n c.index-rings-n.result c.loop-n-test.true c.index-rings-n.is) h.member))))

pub returns : goal.returns
returns c n h = let w = h.within in c.loop-n.invariant n (omega arith) h
