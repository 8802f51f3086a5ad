use Rattle.std.proofs.Common.{◌≡◌, ◌+◌, ◌<◌, length, get_or, replicate, Contains, sym, subst, ◌∙◌, rules, arith}
use Rattle.std.proofs.lemmas.List.{get_or_default}
use Rattle.hop_rings.specs.Rings.{HasSource, ring_at}
use Rattle.hop_rings.proofs.RingLists.{ring_is, ring_read, sources_many}
use Rattle.hop_rings.proofs.Trails.{back_begin, back_end, back_more}
use Rattle.hop_rings.proofs.trail.trail_to.Goals as goal

pub loop-n-init : goal.loop-n-init
loop-n-init c =
    let e : c.in_ok-path.path.items ≡ replicate (c.args.level + 1) c.args.v = search rules in
    back_begin c.args.rings.now c.args.level c.args.v c.in_ok-path.path.items c.requires.member e

pub bounds-rings-n : goal.bounds-rings-n
bounds-rings-n c = let w = c.loop-n.invariant.within in let m = c.requires.member.within in omega arith

pub source_in-source-requires : goal.source_in-source-requires
source_in-source-requires c =
    let own = c.requires.rings in
    let n = c.loop-n.n in
    let ring = c.index-rings-n.result in
    let path = c.loop-n.path.items in
    let w = c.loop-n.invariant.within in
    let g = c.loop-n.invariant.long in
    let m = c.requires.member.within in
    let lt : n < length c.args.rings.now = omega arith in
    let is = ring_is own.mesh own.inside c.args.rings.now n ring own.are lt c.index-rings-n.is in
    let at : get_or path n 0 ≡ c.index.result.now = get_or_default path n 0 c.index.result.now (omega arith) ∙ sym c.index.ensures in
    record {
      ascending = is.vertices.ascending;
      sources = sources_many own.mesh own.inside n ring c.loop-n-test.true is;
      member = subst (Contains ring.vertices) at (subst (λ r. Contains r.vertices (get_or path n 0)) (ring_read c.args.rings.now n ring lt c.index-rings-n.is) (c.loop-n.invariant.each n (omega arith) w).member);
    }

pub loop-n-preserved : goal.loop-n-preserved
loop-n-preserved c =
    let own = c.requires.rings in
    let rings = c.args.rings.now in
    let n = c.loop-n.n in
    let ring = c.index-rings-n.result in
    let path = c.loop-n.path.items in
    let s = c.source_in-source.result in
    let w = c.loop-n.invariant.within in
    let g = c.loop-n.invariant.long in
    let m = c.requires.member.within in
    let lt : n < length rings = omega arith in
    let at : get_or path n 0 ≡ c.index.result.now = get_or_default path n 0 c.index.result.now (omega arith) ∙ sym c.index.ensures in
    let here = subst (λ v. HasSource (ring_at rings n) v s) (sym at) (subst (λ r. HasSource r c.index.result.now s) (sym (ring_read rings n ring lt c.index-rings-n.is)) c.source_in-source.ensures) in
    back_more own.mesh own.inside rings c.args.level c.args.v n s path own.are c.loop-n-test.true c.loop-n.invariant here

pub returns : goal.returns
returns c = back_end c.args.rings.now c.args.level c.args.v c.loop-n.n c.loop-n.path.items c.loop-n-test.false c.loop-n.invariant
