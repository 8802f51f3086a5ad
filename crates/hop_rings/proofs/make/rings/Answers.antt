use Rattle.std.proofs.Common.{◌≡◌, ℕ, suc, ◌+◌, ◌++◌, ◌∷◌, [], List, length, take, drop, Option, Contains, sym, ap, subst, ◌∙◌, arith, length-append, append-nil}
use Rattle.std.proofs.lemmas.List.{take_all, drop_all}
use Rattle.mesh_base.specs.Numbers.{IsListOf}
use Rattle.hop_rings.specs.Paths.{IsLevel}
use Rattle.hop_rings.specs.Reached.{AreNear}
use Rattle.hop_rings.specs.Rings.{AreRings}
use Rattle.hop_rings.proofs.RingLists.{ring_is, ring_points, rings_one, rings_push}
use Rattle.hop_rings.proofs.make.rings.Goals as goal

-- a slice that was lent, and is back
back : (n : ℕ) (new old : List (Option ℕ)) → n ≡ length old → length new ≡ length old → take n (new ++ drop (length new) old) ≡ new
back n new old e len =
    ap (λ l. take n (new ++ l)) (drop_all (length new) old (omega arith)) ∙ ap (take n) (append-nil new) ∙ take_all n new (omega arith)

pub loop-n-init : goal.loop-n-init
loop-n-init c =
    let mesh = c.args.step.now.mesh in
    let first = c.in_ok-first_ring.field-0 in
    let e : c.push.new.self.items ≡ first ∷ [] = c.in_ok-push.ensures.items ∙ ap (λ l. l ++ first ∷ []) c.in_ok-rings.ensures.items in
    record {
      len = ap length e;
      rings = subst (AreRings mesh c.args.inside.now) (sym e) (rings_one mesh c.args.inside.now first c.in_ok-first_ring.ensures);
      near = c.in_ok-from.ensures.near;
    }

pub next_ring-requires-clause-ring : goal.next_ring-requires-clause-ring
next_ring-requires-clause-ring c u m =
    let mesh = c.args.step.now.mesh in
    let vs = c.args.inside.now in
    let n = c.loop-n.n in
    let len = c.loop-n.invariant.len in
    let is = ring_is mesh vs c.loop-n.rings.items n c.index-last.result.now c.loop-n.invariant.rings (omega arith) c.index-last.ensures in
    ring_points mesh vs n c.index-last.result.now c.requires.vertices is u (subst (λ l. Contains l u) c.items.ensures m)

pub next_ring-requires-clause-points : goal.next_ring-requires-clause-points
next_ring-requires-clause-points c = ap length c.deref_mut.ensures.value ∙ c.loop-n.invariant.near.len

pub loop-n-preserved : goal.loop-n-preserved
loop-n-preserved c =
    let mesh = c.args.step.now.mesh in
    let vs = c.args.inside.now in
    let n = c.loop-n.n in
    let len = c.loop-n.invariant.len in
    let is = ring_is mesh vs c.loop-n.rings.items n c.index-last.result.now c.loop-n.invariant.rings (omega arith) c.index-last.ensures in
    let level = subst (IsListOf (IsLevel mesh vs n)) (sym c.items.ensures) is.vertices in
    let near = subst (AreNear mesh vs n) (sym c.deref_mut.ensures.value) c.loop-n.invariant.near in
    let old = c.loop-n.from.items in
    let new = c.next_ring.new.from in
    let returned = back c.loop-n.from.len new old (omega arith) (c.next_ring.auto.from ∙ ap length c.deref_mut.ensures.value) in
    let plus : suc n ≡ n + 1 = omega arith in
    let e = c.in_ok-push-2.ensures.items in
    record {
      len = ap length e ∙ omega (arith, len, length-append c.loop-n.rings.items (c.in_ok-ring.ring ∷ []));
      rings = subst (AreRings mesh vs) (sym e) (rings_push mesh vs c.loop-n.rings.items c.in_ok-ring.ring (suc n) (omega arith) c.loop-n.invariant.rings (c.in_ok-ring.ensures.ring vs n level near));
      near = subst (AreNear mesh vs (n + 1)) (sym returned) (subst (λ k. AreNear mesh vs k new) plus (c.in_ok-ring.ensures.near vs n level near));
    }

pub returns-clause-one : goal.returns-clause-one
returns-clause-one c = record {
  mesh = c.args.step.now.mesh;
  inside = c.args.inside.now;
  are = subst (AreRings c.args.step.now.mesh c.args.inside.now) (sym c.of.ensures) c.loop-n.invariant.rings;
}
