use Rattle.std.proofs.Common.{◌≡◌, ℕ, ◌<◌, length, get_or, Some, Contains, sym, ap, subst, ◌∙◌, arith}
use Rattle.std.proofs.lemmas.List.Sorted.{Contains-permutation, IsPermutation-sym, IsNonDecreasingBy-from_sort}
use Rattle.std.specs.List.Sorted.{IsNonDecreasing, IsPermutation}
use Rattle.hop_rings.specs.Reached.{from_at}
use Rattle.hop_rings.proofs.Spreading.{found_point, found_reached, near_next, ring_next}
use Rattle.hop_rings.proofs.spread.next_ring.Goals as goal

pub sources_of-requires-clause-points : goal.sources_of-requires-clause-points
sources_of-requires-clause-points c v m =
    let found = c.visit_all.new.found.items in
    let sorted = c.sort_unstable.new.self.items in
    let member = Contains-permutation sorted found v (IsPermutation-sym found sorted c.sort_unstable.ensures.permutation) (subst (λ l. Contains l v) c.deref.ensures.value m) in
    let p = found_point c.args.step.now.mesh c.args.ring.now c.args.from.now c.visit_all.new.from found c.in_ok-visit_all.ensures v member in
    omega (arith, p, c.visit_all.auto.from)

pub sources_of-requires-clause-reached : goal.sources_of-requires-clause-reached
sources_of-requires-clause-reached c v m =
    let found = c.visit_all.new.found.items in
    let sorted = c.sort_unstable.new.self.items in
    let member = Contains-permutation sorted found v (IsPermutation-sym found sorted c.sort_unstable.ensures.permutation) (subst (λ l. Contains l v) c.deref.ensures.value m) in
    found_reached c.args.step.now.mesh c.args.ring.now c.args.from.now c.visit_all.new.from found c.in_ok-visit_all.ensures v member

pub returns-clause-ring : goal.returns-clause-ring
returns-clause-ring c vs n level near =
    let after = c.visit_all.new.from in
    let found = c.visit_all.new.found.items in
    let sorted = c.sort_unstable.new.self.items in
    let vertices = c.deref.ensures.value ∙ sym c.of.ensures in
    ring_next c.args.step.now.mesh vs n c.args.ring.now c.args.from.now after found level near c.in_ok-visit_all.ensures
    (record { vertices = c.of.result; sources = c.of-2.result }) c.requires.ring
    (subst (IsPermutation found) (sym c.of.ensures) c.sort_unstable.ensures.permutation)
    (subst IsNonDecreasing (sym c.of.ensures) (IsNonDecreasingBy-from_sort (λ (x : ℕ). x) sorted c.sort_unstable.ensures.sorted))
    (ap length c.of-2.ensures ∙ c.in_ok-sources.ensures.len ∙ ap length vertices)
    (λ k lt.
    subst (λ l. from_at after (get_or l k 0) ≡ Some (get_or c.of-2.result k 0)) vertices
    (subst (λ l. from_at after (get_or c.deref.result.now k 0) ≡ Some (get_or l k 0)) (sym c.of-2.ensures) (c.in_ok-sources.ensures.sources k (subst (λ l. k < length l) (sym vertices) lt))))

pub returns-clause-near : goal.returns-clause-near
returns-clause-near c vs n level near =
    near_next c.args.step.now.mesh vs n c.args.ring.now c.args.from.now c.visit_all.new.from c.visit_all.new.found.items level near c.in_ok-visit_all.ensures
