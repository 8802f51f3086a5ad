use Rattle.std.proofs.Common.{◌≡◌, ◌↔◌, ◌<◌, length, get_or, MatchResult, IsTrue, Contains, sym, subst}
use Rattle.mesh_base.specs.Numbers.{IsPlaceOf}
use Rattle.hop_rings.proofs.Trails.{found_place}
use Rattle.hop_rings.proofs.trail.has.Goals as goal

pub returns : goal.returns
returns c =
    let xs = c.args.ring.now.vertices in
    let h = subst (λ l. MatchResult c.place_of.result (λ i. (i < length l) × (get_or l i 0 ≡ c.args.v)) (IsPlaceOf c.args.v l)) c.items.ensures c.place_of.ensures in
    subst (λ b. IsTrue b ↔ Contains xs c.args.v) (sym c.is_ok.ensures.value) (found_place c.place_of.result xs c.args.v h)
