use Rattle.std.proofs.Common.{◌≡◌, ◌<◌, length, get_or, MatchResult, Contains, sym, ap, subst, arith}
use Rattle.mesh_base.specs.Numbers.{IsPlaceOf}
use Rattle.hop_rings.proofs.Trails.{found_place}
use Rattle.hop_rings.proofs.trail.source_in.Goals as goal

pub unwrap-k-requires : goal.unwrap-k-requires
unwrap-k-requires c = (found_place c.place_of.result c.items.result.now c.args.v c.place_of.ensures).1 (subst (λ l. Contains l c.args.v) (sym c.items.ensures) c.requires.member)

pub bounds-sources-k : goal.bounds-sources-k
bounds-sources-k c =
    let xs = c.items.result.now in
    let at : (c.unwrap-k.result < length xs) × (get_or xs c.unwrap-k.result 0 ≡ c.args.v) = subst (λ r. MatchResult r (λ i. (i < length xs) × (get_or xs i 0 ≡ c.args.v)) (IsPlaceOf c.args.v xs)) c.unwrap-k.ensures c.place_of.ensures in
    let l = ap length c.items.ensures in
    let m = ap length c.items-sources.ensures in
    omega (arith, l, m, at.0, c.requires.sources)

pub returns : goal.returns
returns c =
    let xs = c.items.result.now in
    let k = c.unwrap-k.result in
    let at : (k < length xs) × (get_or xs k 0 ≡ c.args.v) = subst (λ r. MatchResult r (λ i. (i < length xs) × (get_or xs i 0 ≡ c.args.v)) (IsPlaceOf c.args.v xs)) c.unwrap-k.ensures c.place_of.ensures in
    record {
      place = k;
      within = subst (λ l. k < length l) c.items.ensures at.0;
      vertex = subst (λ l. get_or l k 0 ≡ c.args.v) c.items.ensures at.1;
      source = ap (λ l. get_or l k 0) (sym c.items-sources.ensures);
    }
