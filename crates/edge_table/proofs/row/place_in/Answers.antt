use Rattle.std.proofs.Common.{subst, length, ◌<◌, ◌≡◌, get_or}
use Rattle.std.specs.Result.{MatchResult}
use Rattle.mesh_base.specs.Numbers.{IsPlaceOf}
use Rattle.edge_table.proofs.row.place_in.Goals as goal

pub returns : goal.returns
returns c = subst (λ xs. MatchResult c.place_of.result (λ i. (i < length xs) × (get_or xs i 0 ≡ c.args.w)) (IsPlaceOf c.args.w xs)) c.as_slice.ensures c.place_of.ensures
