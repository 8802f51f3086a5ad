use Rattle.std.proofs.Common.{◌≡◌, All, map, take}
use Rattle.mesh_base.specs.Place.{IsPlace}
use Rattle.sample_meshes.specs.Listed.{place_of}
use Rattle.sample_meshes.proofs.listed.points_of.Given as goal

abbrev pub invariant-loop-at : goal.invariant-loop-at
invariant-loop-at l =
    (l.points.items ≡ map place_of (take l.at-index l.places)) × All (λ at. IsPlace (place_of at)) (take l.at-index l.places)
