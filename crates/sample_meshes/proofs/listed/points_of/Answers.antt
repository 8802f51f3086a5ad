use Rattle.std.proofs.Common.{ℤ, List, ◌++◌, ◌∷◌, [], ap, sym, ◌∙◌, map, take, get_or, arith}
use Rattle.std.proofs.lemmas.List.{take_more, map_more}
use Rattle.std.proofs.lemmas.List.Elements.{All-push, All-same}
use Rattle.mesh_base.specs.Place.{IsPlace}
use Rattle.sample_meshes.specs.Listed.{place_of}
use Rattle.sample_meshes.proofs.listed.points_of.Goals as goal

pub loop-at-preserved : goal.loop-at-preserved
loop-at-preserved c =
    let places = c.args.places.now in
    let i = c.loop-at.at-index in
    let P : List ℤ → Type 0 = λ at. IsPlace (place_of at) in (
      c.in_ok-push-in-Some.ensures.items ∙ ap (λ ps. ps ++ c.in-Some.point ∷ []) c.loop-at.invariant.0
          ∙ ap (λ x. map place_of (take i places) ++ x ∷ []) c.in-Some.ensures.1 ∙ sym (map_more place_of places i [] (omega (arith, c.loop-at-test.true))),
      All-same P _ _ (take_more places i [] (omega (arith, c.loop-at-test.true))) (All-push P (take i places) (get_or places i []) c.loop-at.invariant.1 c.in-Some.ensures.0),
    )
