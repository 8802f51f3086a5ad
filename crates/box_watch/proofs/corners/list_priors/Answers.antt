use Rattle.std.proofs.Common.{◌≡◌, ◌<◌, length, ap, ◌∙◌, rules}
use Rattle.std.specs.HashMap.{get}
use Rattle.step_registry.specs.Runs.{no_area}
use Rattle.box_watch.specs.Corners.{corners_of, same_corners}
use Rattle.box_watch.specs.Priors.{box_at}
use Rattle.box_watch.proofs.Places.{read-any}
use Rattle.box_watch.proofs.Lasts.{noted-next, priors-next}
use Rattle.box_watch.proofs.corners.list_priors.Goals as goal

pub loop-number-preserved : goal.loop-number-preserved
loop-number-preserved c =
    let boxes = c.args.boxes.now in let n = c.loop-number.number in
    let lt : n < length boxes = search rules in
    let is : c.corners_at.result ≡ corners_of (box_at boxes n) =
    c.corners_at.ensures ∙ ap corners_of (c.index-boxes-number.is ∙ read-any boxes n c.index-boxes-number.result no_area lt) in
    record {
      noted = noted-next boxes n c.corners_at.result (λ k. get same_corners c.loop-number.last k) (λ k. get same_corners c.insert.new.self k) is c.loop-number.invariant.noted (λ k. c.in_ok-prior.ensures.updates.0 k);
      listed = priors-next boxes n c.corners_at.result (λ k. get same_corners c.loop-number.last k) c.in_ok-prior.prior c.loop-number.priors.items c.push.new.self.items is c.loop-number.invariant.noted
          c.in_ok-prior.ensures.old c.loop-number.invariant.listed c.in_ok-push.ensures.items;
    }
