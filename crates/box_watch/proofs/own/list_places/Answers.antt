use Rattle.std.proofs.Common.{◌<◌, length, rules}
use Rattle.box_watch.proofs.Places.{places-more}
use Rattle.box_watch.proofs.own.list_places.Goals as goal

pub loop-place-preserved : goal.loop-place-preserved
loop-place-preserved c =
    let lt : c.loop-place.place < length c.args.answers.now = search rules in
    places-more c.args.session c.args.answers.now c.loop-place.place c.index-answers-place.result c.loop-place.places.items c.push_if_own.new.places.items lt c.index-answers-place.is
    c.loop-place.invariant c.in_ok-push_if_own.ensures
