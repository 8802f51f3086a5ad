use Rattle.std.proofs.Common.{refl}
use Rattle.std.specs.Prelude.{slice_index}
use Rattle.box_watch.proofs.Steps.{has-first, first-here, passed-next, kept-next}
use Rattle.box_watch.proofs.difference.difference.Goals as goal

pub loop-number-preserved : goal.loop-number-preserved
loop-number-preserved c =
    let xs = c.args.numbers.now in let ys = c.args.others.now in let i = c.loop-number.number-index in let q = c.first_from-place.result in let inv = c.loop-number.invariant in
    let found = c.first_from-place.ensures in
    let first = first-here xs ys i c.loop-number.place q (slice_index xs i) c.loop-number-test.true refl inv.passed found.within found.below found.found in
    record {
      kept = kept-next xs ys i (slice_index xs i) c.is_at.result c.loop-number.kept.items c.push_unless.new.kept.items c.loop-number-test.true refl
          (has-first ys q (slice_index xs i) c.is_at.result c.requires.others first c.is_at.ensures) inv.kept c.in_ok-push_unless.ensures;
      within = found.within;
      passed = passed-next xs ys i q (slice_index xs i) c.loop-number-test.true refl c.requires.numbers first;
    }
