use Rattle.std.proofs.Common.{◌≡◌, length, vec_len, subst, arith}
use Rattle.std.proofs.lemmas.Bool.{false≢true}
use Rattle.face_table.specs.Tally.{IsBelow}
use Rattle.face_table.proofs.BuildLemmas.{face_within, last_on}
use Rattle.face_table.proofs.Within.{below_all}
use Rattle.face_table.proofs.table.FaceTable.build.Goals as goal

pub list_singles-requires : goal.list_singles-requires
list_singles-requires c = record { within = λ f lt. let t = c.in_ok-counts.ensures.tally f in face_within c.args.points c.args.cells.now f f.2 c.requires.within (omega arith) (last_on f) }

pub invariant_of-result : goal.invariant_of-result
invariant_of-result c =
    let len : vec_len c.in_ok-singles.singles ≡ length c.in_ok-singles.singles.items = omega arith in (
      record {
        exact = c.in_ok-singles.ensures.singles;
        within = λ f v lt on.
            let p = below_all c.args.points c.args.cells.now c.in_ok-counts.counts.entries c.requires.within c.in_ok-counts.ensures.tally f v lt on in
            omega (arith, c.in_ok-singles.ensures.len);
        below = subst (λ n. IsBelow n c.in_ok-surface.surface) len c.in_ok-surface.ensures.below;
        all = c.in_ok-surface.ensures.all;
      },
      λ e. absurd (false≢true e),
    )
