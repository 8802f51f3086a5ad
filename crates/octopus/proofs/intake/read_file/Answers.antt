use Rattle.std.proofs.Common.{◌≡◌, ◌∙◌, inl, inr, sym, subst, arith}
use Rattle.octopus.specs.declared.status.Status.TheVariants.{ReadFault, TooLong}
use Rattle.octopus.specs.Written.{IsBadText}
use Rattle.octopus.proofs.Known.{told-past, told-read-past, kept-by_ok, opened_once}
use Rattle.octopus.proofs.intake.read_file.Goals as goal

pub returns-clause-reads : goal.returns-clause-reads
returns-clause-reads g c =
    let kept = kept-by_ok _ _ c.in_ok-feed_file.ensures.ends ∙ c.in_ok-select.ensures.cause.kept in
    record {
      told = told-past _ c.in_ok-select.field-0 g.I.Intake.holds (g.F.Folder.files c.args.folder.now) c.args.name.now _ _ _ c.args.limit _ c.args.too_long c.in_ok-select.ensures.selected c.if-branch.false c.in_ok-feed_file.ensures.fed;
      same = c.in_ok-feed_file.ensures.files ∙ c.in_ok-select.ensures.files;
      later = omega (arith, c.in_ok-feed_file.ensures.later, c.in_ok-select.ensures.cause.later);
      cause = λ is. absurd (is-not (sym c.requires.long ∙ is));
      once = inl kept;
      ends = inr kept;
      opens = opened_once _ _ (c.in_ok-feed_file.ensures.opened ∙ c.in_ok-select.ensures.opened);
      read_whole = λ bad. absurd (subst IsBadText c.requires.long bad);
      past = λ _. rw c.requires.limit (told-read-past _ c.in_ok-select.field-0 g.I.Intake.holds (g.F.Folder.files c.args.folder.now) c.args.name.now _ _ _ c.args.limit _ c.in_ok-select.ensures.selected c.if-branch.false c.in_ok-feed_file.ensures.fed);
    }
  where
    is-not : TooLong ≡ ReadFault → ⊥
    is-not e = cc
