use Rattle.std.proofs.Common.{◌+◌, ◌∙◌, ap, ◌++◌, length, arith}
use Rattle.std.proofs.lemmas.List.{length-append}
use Rattle.std.proofs.lemmas.Result.{on_ok_weaker}
use Rattle.oct_text.specs.Rest.{Rest}
use Rattle.vtk_legacy.specs.Reader.{HasRead, fault_of, fed_len}
use Rattle.vtk_legacy.proofs.Feeding.{grows, text_by, fails_after, decides_after}
use Rattle.vtk_legacy.proofs.reader.MeshReader.feed_on.Goals as goal

pub invariant_of-self-2 : goal.invariant_of-self-2
invariant_of-self-2 c = record { unended = (text_by _ _ _ _ _ _ _ c.run.ensures).ended ∙ ap (λ (r : Rest). r.ended) c.in_ok-feed.ensures.ok ∙ c.args.self.now.unended }

pub returns-clause-read : goal.returns-clause-read
unfolding HasRead fault_of
returns-clause-read c fed h =
    let before = rw c.requires.good at h in
    fails_after (fed ++ c.args.piece.now) _ _ _ _ _ _ _ (ap (λ (r : Rest). r.ended) c.in_ok-feed.ensures.ok ∙ c.args.self.now.unended)
    (grows fed c.args.piece.now _ _ _ _ c.in_ok-feed.ensures.ok before) c.run.ensures

pub returns-clause-ok : goal.returns-clause-ok
unfolding HasRead fault_of
returns-clause-ok c =
    on_ok_weaker c.run.result (λ k fed h. let before = rw c.requires.good at h in rw c.requires.good (k (fed ++ c.args.piece.now) (grows fed c.args.piece.now _ _ _ _ c.in_ok-feed.ensures.ok before)))
    (decides_after _ _ _ _ _ _ _ (ap (λ (r : Rest). r.ended) c.in_ok-feed.ensures.ok ∙ c.args.self.now.unended) c.run.ensures)

pub returns-clause-len : goal.returns-clause-len
unfolding fed_len
returns-clause-len c =
    omega (arith, (text_by _ _ _ _ _ _ _ c.run.ensures).end, ap (λ (r : Rest). r.place + length r.bytes) c.in_ok-feed.ensures.ok, length-append c.args.self.now.tokens.bytes c.args.piece.now)
