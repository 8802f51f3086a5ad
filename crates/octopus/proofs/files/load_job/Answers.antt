use Rattle.std.proofs.Common.{◌≡◌, ◌∙◌, subst, arith}
use Rattle.std.specs.Prelude.{IfSome}
use Rattle.oct_edge.specs.Causes.{Rose}
use Rattle.octopus.specs.declared.status.Status.TheVariants.{ReadFault, TooLong}
use Rattle.octopus.specs.Failures.{RisesOnce, EndsAs}
use Rattle.octopus.specs.Refusals.{status_of_refusal}
use Rattle.octopus.specs.Outcomes.{status_of, IfRefused}
use Rattle.octopus.specs.Opened.{limit_of, IsReadPast}
use Rattle.octopus.proofs.Known.{kept-by_ok}
use Rattle.octopus.proofs.OpenLaws.{both_opened, job-told}
use Rattle.octopus.proofs.files.load_job.Goals as goal

pub returns : goal.returns
returns g c =
    let first = c.in_ok-mesh.ensures.reads in
    let second = c.load_on.ensures.reads in
    let kept = kept-by_ok _ _ first.ends in
    record {
      reads = record {
        told = job-told (g.F.Folder.files c.args.folder.now) _ c.args.mesh.now c.args.script.now c.in_ok-mesh.mesh c.load_on.result first.same first.told second.told;
        same = second.same ∙ first.same;
        later = omega (arith, first.later, second.later);
        cause = λ is. subst (λ n. Rose n (g.F.Folder.faults c.load_on.new.folder)) kept (second.cause is);
        once = subst (λ n. RisesOnce n (g.F.Folder.faults c.load_on.new.folder)) kept second.once;
        ends = subst (λ n. EndsAs ReadFault (status_of c.load_on.result) n (g.F.Folder.faults c.load_on.new.folder)) kept second.ends;
        opens = both_opened (g.F.Folder.files c.args.folder.now) c.args.mesh.now c.in_ok-mesh.mesh _ _ _ first.told first.opens second.opens;
        read_whole = second.read_whole;
        past = subst (λ told. IfRefused c.load_on.result (λ why. status_of_refusal why ≡ TooLong → IfSome told (λ fs. IsReadPast (limit_of why) fs (g.F.Folder.rest c.load_on.new.folder)))) first.same second.past;
      };
      form = c.load_on.ensures.form;
      whole = c.load_on.ensures.whole;
    }
