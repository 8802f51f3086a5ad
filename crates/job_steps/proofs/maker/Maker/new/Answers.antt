use Rattle.std.proofs.Common.{◌∙◌, ap, subst, arith}
use Rattle.std.specs.Arc.{arc_value}
use Rattle.run_script.specs.Jobs.{IsJob}
use Rattle.job_steps.proofs.Played.{first_is}
use Rattle.job_steps.proofs.maker.Maker.new.Goals as goal

pub invariant_of-result : goal.invariant_of-result
invariant_of-result c =
    let mesh = c.shared_mesh.ensures.mesh ∙ ap (λ j. j.mesh) c.deref.ensures in
    let first = first_is (arc_value c.args.job) (arc_value c.shared_mesh.result.now) c.in_ok-topo.topo (arc_value c.in_ok-topo.places) mesh c.in_ok-topo.ensures.topology c.in_ok-topo.ensures.places in
    record {
      job = subst IsJob c.deref.ensures c.shared_mesh.ensures.valid;
      few = omega arith;
      now = λ kept. first;
      in_range = c.in_ok-topo.ensures.in_range;
    }
