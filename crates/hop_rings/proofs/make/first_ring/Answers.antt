use Rattle.std.proofs.Common.{sym, subst, ◌∙◌}
use Rattle.mesh_base.specs.Numbers.{IsListOf}
use Rattle.hop_rings.specs.Paths.{IsLevel}
use Rattle.hop_rings.proofs.PathLaws.{first_level}
use Rattle.hop_rings.proofs.make.first_ring.Goals as goal

pub returns : goal.returns
returns c =
    let mesh = c.args.step.now.mesh in
    let vs = c.args.inside.now in
    record {
      vertices = subst (IsListOf (IsLevel mesh vs 0)) (sym (c.of.ensures ∙ c.in_ok-to_vec.ensures.items_if_clones_equal (λ x y q. q))) (first_level mesh vs c.requires.ascending);
      sources = c.of-2.ensures ∙ c.new.ensures.items;
    }
