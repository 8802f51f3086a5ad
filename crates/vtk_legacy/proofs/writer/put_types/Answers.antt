use Rattle.std.proofs.Common.{◌≡◌, ◌∙◌, ◌++◌, ◌∷◌, [], ap, arith, append_assoc}
use Rattle.std.specs.Prelude.{codes, decimal}
use Rattle.std.specs.List.{repeat}
use Rattle.vtk_legacy.specs.Written.{line}
use Rattle.vtk_legacy.proofs.WrittenLists.{one_more}
use Rattle.vtk_legacy.proofs.writer.put_types.Goals as goal

pub loop-preserved : goal.loop-preserved
loop-preserved c = one_more c.loop.out.items c.extend_from_slice-in-loop.new.self.items _ _ c.loop.counter c.loop.invariant c.in_ok-extend_from_slice-2.ensures.items

pub returns-clause-ok : goal.returns-clause-ok
returns-clause-ok c =
    let i : c.loop.counter ≡ c.args.live = omega arith in
    c.loop.invariant ∙ ap (λ n. (c.args.out.now.items ++ line (codes "CELL_TYPES" ∷ decimal c.args.live ∷ [])) ++ repeat n (line (codes "10" ∷ []))) i
    ∙ append_assoc c.args.out.now.items (line (codes "CELL_TYPES" ∷ decimal c.args.live ∷ [])) (repeat c.args.live (line (codes "10" ∷ [])))
