use Rattle.std.proofs.Common.{sym, ap, ◌∙◌, arith, ◌≡◌, ◌<◌, ◌≤◌, ◌+◌, ◌++◌, ◌∷◌, [], length, true, Bool, List}
use Rattle.std.specs.Option.{is_some}
use Rattle.std.proofs.lemmas.List.{length-map}
use Rattle.mesh_base.specs.Edit.{cell_at}
use Rattle.run_script.proofs.CheckLemmas.{split, split-none}
use Rattle.run_script.proofs.check.Tally.take_split.Goals as goal

pub returns : goal.returns
returns c = λ mesh m.
    let live : is_some (cell_at mesh.cells c.args.cell) ≡ true = sym (c.is_live.ensures mesh m) ∙ c.if-not-is_live.false in
    let count = ap (λ (l : List Bool). length l) m.live ∙ length-map mesh.cells is_some in
    let points : length mesh.points < 1000000 = omega (arith, m.points) in
    let cells : length mesh.cells ≤ 3999996 = omega (arith, count) in (
      split-none mesh c.args.cell c.args.at live points cells,
      split mesh _ _ c.args.cell c.args.at m live (ap (λ n. n + 1) c.remove.ensures.points) (c.in_ok-extend_from_slice.ensures.items ∙ ap (λ (l : List Bool). l ++ (true ∷ true ∷ true ∷ true ∷ [])) c.remove.ensures.live),
    )
