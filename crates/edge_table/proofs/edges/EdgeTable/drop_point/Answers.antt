use Rattle.std.proofs.Common.{◌≡◌, ◌-◌, ◌∙◌, sym, ap, subst, arith, take, length}
use Rattle.std.proofs.lemmas.List.{length-take-le}
use Rattle.std.proofs.lemmas.List.Elements.{All-take}
use Rattle.edge_table.specs.Pairs.{IsRow, IsPairsOf}
use Rattle.edge_table.specs.Rows.{shown, AreRows}
use Rattle.edge_table.proofs.PairLemmas.{IsPairsOf-take}
use Rattle.edge_table.proofs.TableLemmas.{shown-take, length_shown}
use Rattle.edge_table.proofs.edges.EdgeTable.drop_point.Goals as goal

pub invariant_of-self : goal.invariant_of-self
invariant_of-self c =
    let rows = c.self.inside.rows.items in
    let n = c.len-count.result - 1 in
    subst AreRows (sym (ap shown c.truncate.ensures.items ∙ shown-take n rows)) (All-take (λ r. IsRow r.0 r.1) n (shown rows) c.self.invariant)

pub returns : goal.returns
returns c =
    let rows = c.self.inside.rows.items in
    let n = c.len-count.result - 1 in
    let e : n ≡ length c.args.self.now - 1 = omega (arith, c.len-count.ensures, ap length c.self.view_is, length_shown rows) in
    let is = ap shown c.truncate.ensures.items ∙ shown-take n rows ∙ ap (take n) c.self.view_is ∙ ap (λ k. take k c.args.self.now) e in
    record {
      rows = is;
      points = let s = c.requires.some in omega (arith, ap length is, length-take-le (length c.args.self.now - 1) c.args.self.now (omega arith));
      cells = λ cells none h. subst (IsPairsOf cells) (sym is) (IsPairsOf-take cells c.args.self.now (length c.args.self.now - 1) (omega (arith, c.requires.some)) none h);
    }
