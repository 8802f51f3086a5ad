use Rattle.std.proofs.Common.{◌≡◌, ap, sym, ◌∙◌, subst}
use Rattle.std.specs.Prelude.{is_some, unwrap_or}
use Rattle.turn_table.specs.Plays.{HasAll, Settles}
use Rattle.turn_table.proofs.Ends.{comes_out}
use Rattle.turn_table.proofs.turns.Turns.open.Goals as goal

pub unwrap-requires : goal.unwrap-requires
unwrap-requires g c = let all = subst (λ n. HasAll n c.args.first.me.0) (sym c.args.self.counted) c.requires.all in
    let t = comes_out _ _ _ _ _ _ _ c.requires.first.1 c.requires.first.2 all c.close_with-closed.ensures.values.2 c.take-value.ensures.value in ap is_some t.1

pub returns : goal.returns
returns g c = let k = g.T.Kept in let v = c.args.first.me.0 in let all = subst (λ n. HasAll n v) (sym c.args.self.counted) c.requires.all in
    let t = comes_out _ _ _ _ _ _ _ c.requires.first.1 c.requires.first.2 all c.close_with-closed.ensures.values.2 c.take-value.ensures.value in
    let same : t.0 ≡ c.unwrap.result = ap (λ o. unwrap_or o t.0) (sym t.1 ∙ c.unwrap.ensures) in
    subst (λ n. Settles k n v c.unwrap.result) c.args.self.counted (subst (Settles k c.args.self.table.shared.key.seats v) same t.2)
