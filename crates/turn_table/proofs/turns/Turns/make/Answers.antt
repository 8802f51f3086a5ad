use Rattle.std.proofs.Common.{rules, ◌≡◌, ap, sym, subst, [], ◌∷◌, Some}
use Rattle.atomic_table.specs.Table.{opening}
use Rattle.turn_table.specs.Rule.{InTurn}
use Rattle.turn_table.specs.Views.{fresh}
use Rattle.turn_table.proofs.Ends.{opens}
use Rattle.turn_table.proofs.turns.Turns.make.Goals as goal

pub new-requires : goal.new-requires
new-requires g c = let k = g.T.Kept in let theme = k.theme c.of.result.value in let slots : c.push_reserved.new.self.items ≡ Some c.args.value ∷ [] = search rules in
    subst (λ l. InTurn k c.args.seats (opening (0 ∷ 0 ∷ 0 ∷ []) l (fresh (Some theme) 0 1))) (sym slots)
    (opens k c.args.seats c.args.value theme (ap k.theme (sym c.of.ensures)) c.requires.empty c.requires.allowed c.requires.seats)
