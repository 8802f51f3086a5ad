use Rattle.std.proofs.Common.{rules, ap, sym, subst}
use Rattle.turn_table.proofs.Basics.{some_of}
use Rattle.turn_table.proofs.WordSteps.{stores}
use Rattle.turn_table.proofs.Standings.{table_is, seen_is, stands_showing}
use Rattle.turn_table.proofs.turns.Turns.show.Goals as goal

pub store-requires : goal.store-requires
store-requires g c = let seat = c.args.seat.now in let h = some_of _ seat.live in
    let true_of : g.T.Kept.says seat.seat.me.0.seen c.args.word = subst (λ l. g.T.Kept.says l c.args.word) (sym (seen_is seat)) c.requires.word in
    (table_is seat _ c.requires.table, search rules, stores _ _ _ _ _ h.0 c.args.word h.1 true_of)

pub returns : goal.returns
returns g c = stands_showing c.args.seat.now _ _ c.store.ensures.0 (ap (λ m. m.0) c.store.ensures.2)
