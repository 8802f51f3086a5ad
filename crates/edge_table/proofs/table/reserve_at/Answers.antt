use Rattle.std.proofs.Common.{inl, inr, subst, sym, ap, arith, Ok, Err, Result, OnOk, length}
use Rattle.edge_table.specs.Rows.{HasRoomAt}
use Rattle.mesh_base.proofs.Corners.{eq_or}
use Rattle.edge_table.proofs.TableLemmas.{shown-set_same, HasRoomAt-set_other, HasRoomAt-set_same, room_of}
use Rattle.edge_table.proofs.table.reserve_at.Goals as goal

pub returns-clause-shown : goal.returns-clause-shown
returns-clause-shown c = shown-set_same c.args.rows.now.items c.args.v c.reserve_more.new.row c.index_mut.result.now c.index_mut.ensures.value c.reserve_more.ensures.near c.reserve_more.ensures.counts

both_ok : {T E : Type 0} (P Q : Type 0) (r : Result T E) → OnOk r P → OnOk r Q → OnOk r (P × Q)
both_ok P Q (Ok x) p q = (p, q)
both_ok P Q (Err e) p q = tt

map_ok : {T E : Type 0} (P Q : Type 0) (r : Result T E) → (P → Q) → OnOk r P → OnOk r Q
map_ok P Q (Ok x) f p = f p
map_ok P Q (Err e) f p = tt

pub returns-clause-room : goal.returns-clause-room
returns-clause-room c =
    map_ok _ _ c.reserve_more.result (HasRoomAt-set_same c.args.more c.args.rows.now.items c.args.v c.reserve_more.new.row (omega arith))
    (both_ok _ _ c.reserve_more.result c.reserve_more.ensures.near_room c.reserve_more.ensures.counts_room)

pub returns-clause-keeps : goal.returns-clause-keeps
returns-clause-keeps c u h =
    elim (eq_or u c.args.v) [
      | inl e ↦
          let r = room_of c.args.more c.args.rows.now.items c.args.v c.index_mut.result.now (omega arith) c.index_mut.ensures.value (subst (HasRoomAt c.args.more c.args.rows.now.items) e h) in
          subst (HasRoomAt c.args.more _) (sym e) (HasRoomAt-set_same c.args.more c.args.rows.now.items c.args.v c.reserve_more.new.row (omega arith)
          (let a = ap length c.reserve_more.ensures.near in let b = ap length c.reserve_more.ensures.counts in (omega (arith, r.0, c.reserve_more.ensures.near_capacity), omega (arith, r.1, c.reserve_more.ensures.counts_capacity))))
      | inr n ↦ HasRoomAt-set_other c.args.more c.args.rows.now.items c.args.v u c.reserve_more.new.row n h
    ]
