use Rattle.std.proofs.Common.{inl, inr, subst, sym, ◌∙◌, ap, arith, vec_len, get_or}
use Rattle.mesh_base.specs.Numbers.{IsPlaceOf}
use Rattle.face_table.proofs.SurfaceRoom.{room_for}
use Rattle.face_table.proofs.surface.settle.Goals as goal

pub insert_at-requires-clause-room : goal.insert_at-requires-clause-room
insert_at-requires-clause-room c =
    let at = subst (λ xs. IsPlaceOf c.args.v xs c.in-Err.i) c.deref.ensures.value c.in-Err.ensures in
    let r = room_for c.args.surface.now.items (vec_len c.args.singles.now) c.args.v c.in-Err.i c.requires.below.ascending c.requires.below.below c.requires.point at in
    let s = c.requires.below.room in
    omega arith

-- the number that goes out is v
pub returns-then-not-wanted-clause-below : goal.returns-then-not-wanted-clause-below
returns-then-not-wanted-clause-below c = record {
  ascending = c.remove_at.ensures.ascending;
  below = λ w h. c.requires.below.below w (c.remove_at.ensures.only w h).0;
  room = let s = c.requires.below.room in let r = c.remove_at.ensures.room in omega arith;
}

pub returns-then-not-wanted-clause-here : goal.returns-then-not-wanted-clause-here
returns-then-not-wanted-clause-here c =
    let e = ap (λ xs. get_or xs c.in-Ok.i 0) (sym c.deref.ensures.value) ∙ c.in-Ok.ensures.1 in
    (λ h. absurd ((c.remove_at.ensures.only c.args.v h).1 (sym e)), λ p. absurd (grind (arith)))

pub returns-then-not-wanted-clause-others : goal.returns-then-not-wanted-clause-others
returns-then-not-wanted-clause-others c w n m =
    let e = ap (λ xs. get_or xs c.in-Ok.i 0) (sym c.deref.ensures.value) ∙ c.in-Ok.ensures.1 in
    (λ h. m.0 (c.remove_at.ensures.only w h).0, λ p. c.remove_at.ensures.every w (λ q. n (q ∙ e)) (m.1 p))

pub returns-then-wanted-clause-below : goal.returns-then-wanted-clause-below
returns-then-wanted-clause-below c = record {
  ascending = c.insert_at.ensures.ascending;
  below = λ w h. elim (c.insert_at.ensures.only w h) [ inl e ↦ (let p = c.requires.point in omega arith) | inr r ↦ c.requires.below.below w r ];
  room = let s = c.requires.below.room in let r = c.insert_at.ensures.room in omega arith;
}

pub returns-then-wanted-clause-others : goal.returns-then-wanted-clause-others
returns-then-wanted-clause-others c w n m =
    (λ h. elim (c.insert_at.ensures.only w h) [ inl e ↦ absurd (n (sym e)) | inr r ↦ m.0 r ], λ p. c.insert_at.ensures.every w (inr (m.1 p)))
