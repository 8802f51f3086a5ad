use Rattle.std.proofs.Common.{◌≡◌, Bool, true, false, ◌&&◌, List, [], ◌∷◌, refl, sym, ap, ◌∙◌, arith}
use Rattle.std.specs.Cmp.Lexicographic.{pointwise}
use Rattle.mesh_base.specs.Place.{Place}
use Rattle.topo.proofs.positions.chunk_with.Goals as goal

same : (E : Place → Place → Bool) → ((a b : Place) → E a b ≡ true → a ≡ b) → (xs ys : List Place) → pointwise E xs ys ≡ true → xs ≡ ys
same E f [] [] e = refl
same E f [] (y ∷ ys) e = absurd (cc)
same E f (x ∷ xs) [] e = absurd (cc)
same E f (x ∷ xs) (y ∷ ys) e = by (E x y) refl (same E f xs ys)
  where
    by : (b : Bool) → E x y ≡ b → (pointwise E xs ys ≡ true → xs ≡ ys) → (x ∷ xs) ≡ (y ∷ ys)
    by false n more = absurd (cc)
    by true t more =
        let head : x ≡ y = f x y t in
        let tail : xs ≡ ys = more (ap (λ b. b && pointwise E xs ys) (sym t) ∙ e) in
        cc

pub returns-then-eq : goal.returns-then-eq
returns-then-eq c =
    c.in_ok-clone.ensures.cases ∙ sym c.deref.ensures ∙ sym c.behind-chunk.view_is ∙ sym c.as_slice.ensures.value
    ∙ same _ (λ a b e. grind arith) _ _ (sym c.eq.ensures ∙ c.if-eq.true)
