use Rattle.std.proofs.Common.{◌≡◌, ℕ, ◌<◌, ◌≤◌, ◌⊎◌, inl, inr, List, [], ◌∷◌, Contains, refl, sym, subst, arith}
use Rattle.mesh_base.specs.Place.{Area}
use Rattle.mesh_base.specs.Paths.{InsidePath, Joined}
use Rattle.mesh_base.specs.Samples.{at, box, split_twice}
use Rattle.mesh_base.proofs.Ascending.{In, In-from_Contains, Contains-from_In}
use Rattle.mesh_base.proofs.tests.sample_covers.Goals as goal

-- the box, and what lies inside
abbrev area : Area
area = box (at 2 4 3) (at 4 6 4)

abbrev inside : List ℕ
inside = 4 ∷ 5 ∷ []

has-4 : Contains inside 4
has-4 = Contains-from_In inside 4 (inl refl)

has-5 : Contains inside 5
has-5 = Contains-from_In inside 5 (inr (inl refl))

-- a path begins inside
begins : (s w : ℕ) (path : List ℕ) → InsidePath split_twice area s path w → Contains inside s
begins s w [] along = along.0
begins s w (u ∷ us) along = along.0

low : (s : ℕ) → In (0 ∷ 1 ∷ 2 ∷ 3 ∷ []) s → s < 4
low s (inl e) = omega (arith, e)
low s (inr (inl e)) = omega (arith, e)
low s (inr (inr (inl e))) = omega (arith, e)
low s (inr (inr (inr (inl e)))) = omega (arith, e)
low s (inr (inr (inr (inr none)))) = absurd none

high : (s : ℕ) → In inside s → 4 ≤ s
high s (inl e) = omega (arith, e)
high s (inr (inl e)) = omega (arith, e)
high s (inr (inr none)) = absurd none

-- as numbers: 4 or 5
either : (v : ℕ) → In inside v → (v ≡ 4) ⊎ (v ≡ 5)
either v (inl e) = inl (sym e)
either v (inr (inl e)) = inr (sym e)
either v (inr (inr none)) = absurd none

from-4 : (w : ℕ) → (w ≡ 4) ⊎ (w ≡ 5) → Joined split_twice area 4 w
from-4 w (inl e) = subst (Joined split_twice area 4) (sym e) ([], (has-4, refl))
from-4 w (inr e) = subst (Joined split_twice area 4) (sym e) (5 ∷ [], (has-4, refl, (has-5, refl)))

from-5 : (w : ℕ) → (w ≡ 4) ⊎ (w ≡ 5) → Joined split_twice area 5 w
from-5 w (inl e) = subst (Joined split_twice area 5) (sym e) (4 ∷ [], (has-5, refl, (has-4, refl)))
from-5 w (inr e) = subst (Joined split_twice area 5) (sym e) ([], (has-5, refl))

joined : (v w : ℕ) → (v ≡ 4) ⊎ (v ≡ 5) → (w ≡ 4) ⊎ (w ≡ 5) → Joined split_twice area v w
joined v w (inl e) to = subst (λ x. Joined split_twice area x w) (sym e) (from-4 w to)
joined v w (inr e) to = subst (λ x. Joined split_twice area x w) (sym e) (from-5 w to)

pub returns-clause-apart : goal.returns-clause-apart
returns-clause-apart c one =
    let few = low one.0 (In-from_Contains (0 ∷ 1 ∷ 2 ∷ 3 ∷ []) one.0 one.1) in
    let many = high one.0 (In-from_Contains inside one.0 (begins one.0 4 one.2.0 one.2.1)) in
    absurd (omega (arith, few, many))

pub returns-clause-joined : goal.returns-clause-joined
returns-clause-joined c = from-4 5 (inr refl)

pub returns-clause-covered : goal.returns-clause-covered
returns-clause-covered c = inr (λ v w hv hw. joined v w (either v (In-from_Contains inside v hv)) (either w (In-from_Contains inside w hw)))
