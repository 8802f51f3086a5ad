-- four numbers, one after the other
use Rattle.std.proofs.Common.{◌≡◌, ◌≢◌, ℕ, ◌<◌, ◌⊎◌, false, inl, inr, List, [], ◌∷◌, get_or, sym, subst, arith}
use Rattle.std.proofs.lemmas.Bool.{cases_order}
use Rattle.std.proofs.lemmas.Bool.Decides.{nat_tests}
use Rattle.mesh_base.specs.Mesh.{Corners, AreDifferent, has_corner}

pub eq_or : (a b : ℕ) → (a ≡ b) ⊎ (a ≢ b)
eq_or a b = elim (cases_order a b) [ inl e ↦ inl e | inr n ↦ inr (apart n) ]
  where
    apart : (a < b) ⊎ (b < a) → a ≢ b
    apart (inl l) e = omega arith
    apart (inr l) e = omega arith

-- four steps, each of which settles one number and leaves the others
pub four : (P Q R S T : ℕ → Type 0) (a b c d : ℕ)
    → Q a → ((w : ℕ) → w ≢ a → P w → Q w)
    → R b → ((w : ℕ) → w ≢ b → Q w → R w)
    → S c → ((w : ℕ) → w ≢ c → R w → S w)
    → T d → ((w : ℕ) → w ≢ d → S w → T w)
    → ((w : ℕ) → w ≢ a → w ≢ b → w ≢ c → w ≢ d → P w)
    → (w : ℕ) → T w
four P Q R S T a b c d qa qs rb rs sc ss td ts rest w =
    elim (eq_or w d) [
      | inl e ↦ subst T (sym e) td
      | inr nd ↦ ts w nd (elim (eq_or w c) [
        | inl e ↦ subst S (sym e) sc
        | inr nc ↦ ss w nc (elim (eq_or w b) [
          | inl e ↦ subst R (sym e) rb
          | inr nb ↦ rs w nb (elim (eq_or w a) [
            | inl e ↦ subst Q (sym e) qa
            | inr na ↦ qs w na (rest w na nb nc nd)
          ])
        ])
      ])
    ]

-- the corners, as an array has them
abbrev pub IsArray : List ℕ → Corners → Type 0
IsArray xs c = xs ≡ c.0 ∷ c.1 ∷ c.2 ∷ c.3 ∷ []

-- what holds of the corners holds of the array's numbers
pub in_array : (P : ℕ → ℕ → ℕ → ℕ → Type 0) (xs : List ℕ) (c : Corners) → IsArray xs c → P c.0 c.1 c.2 c.3 → P (get_or xs 0 0) (get_or xs 1 0) (get_or xs 2 0) (get_or xs 3 0)
in_array P xs c e p = subst (λ l. P (get_or l 0 0) (get_or l 1 0) (get_or l 2 0) (get_or l 3 0)) (sym e) p

pub array-apart : (xs : List ℕ) (c : Corners) → IsArray xs c → AreDifferent c → AreDifferent (get_or xs 0 0, get_or xs 1 0, get_or xs 2 0, get_or xs 3 0)
array-apart xs c e d = subst (λ l. AreDifferent (get_or l 0 0, get_or l 1 0, get_or l 2 0, get_or l 3 0)) (sym e) d

-- a number that is none of the array's is no corner
pub not_corner : (xs : List ℕ) (c : Corners) (w : ℕ) → IsArray xs c → w ≢ get_or xs 0 0 → w ≢ get_or xs 1 0 → w ≢ get_or xs 2 0 → w ≢ get_or xs 3 0 → has_corner c w ≡ false
not_corner xs c w e na nb nc nd = at (subst (λ l. w ≢ get_or l 0 0) e na) (subst (λ l. w ≢ get_or l 1 0) e nb) (subst (λ l. w ≢ get_or l 2 0) e nc) (subst (λ l. w ≢ get_or l 3 0) e nd)
  where
    at : w ≢ c.0 → w ≢ c.1 → w ≢ c.2 → w ≢ c.3 → has_corner c w ≡ false
    at a b d f = grind (arith, nat_tests)
