-- the pairs of a cell that is split round a new point
use Rattle.std.proofs.Common.{◌≡◌, ◌≢◌, ℕ, ◌+◌, Bool, true, false, cond, eqb, not, ◌&&◌, List, get_or, refl, sym, ap, subst, ◌∙◌, arith}
use Rattle.std.proofs.lemmas.Bool.Decides.{nat_tests}
use Rattle.mesh_base.specs.Mesh.{Corners, AreDifferent, has_corner}
use Rattle.mesh_base.specs.Edit.{quarters}
use Rattle.mesh_base.proofs.Corners.{IsArray, in_array}
use Rattle.edge_table.specs.Pairs.{pair_share, cell_pairs}
use Rattle.edge_table.proofs.TableLemmas.{share-0, share-1, share-2, share-3}

no_corner : (c : Corners) (v : ℕ) → c.0 ≢ v → c.1 ≢ v → c.2 ≢ v → c.3 ≢ v → has_corner c v ≡ false
no_corner c v w x y z = grind (arith, nat_tests)

pub no_pair : (c : Corners) (v u : ℕ) → c.0 ≢ v → c.1 ≢ v → c.2 ≢ v → c.3 ≢ v → pair_share c v u ≡ 0
no_pair c v u w x y z = ap (λ t. cond t 1 0) (ap (λ t. not (eqb v u) && (t && has_corner c u)) (no_corner c v w x y z) ∙ never (not (eqb v u)))
  where
    never : (t : Bool) → (t && false) ≡ false
    never true = refl
    never false = refl

abbrev pub thrice : ℕ → ℕ → ℕ
thrice x u = cond (eqb x u) 3 0

triple : (x u : ℕ) → thrice x u ≡ cond (eqb x u) 1 0 + cond (eqb x u) 1 0 + cond (eqb x u) 1 0
triple x u = by (eqb x u)
  where
    by : (b : Bool) → cond b 3 0 ≡ cond b 1 0 + cond b 1 0 + cond b 1 0
    by true = refl
    by false = refl

-- each corner has its old pairs once more, and three with the point, which has three with each of them
module _ (k : Corners) (p : ℕ) (d : AreDifferent k) (a : k.0 ≢ p) (b : k.1 ≢ p) (f : k.2 ≢ p) (g : k.3 ≢ p) where
  all : (v u : ℕ) → cell_pairs (quarters p k) v u
      ≡ 0 + pair_share (p, k.1, k.2, k.3) v u + pair_share (k.0, p, k.2, k.3) v u + pair_share (k.0, k.1, p, k.3) v u + pair_share (k.0, k.1, k.2, p) v u
  all v u = refl

  first : AreDifferent (p, k.1, k.2, k.3)
  first = (λ e. b (sym e), λ e. f (sym e), λ e. g (sym e), d.3, d.4, d.5)

  second : AreDifferent (k.0, p, k.2, k.3)
  second = (a, d.1, d.2, λ e. f (sym e), λ e. g (sym e), d.5)

  third : AreDifferent (k.0, k.1, p, k.3)
  third = (d.0, a, d.2, b, d.4, λ e. g (sym e))

  fourth : AreDifferent (k.0, k.1, k.2, p)
  fourth = (d.0, d.1, a, d.3, b, f)

  pub quarters-0 : (u : ℕ) → cell_pairs (quarters p k) k.0 u ≡ pair_share k k.0 u + pair_share k k.0 u + thrice p u
  quarters-0 u =
      omega (
        arith,
        all k.0 u,
        no_pair (p, k.1, k.2, k.3) k.0 u (λ e. a (sym e)) (λ e. d.0 (sym e)) (λ e. d.1 (sym e)) (λ e. d.2 (sym e)),
        share-0 (k.0, p, k.2, k.3) u second,
        share-0 (k.0, k.1, p, k.3) u third,
        share-0 (k.0, k.1, k.2, p) u fourth,
        share-0 k u d,
        triple p u,
      )

  pub quarters-1 : (u : ℕ) → cell_pairs (quarters p k) k.1 u ≡ pair_share k k.1 u + pair_share k k.1 u + thrice p u
  quarters-1 u =
      omega (
        arith,
        all k.1 u,
        no_pair (k.0, p, k.2, k.3) k.1 u d.0 (λ e. b (sym e)) (λ e. d.3 (sym e)) (λ e. d.4 (sym e)),
        share-1 (p, k.1, k.2, k.3) u first,
        share-1 (k.0, k.1, p, k.3) u third,
        share-1 (k.0, k.1, k.2, p) u fourth,
        share-1 k u d,
        triple p u,
      )

  pub quarters-2 : (u : ℕ) → cell_pairs (quarters p k) k.2 u ≡ pair_share k k.2 u + pair_share k k.2 u + thrice p u
  quarters-2 u =
      omega (
        arith,
        all k.2 u,
        no_pair (k.0, k.1, p, k.3) k.2 u d.1 d.3 (λ e. f (sym e)) (λ e. d.5 (sym e)),
        share-2 (p, k.1, k.2, k.3) u first,
        share-2 (k.0, p, k.2, k.3) u second,
        share-2 (k.0, k.1, k.2, p) u fourth,
        share-2 k u d,
        triple p u,
      )

  pub quarters-3 : (u : ℕ) → cell_pairs (quarters p k) k.3 u ≡ pair_share k k.3 u + pair_share k k.3 u + thrice p u
  quarters-3 u =
      omega (
        arith,
        all k.3 u,
        no_pair (k.0, k.1, k.2, p) k.3 u d.2 d.4 d.5 (λ e. g (sym e)),
        share-3 (p, k.1, k.2, k.3) u first,
        share-3 (k.0, p, k.2, k.3) u second,
        share-3 (k.0, k.1, p, k.3) u third,
        share-3 k u d,
        triple p u,
      )

  pub quarters-new : (u : ℕ) → cell_pairs (quarters p k) p u ≡ thrice k.0 u + thrice k.1 u + thrice k.2 u + thrice k.3 u
  quarters-new u =
      omega (
        arith,
        all p u,
        share-0 (p, k.1, k.2, k.3) u first,
        share-1 (k.0, p, k.2, k.3) u second,
        share-2 (k.0, k.1, p, k.3) u third,
        share-3 (k.0, k.1, k.2, p) u fourth,
        triple k.0 u,
        triple k.1 u,
        triple k.2 u,
        triple k.3 u,
      )

  pub quarters-none : (v u : ℕ) → k.0 ≢ v → k.1 ≢ v → k.2 ≢ v → k.3 ≢ v → p ≢ v → cell_pairs (quarters p k) v u ≡ 0
  quarters-none v u x y z w q =
      omega (arith, all v u, no_pair (p, k.1, k.2, k.3) v u q y z w, no_pair (k.0, p, k.2, k.3) v u x q z w, no_pair (k.0, k.1, p, k.3) v u x y q w, no_pair (k.0, k.1, k.2, p) v u x y z q)

  -- the same of the corners as an array has them
  abbrev Doubled : ℕ → ℕ → Type 0
  Doubled v u = cell_pairs (quarters p k) v u ≡ pair_share k v u + pair_share k v u + thrice p u

  pub array_quarters : (xs : List ℕ) (u : ℕ) → IsArray xs k → Doubled (get_or xs 0 0) u × Doubled (get_or xs 1 0) u × Doubled (get_or xs 2 0) u × Doubled (get_or xs 3 0) u
  array_quarters xs u e = in_array (λ x y z w. Doubled x u × Doubled y u × Doubled z u × Doubled w u) xs k e (quarters-0 u, quarters-1 u, quarters-2 u, quarters-3 u)

  pub array_quarters-none : (xs : List ℕ) (v u : ℕ) → IsArray xs k → v ≢ get_or xs 0 0 → v ≢ get_or xs 1 0 → v ≢ get_or xs 2 0 → v ≢ get_or xs 3 0 → v ≢ p → cell_pairs (quarters p k) v u ≡ 0
  array_quarters-none xs v u e x y z w q =
      quarters-none v u (λ r. subst (λ l. v ≢ get_or l 0 0) e x (sym r)) (λ r. subst (λ l. v ≢ get_or l 1 0) e y (sym r)) (λ r. subst (λ l. v ≢ get_or l 2 0) e z (sym r)) (λ r. subst (λ l. v ≢ get_or l 3 0) e w (sym r)) (λ r. q (sym r))
