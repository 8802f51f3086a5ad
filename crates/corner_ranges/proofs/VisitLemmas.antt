-- lemmas on the lists of cells for each range
use Rattle.std.proofs.Common.{◌≡◌, ◌≢◌, ℕ, zero, suc, ◌+◌, ◌<◌, inl, inr, Bool, true, false, cond, eqb, ◌||◌, List, [], ◌∷◌, ◌++◌, length, get_or, set, map, sum_by, Vec, Option, Some, None, refl, sym, ap, subst, ◌∙◌, arith}
use Rattle.std.specs.declared.alloc.Global.{Global}
use Rattle.std.proofs.lemmas.Bool.Decides.{nat_tests}
use Rattle.std.proofs.lemmas.List.{map-set, get_or-set_same, get_or-set_other, get_or-map}
use Rattle.std.proofs.lemmas.List.Sums.{sum_by_push}
use Rattle.mesh_base.specs.Mesh.{Corners}
use Rattle.mesh_base.specs.Edit.{cell_at}
use Rattle.mesh_base.proofs.Corners.{eq_or}
use Rattle.corner_ranges.specs.Ranges.{range_of, corners_in, slot_share, AreSlotsOf}
use Rattle.corner_ranges.specs.Visits.{reaches, listed, visit_share, HaveRanges}

same : (v : ℕ) → eqb v v ≡ true
same v = grind (arith, nat_tests)

apart : (v a : ℕ) → v ≢ a → eqb v a ≡ false
apart v a n = grind (arith, nat_tests)

length_lists : (visits : List (Vec ℕ Global)) → length (map (λ v. v.items) visits) ≡ length visits
length_lists [] = refl
length_lists (v ∷ visits) = ap suc (length_lists visits)

-- the numbers of one list
listed_at : (visits : List (Vec ℕ Global)) (range : ℕ) (v : Vec ℕ Global) → range < length visits → v ≡ get_or visits range v → listed visits range ≡ v.items
listed_at visits range v lt e = get_or-map (λ v. v.items) visits range v [] lt ∙ ap (λ v. v.items) (sym e)

-- a number more in one list
pub listed_more : (h : ℕ → ℕ) (visits : List (Vec ℕ Global)) (p r i : ℕ) (old new : Vec ℕ Global) → p < length visits → old ≡ get_or visits p old → new.items ≡ old.items ++ i ∷ []
    → sum_by h (listed (set visits p new) r) ≡ sum_by h (listed visits r) + cond (eqb p r) (h i) 0
listed_more h visits p r i old new lt e n = elim (eq_or r p) [
  | inl d ↦ subst (λ r. sum_by h (listed (set visits p new) r) ≡ sum_by h (listed visits r) + cond (eqb p r) (h i) 0) (sym d)
      (let a : listed (set visits p new) p ≡ new.items = ap (λ l. get_or l p []) (map-set (λ v. v.items) visits p new) ∙ get_or-set_same (map (λ v. v.items) visits) p new.items [] (subst (λ k. p < k) (sym (length_lists visits)) lt) in
      let b : listed visits p ≡ old.items = listed_at visits p old lt e in
      let c = ap (sum_by h) (a ∙ n) ∙ sum_by_push h old.items i in
      let d = ap (sum_by h) b in
      let t = ap (λ t. cond t (h i) 0) (same p) in
      omega (arith, c, d, t))
  | inr x ↦ (let a : listed (set visits p new) r ≡ listed visits r = ap (λ l. get_or l r []) (map-set (λ v. v.items) visits p new) ∙ get_or-set_other (map (λ v. v.items) visits) p r new.items [] x in
      let b = ap (sum_by h) a in
      let t = ap (λ t. cond t (h i) 0) (apart p r (λ q. x (sym q))) in
      omega (arith, b, t))
]

-- slots that have what the cells of a range's list have
pub whole : (cells : List (Option Corners)) (range count : ℕ) (visits : List (Vec ℕ Global)) (v : Vec ℕ Global) (numbers : List ℕ) (slots : List (Option Corners))
    → HaveRanges cells count visits → range < count → length visits ≡ count → v ≡ get_or visits range v → numbers ≡ v.items
    → ((g : Corners → ℕ) → sum_by (slot_share g) slots ≡ sum_by (visit_share g range cells) numbers) → AreSlotsOf (corners_in range cells) slots
whole cells range count visits v numbers slots h lt len e n s g =
    s g ∙ ap (sum_by (visit_share g range cells)) (n ∙ sym (listed_at visits range v (omega (arith, len)) e)) ∙ h range lt g

-- a cell that doesn't reach a range has no corner there
abbrev kept : Corners → Bool → Bool → Bool → Bool → List Corners
kept c p q r s =
    let third : List Corners = cond s ((c.3, c.0, c.1, c.2) ∷ []) [] in
    let second : List Corners = cond r ((c.2, c.0, c.1, c.3) ∷ third) third in
    let first : List Corners = cond q ((c.1, c.0, c.2, c.3) ∷ second) second in
    cond p ((c.0, c.1, c.2, c.3) ∷ first) first

pub reached : (g : Corners → ℕ) (range : ℕ) (cell : Option Corners) → cond (reaches cell range) (sum_by g (corners_in range (cell ∷ []))) 0 ≡ sum_by g (corners_in range (cell ∷ []))
reached g range None = refl
reached g range (Some c) = by (eqb (range_of c.0) range) (eqb (range_of c.1) range) (eqb (range_of c.2) range) (eqb (range_of c.3) range)
  where
    by : (p q r s : Bool) → cond (p || q || r || s) (sum_by g (kept c p q r s)) 0 ≡ sum_by g (kept c p q r s)
    by true q r s = refl
    by false true r s = refl
    by false false true s = refl
    by false false false true = refl
    by false false false false = refl

pub cell_at-get : (cells : List (Option Corners)) (i : ℕ) (cell : Option Corners) → i < length cells → get_or cells i cell ≡ cell → cell_at cells i ≡ cell
cell_at-get [] i cell lt e = absurd (omega arith)
cell_at-get (k ∷ cells) zero cell lt e = e
cell_at-get (k ∷ cells) (suc i) cell lt e = cell_at-get cells i cell (omega arith) e
