-- One step of a reader.
use Rattle.std.proofs.Common.{◌≡◌, ℕ, zero, suc, ◌<◌, sub-one, arith, ◌*◌, ◌-◌, Bool, List, [], ◌∷◌, map, Result, Ok, Err, refl, sym, ap, subst, ◌∙◌, append_assoc}
use Rattle.std.proofs.lemmas.List.{append-nil}
use Rattle.oct_text.specs.Rest.{Left}
use Rattle.vtk_legacy.specs.declared.fault.MeshKind.TheVariants as kinds
use Rattle.vtk_legacy.specs.MeshText.{Fault, ◌>>=◌, token, count, most_count, numeric, skip, Read, indexed, indices, with_first, offsets, array, arrays, blocks, places}
use Rattle.vtk_legacy.specs.declared.stage.Section.TheVariants as section
use Rattle.vtk_legacy.specs.declared.stage.Stage.{Stage}
use Rattle.vtk_legacy.specs.declared.gathered.CellRow.{CellRow}
use Rattle.vtk_legacy.specs.declared.gathered.Filling.{Filling}
use Rattle.vtk_legacy.specs.declared.fault.MeshFault.{MeshFault}
use Rattle.vtk_legacy.specs.declared.fault.MeshFault.TheVariants as errors
use Rattle.vtk_legacy.specs.Outcome.{IsFault}
use Rattle.vtk_legacy.specs.Kept.{Parts, Waiting, ended, bare, fill_last, put_from, begin_from, passed, behind_next, next_size, fresh, types_left, offset_sizes, with_rows, with_next, with_filled}
use Rattle.vtk_legacy.specs.Machine.{in_between, in_section, in_arrays, in_name, in_components, in_tuples, in_type, in_values, in_places, in_row, in_heads, in_types, in_offsets, in_filling, in_numbers, in_type_word, in_attributes, Outcome, Moves}

pub bind_assoc : {A B C : Type 0} (r : Result A Fault) (f : A → Result B Fault) (g : B → Result C Fault) → ((r >>= f) >>= g) ≡ (r >>= λ x. f x >>= g)
bind_assoc (Ok x) f g = refl
bind_assoc (Err e) f g = refl

pub bind_same : {A B : Type 0} (r : Result A Fault) (f g : A → Result B Fault) → ((x : A) → f x ≡ g x) → (r >>= f) ≡ (r >>= g)
bind_same (Ok x) f g same = same x
bind_same (Err e) f g same = refl

pub bind_ok_same : {A B : Type 0} (r : Result A Fault) (f g : A → Result B Fault) → ((x : A) → r ≡ Ok x → f x ≡ g x) → (r >>= f) ≡ (r >>= g)
bind_ok_same (Ok x) f g same = same x refl
bind_ok_same (Err e) f g same = refl

pub in_arrays_none : (l : Left) → in_arrays 0 l ≡ blocks l
unfolding arrays in_arrays
in_arrays_none l = refl

pub in_arrays_some : (n : ℕ) (l : Left) → in_arrays (suc n) l ≡ in_name n l
unfolding arrays in_arrays in_name in_components in_tuples in_type in_values
in_arrays_some n l =
    bind_assoc (array l) (arrays n) blocks
    ∙ bind_assoc (token l) (λ name. count most_count name.1 >>= λ c. count most_count c.1 >>= λ t. numeric kinds.Field t.1 >>= λ v. skip (c.0 * t.0) v) (in_arrays n)
    ∙ bind_same (token l) _ _ (λ name.
    bind_assoc (count most_count name.1) (λ c. count most_count c.1 >>= λ t. numeric kinds.Field t.1 >>= λ v. skip (c.0 * t.0) v) (in_arrays n)
    ∙ bind_same (count most_count name.1) _ _ (λ c.
    bind_assoc (count most_count c.1) (λ t. numeric kinds.Field t.1 >>= λ v. skip (c.0 * t.0) v) (in_arrays n)
    ∙ bind_same (count most_count c.1) _ _ (λ t.
    bind_assoc (numeric kinds.Field t.1) (λ v. skip (c.0 * t.0) v) (in_arrays n))))

pub in_arrays_more : (n : ℕ) (l : Left) → 0 < n → in_arrays n l ≡ in_name (n - 1) l
in_arrays_more zero l lt = absurd (omega arith)
in_arrays_more (suc n) l lt = rw sub-one (in_arrays_some n l)

pub in_values_none : (n : ℕ) (l : Left) → in_values n 0 l ≡ in_arrays n l
unfolding skip in_values
in_values_none n l = refl

pub in_places_none : (got : Parts) (l : Left) → in_places 0 got l ≡ in_between section.Cells got l
unfolding places in_places in_between in_section
in_places_none got l = rw append-nil refl

-- a fault stays the fault of what comes behind it
pub IsFault-then : {X Y : Type 0} (e : MeshFault) (read : Result X Fault) (f : X → Result Y Fault) → IsFault e read → IsFault e (read >>= f)
IsFault-then errors.NoMemory read f h = tt
IsFault-then (errors.Bad kind place) read f h = rw h refl

-- what a result says of one meaning it says of another that is the same
pub moves_by : (f g : Left → Outcome) (r : Result Stage MeshFault) (got : Parts) → ((after : Left) → f after ≡ g after) → Moves g r got → Moves f r got
moves_by f g (Ok new) got same moves = λ after. same after ∙ moves after
moves_by f g (Err e) got same moves = λ after. subst (λ (x : Outcome). IsFault e x) (sym (same after)) (moves after)

pub in_row_none : (row : CellRow) (k m room place : ℕ) (got : Parts) (l : Left) → k ≡ 0 → in_row row k m room place got l ≡ in_heads m room place (with_rows (ended row ∷ []) got) l
unfolding in_row indices fill_last
in_row_none row k m room place got l e = rw e refl

pub in_types_none : (got : Parts) (l : Left) → in_types 0 got l ≡ in_between section.Attributes got l
unfolding types_left in_types in_between in_section in_attributes
in_types_none got l = rw append-nil refl

pub in_offsets_none : (first : Bool) (before b : ℕ) (got : Parts) (l : Left) → in_offsets 0 first before b got l ≡ in_between (section.Connectivity b) got l
unfolding offsets offset_sizes in_offsets in_between in_section
in_offsets_none first before b got l = rw append-nil refl

pub in_filling_none : (f : Filling) (got : Parts) (l : Left) → in_filling 0 f got l ≡ in_between section.Types (with_filled (map bare got.sizes) (with_rows (ended f.row ∷ []) got)) l
unfolding indices put_from in_filling in_between in_section
in_filling_none f got l =
    ap (λ (rows : List Waiting). blocks l >>= in_type_word (let parts : Parts = record { form = got.form; number = got.number; points = got.points; sizes = []; rows = rows; cells = got.cells } in parts))
    (sym (append_assoc got.rows (ended f.row ∷ []) (map bare got.sizes)))

pub in_numbers_none : (got : Parts) (l : Left) → in_numbers 0 got l ≡ in_between section.Types (with_filled (map bare got.sizes) got) l
unfolding indices in_numbers in_between in_section
in_numbers_none got l = refl

-- the first row begins
begins : (k : ℕ) (got : Parts) (r : Read ℕ)
    → ((r >>= λ p. indices got.number k p.1 >>= with_first p.0) >>= λ ps. blocks ps.1 >>= in_type_word (with_filled (begin_from ps.0 got.sizes) got))
    ≡ ((r >>= λ p. indices got.number k p.1 >>= with_first p.0) >>= λ ps. blocks ps.1 >>= in_type_word (with_filled (put_from (fresh (next_size got.sizes)) ps.0 (behind_next got.sizes)) (with_next got)))
begins k got (Err e) = refl
begins k got (Ok p) =
    let f = fresh (next_size got.sizes) in
    bind_assoc (indices got.number k p.1) (with_first p.0) _
    ∙ bind_same (indices got.number k p.1) _ _ (λ ps.
    ap (λ (rows : List Waiting). blocks ps.1 >>= in_type_word (let parts : Parts = record { form = got.form; number = got.number; points = got.points; sizes = []; rows = rows; cells = got.cells } in parts))
    (sym (append_assoc got.rows (passed got.sizes) (put_from f (p.0 ∷ ps.0) (behind_next got.sizes)))))
    ∙ sym (bind_assoc (indices got.number k p.1) (with_first p.0) (λ ps. blocks ps.1 >>= in_type_word (with_filled (put_from f ps.0 (behind_next got.sizes)) (with_next got))))

pub in_numbers_some : (k : ℕ) (got : Parts) (l : Left) → 0 < k → in_numbers k got l ≡ in_filling (suc (k - 1)) (fresh (next_size got.sizes)) (with_next got) l
unfolding in_numbers in_filling indices
in_numbers_some zero got l lt = absurd (omega arith)
in_numbers_some (suc k) got l lt = rw sub-one (begins k got (token l >>= indexed got.number))

-- what went well went well in both parts
pub bind_ok : {A B : Type 0} (r : Result A Fault) (f : A → Result B Fault) (y : B) → (r >>= f) ≡ Ok y → (x : A) × (r ≡ Ok x) × (f x ≡ Ok y)
bind_ok (Ok x) f y e = (x, refl, e)
bind_ok (Err e) f y h = absurd cc
