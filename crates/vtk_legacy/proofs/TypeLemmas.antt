-- The type of a cell, by what is kept of the cell.
use Rattle.std.proofs.Common.{◌≡◌, ◌≢◌, ℕ, Bool, true, false, not, None, Ok, Err, refl, ap, subst, ◌∙◌}
use Rattle.std.specs.Prelude.{◌&&◌, ◌==◌, if◌then◌else◌, is_none}
use Rattle.std.specs.Str.Parse.{digits_value}
use Rattle.std.proofs.lemmas.Bool.{ne_eqb}
use Rattle.oct_text.specs.Rest.{Left, Token}
use Rattle.oct_text.specs.Numbers.{is_numeral}
use Rattle.vtk_legacy.specs.declared.fault.MeshFault.{MeshFault}
use Rattle.vtk_legacy.specs.declared.fault.MeshFault.TheVariants as errors
use Rattle.vtk_legacy.specs.declared.fault.MeshKind.TheVariants as kinds
use Rattle.vtk_legacy.specs.MeshText.{Fault, fault, Read, ◌>>=◌, tested, known_type, size_fits}
use Rattle.vtk_legacy.specs.Outcome.{IsFault}
use Rattle.vtk_legacy.specs.Kept.{Parts, first_row, typed_kept, without_first}
use Rattle.vtk_legacy.specs.Machine.{Outcome, in_types, taking_type, with_type}
use Rattle.vtk_legacy.proofs.StepLemmas.{IsFault-then}

-- the test of the corners comes last
fault_before : (numeral known fits differ : Bool) (n : ℕ) (t : Token × Left) (f : Fault) → tested numeral known fits true n t ≡ Err f → tested numeral known fits differ n t ≡ Err f
fault_before false known fits differ n t f h = h
fault_before true false fits differ n t f h = h
fault_before true true false differ n t f h = h
fault_before true true true differ n t f h = absurd cc

is_fault_before : (numeral known fits differ : Bool) (n : ℕ) (t : Token × Left) (e : MeshFault) → IsFault e (tested numeral known fits true n t) → IsFault e (tested numeral known fits differ n t)
is_fault_before numeral known fits differ n t errors.NoMemory h = tt
is_fault_before numeral known fits differ n t (errors.Bad kind place) h = fault_before numeral known fits differ n t _ h

pub type_err : (more : ℕ) (got : Parts) (size : ℕ) (t : Token × Left) (e : MeshFault) → size ≡ (first_row got.rows).size
    → IsFault e (tested (is_numeral t.0.text) (known_type (digits_value 10 t.0.text)) (size_fits (digits_value 10 t.0.text) size) true (digits_value 10 t.0.text) t) → IsFault e (taking_type more got t)
type_err more got size t e is h =
    let v = digits_value 10 t.0.text in
    let row = first_row got.rows in
    let here = subst (λ (n : ℕ). IsFault e (tested (is_numeral t.0.text) (known_type v) (size_fits v n) true v t)) is h in
    let before = is_fault_before (is_numeral t.0.text) (known_type v) (size_fits v row.size) (not ((v == 10) && is_none row.cell)) v t e here in
    IsFault-then e (typed_kept row t) (λ (type : ℕ × Left). in_types more (with_type type.0 got) type.1) before

-- a type other than 10 passes without a test of the corners
passes : (numeral known fits : Bool) (v : ℕ) (t : Token × Left) (k : ℕ) (twins : Bool) → tested numeral known fits true v t ≡ Ok (k, t.1) → k ≢ 10 → tested numeral known fits (not ((v == 10) && twins)) v t ≡ Ok (k, t.1)
passes false known fits v t k twins h ne = absurd cc
passes true false fits v t k twins h ne = absurd cc
passes true true false v t k twins h ne = absurd cc
passes true true true v t k twins h ne =
    let both : (v, t.1) ≡ (k, t.1) = cc in
    let same : v ≡ k = ap (λ (x : ℕ × Left). x.0) both in
    rw (same, ne_eqb k 10 ne) refl

pub type_other : (more : ℕ) (got : Parts) (size : ℕ) (t : Token × Left) (k : ℕ) → size ≡ (first_row got.rows).size
    → tested (is_numeral t.0.text) (known_type (digits_value 10 t.0.text)) (size_fits (digits_value 10 t.0.text) size) true (digits_value 10 t.0.text) t ≡ Ok (k, t.1) → k ≢ 10
    → taking_type more got t ≡ in_types more (without_first got) t.1
type_other more got size t k is h ne =
    let v = digits_value 10 t.0.text in
    let row = first_row got.rows in
    let here = subst (λ (n : ℕ). tested (is_numeral t.0.text) (known_type v) (size_fits v n) true v t ≡ Ok (k, t.1)) is h in
    let typed = passes (is_numeral t.0.text) (known_type v) (size_fits v row.size) v t k (is_none row.cell) here ne in
    rw (typed, ne_eqb k 10 ne) refl

abbrev ten_read : Bool → Token × Left → Read ℕ
ten_read twins t = if twins then Err (fault kinds.SameVertex t.0.place) else Ok (10, t.1)

-- a type 10 passes the test of the corners with them
ten_tested : (numeral known fits : Bool) (v : ℕ) (t : Token × Left) (k : ℕ) (twins : Bool) → tested numeral known fits true v t ≡ Ok (k, t.1) → k ≡ 10
    → tested numeral known fits (not ((v == 10) && twins)) v t ≡ ten_read twins t
ten_tested false known fits v t k twins h ten = absurd cc
ten_tested true false fits v t k twins h ten = absurd cc
ten_tested true true false v t k twins h ten = absurd cc
ten_tested true true true v t k true h ten =
    let both : (v, t.1) ≡ (k, t.1) = cc in
    let same : v ≡ 10 = ap (λ (x : ℕ × Left). x.0) both ∙ ten in
    rw same refl
ten_tested true true true v t k false h ten =
    let both : (v, t.1) ≡ (k, t.1) = cc in
    let same : v ≡ 10 = ap (λ (x : ℕ × Left). x.0) both ∙ ten in
    rw same refl

abbrev ten_outcome : ℕ → Parts → Token × Left → Outcome
ten_outcome more got t = ten_read (is_none (first_row got.rows).cell) t >>= λ type. in_types more (with_type type.0 got) type.1

type_ten : (more : ℕ) (got : Parts) (size : ℕ) (t : Token × Left) (k : ℕ) → size ≡ (first_row got.rows).size
    → tested (is_numeral t.0.text) (known_type (digits_value 10 t.0.text)) (size_fits (digits_value 10 t.0.text) size) true (digits_value 10 t.0.text) t ≡ Ok (k, t.1) → k ≡ 10
    → taking_type more got t ≡ ten_outcome more got t
type_ten more got size t k is h ten =
    let v = digits_value 10 t.0.text in
    let row = first_row got.rows in
    let here = subst (λ (n : ℕ). tested (is_numeral t.0.text) (known_type v) (size_fits v n) true v t ≡ Ok (k, t.1)) is h in
    let typed = ten_tested (is_numeral t.0.text) (known_type v) (size_fits v row.size) v t k (is_none row.cell) here ten in
    rw typed refl

pub type_twins : (more : ℕ) (got : Parts) (size : ℕ) (t : Token × Left) (k : ℕ) → size ≡ (first_row got.rows).size
    → tested (is_numeral t.0.text) (known_type (digits_value 10 t.0.text)) (size_fits (digits_value 10 t.0.text) size) true (digits_value 10 t.0.text) t ≡ Ok (k, t.1) → k ≡ 10
    → (first_row got.rows).cell ≡ None → taking_type more got t ≡ Err (fault kinds.SameVertex t.0.place)
type_twins more got size t k is h ten none = type_ten more got size t k is h ten ∙ rw none refl
