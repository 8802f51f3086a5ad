-- What the definition says of small texts.
use Rattle.std.proofs.Common.{◌≡◌, ℕ, List, [], ◌∷◌, ◌++◌, refl}
use Rattle.std.specs.Prelude.{Ok, Err, Some, codes, pos}
use Rattle.mesh_base.specs.Mesh.{MeshView}
use Rattle.oct_text.specs.Rest.{token_at_front}
use Rattle.oct_text.specs.Line.{line_front}
use Rattle.oct_text.specs.Numbers.{count_of, coordinate_of, size_spelled, whole_quotient}
use Rattle.vtk_legacy.specs.declared.fault.MeshKind.TheVariants as kinds
use Rattle.vtk_legacy.specs.Words.{is_unsigned, is_signed, is_real, is_vtk_type}
use Rattle.vtk_legacy.specs.Version.{has_magic, version_form}
use Rattle.vtk_legacy.specs.MeshText.{fault, mesh_text, skip, arrays, blocks_within, places, indices, counted_rows, offsets, types}

abbrev lf : List ℕ
lf = 10 ∷ []

-- a text with this version, format, second point, cells and type
abbrev text_with : List ℕ → List ℕ → List ℕ → List ℕ → List ℕ → List ℕ
text_with version format point cells type =
    codes "# vtk DataFile Version " ++ version ++ lf ++ codes "one" ++ lf ++ format ++ lf ++ codes "DATASET UNSTRUCTURED_GRID" ++ lf
    ++ codes "POINTS 4 int" ++ lf ++ codes "0 0 0" ++ lf ++ point ++ lf ++ codes "0 4 0" ++ lf ++ codes "0 0 4" ++ lf
    ++ cells ++ codes "CELL_TYPES 1" ++ lf ++ type ++ lf

abbrev counted : List ℕ → List ℕ → List ℕ
counted head cell = codes "CELLS " ++ head ++ lf ++ cell ++ lf

abbrev with_offsets : List ℕ → List ℕ → List ℕ
with_offsets offsets numbers =
    codes "CELLS 2 4" ++ lf ++ codes "OFFSETS vtktypeint64" ++ lf ++ offsets ++ lf ++ codes "CONNECTIVITY vtktypeint64" ++ lf ++ numbers ++ lf

abbrev sample_cells : List ℕ
sample_cells = counted (codes "1 5") (codes "4 0 1 2 3")

abbrev one_tetrahedron : MeshView
one_tetrahedron = record {
  points = (pos 0, pos 0, pos 0) ∷ (pos 4, pos 0, pos 0) ∷ (pos 0, pos 4, pos 0) ∷ (pos 0, pos 0, pos 4) ∷ [];
  cells = Some (0, 1, 2, 3) ∷ [];
}

nothing : mesh_text ([]) ≡ Err (fault kinds.Truncated 0)
unfolding mesh_text line_front has_magic version_form token_at_front blocks_within skip arrays is_unsigned is_signed is_real is_vtk_type count_of coordinate_of size_spelled whole_quotient places indices counted_rows offsets types
nothing = refl

plain_sample : mesh_text (text_with (codes "3.0") (codes "ASCII") (codes "4 0 0") sample_cells (codes "10")) ≡ Ok one_tetrahedron
unfolding mesh_text line_front has_magic version_form token_at_front blocks_within skip arrays is_unsigned is_signed is_real is_vtk_type count_of coordinate_of size_spelled whole_quotient places indices counted_rows offsets types
plain_sample = refl

other_spellings : mesh_text (text_with (codes "3.0") (codes "ASCII") (codes "4e0 +0 0.") sample_cells (codes "10")) ≡ Ok one_tetrahedron
unfolding mesh_text line_front has_magic version_form token_at_front blocks_within skip arrays is_unsigned is_signed is_real is_vtk_type count_of coordinate_of size_spelled whole_quotient places indices counted_rows offsets types
other_spellings = refl

half : mesh_text (text_with (codes "3.0") (codes "ASCII") (codes "4 0.5 0") sample_cells (codes "10")) ≡ Err (fault kinds.NotWhole 84)
unfolding mesh_text line_front has_magic version_form token_at_front blocks_within skip arrays is_unsigned is_signed is_real is_vtk_type count_of coordinate_of size_spelled whole_quotient places indices counted_rows offsets types
half = refl

version_6 : mesh_text (text_with (codes "6.0") (codes "ASCII") (codes "4 0 0") sample_cells (codes "10")) ≡ Err (fault kinds.Version 23)
unfolding mesh_text line_front has_magic version_form token_at_front blocks_within skip arrays is_unsigned is_signed is_real is_vtk_type count_of coordinate_of size_spelled whole_quotient places indices counted_rows offsets types
version_6 = refl

binary : mesh_text (text_with (codes "3.0") (codes "BINARY") (codes "4 0 0") sample_cells (codes "10")) ≡ Err (fault kinds.Binary 31)
unfolding mesh_text line_front has_magic version_form token_at_front blocks_within skip arrays is_unsigned is_signed is_real is_vtk_type count_of coordinate_of size_spelled whole_quotient places indices counted_rows offsets types
binary = refl

size_above : mesh_text (text_with (codes "3.0") (codes "ASCII") (codes "4 0 0") (counted (codes "1 6") (codes "4 0 1 2 3")) (codes "10")) ≡ Err (fault kinds.Size 108)
unfolding mesh_text line_front has_magic version_form token_at_front blocks_within skip arrays is_unsigned is_signed is_real is_vtk_type count_of coordinate_of size_spelled whole_quotient places indices counted_rows offsets types
size_above = refl

size_below : mesh_text (text_with (codes "3.0") (codes "ASCII") (codes "4 0 0") (counted (codes "1 4") (codes "4 0 1 2 3")) (codes "10")) ≡ Err (fault kinds.Size 110)
unfolding mesh_text line_front has_magic version_form token_at_front blocks_within skip arrays is_unsigned is_signed is_real is_vtk_type count_of coordinate_of size_spelled whole_quotient places indices counted_rows offsets types
size_below = refl

index_above : mesh_text (text_with (codes "3.0") (codes "ASCII") (codes "4 0 0") (counted (codes "1 5") (codes "4 0 1 2 4")) (codes "10")) ≡ Err (fault kinds.Index 118)
unfolding mesh_text line_front has_magic version_form token_at_front blocks_within skip arrays is_unsigned is_signed is_real is_vtk_type count_of coordinate_of size_spelled whole_quotient places indices counted_rows offsets types
index_above = refl

same_vertex : mesh_text (text_with (codes "3.0") (codes "ASCII") (codes "4 0 0") (counted (codes "1 5") (codes "4 0 1 2 2")) (codes "10")) ≡ Err (fault kinds.SameVertex 133)
unfolding mesh_text line_front has_magic version_form token_at_front blocks_within skip arrays is_unsigned is_signed is_real is_vtk_type count_of coordinate_of size_spelled whole_quotient places indices counted_rows offsets types
same_vertex = refl

type_12 : mesh_text (text_with (codes "3.0") (codes "ASCII") (codes "4 0 0") sample_cells (codes "12")) ≡ Err (fault kinds.CellType 133)
unfolding mesh_text line_front has_magic version_form token_at_front blocks_within skip arrays is_unsigned is_signed is_real is_vtk_type count_of coordinate_of size_spelled whole_quotient places indices counted_rows offsets types
type_12 = refl

offset_sample : mesh_text (text_with (codes "5.1") (codes "ASCII") (codes "4 0 0") (with_offsets (codes "0 4") (codes "0 1 2 3")) (codes "10")) ≡ Ok one_tetrahedron
unfolding mesh_text line_front has_magic version_form token_at_front blocks_within skip arrays is_unsigned is_signed is_real is_vtk_type count_of coordinate_of size_spelled whole_quotient places indices counted_rows offsets types
offset_sample = refl

last_offset : mesh_text (text_with (codes "5.1") (codes "ASCII") (codes "4 0 0") (with_offsets (codes "0 3") (codes "0 1 2 3")) (codes "10")) ≡ Err (fault kinds.Size 133)
unfolding mesh_text line_front has_magic version_form token_at_front blocks_within skip arrays is_unsigned is_signed is_real is_vtk_type count_of coordinate_of size_spelled whole_quotient places indices counted_rows offsets types
last_offset = refl

first_offset : mesh_text (text_with (codes "5.1") (codes "ASCII") (codes "4 0 0") (with_offsets (codes "1 4") (codes "0 1 2 3")) (codes "10")) ≡ Err (fault kinds.Size 131)
unfolding mesh_text line_front has_magic version_form token_at_front blocks_within skip arrays is_unsigned is_signed is_real is_vtk_type count_of coordinate_of size_spelled whole_quotient places indices counted_rows offsets types
first_offset = refl

number_above : mesh_text (text_with (codes "5.1") (codes "ASCII") (codes "4 0 0") (with_offsets (codes "0 4") (codes "0 1 2 4")) (codes "10")) ≡ Err (fault kinds.Index 167)
unfolding mesh_text line_front has_magic version_form token_at_front blocks_within skip arrays is_unsigned is_signed is_real is_vtk_type count_of coordinate_of size_spelled whole_quotient places indices counted_rows offsets types
number_above = refl

number_twice : mesh_text (text_with (codes "5.1") (codes "ASCII") (codes "4 0 0") (with_offsets (codes "0 4") (codes "0 1 2 2")) (codes "10")) ≡ Err (fault kinds.SameVertex 182)
unfolding mesh_text line_front has_magic version_form token_at_front blocks_within skip arrays is_unsigned is_signed is_real is_vtk_type count_of coordinate_of size_spelled whole_quotient places indices counted_rows offsets types
number_twice = refl

old_version : mesh_text (text_with (codes "3.0") (codes "ASCII") (codes "4 0 0") (with_offsets (codes "0 4") (codes "0 1 2 3")) (codes "10")) ≡ Err (fault kinds.Number 110)
unfolding mesh_text line_front has_magic version_form token_at_front blocks_within skip arrays is_unsigned is_signed is_real is_vtk_type count_of coordinate_of size_spelled whole_quotient places indices counted_rows offsets types
old_version = refl

new_version : mesh_text (text_with (codes "5.1") (codes "ASCII") (codes "4 0 0") sample_cells (codes "10")) ≡ Err (fault kinds.Keyword 110)
unfolding mesh_text line_front has_magic version_form token_at_front blocks_within skip arrays is_unsigned is_signed is_real is_vtk_type count_of coordinate_of size_spelled whole_quotient places indices counted_rows offsets types
new_version = refl
