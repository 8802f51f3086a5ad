-- The version that the first line of a mesh text names.
use Rattle.std.specs.Prelude.{ℕ, Bool, ◌||◌, ◌&&◌, ◌==◌, nat_lt, nat_le, nat_eq, if◌then◌else◌, List, length, drop, Option, Some, None, codes}
use Rattle.std.specs.List.{list_all, before_first, after_first, starts_with}
use Rattle.std.specs.Str.Parse.{digits_value}
use Rattle.oct_text.specs.Numbers.{is_point, are_digits}
use Rattle.vtk_legacy.specs.declared.gathered.CellForm.{CellForm}
use Rattle.vtk_legacy.specs.declared.gathered.CellForm.TheVariants as form

-- a space or a tab
abbrev pub is_gap : ℕ → Bool
is_gap b = (b == 32) || (b == 9)

-- from 1 to 3 digits
abbrev pub is_short_number : List ℕ → Bool
is_short_number text = nat_lt 0 (length text) && nat_le (length text) 3 && are_digits text

-- what stands before the point, and what stands behind it up to a gap
abbrev pub major_part : List ℕ → List ℕ
major_part text = before_first is_point text

abbrev pub minor_part : List ℕ → List ℕ
minor_part text = before_first is_gap (after_first is_point text)

-- digits, a point, digits, and then only spaces and tabs
abbrev pub spells_version : List ℕ → Bool
spells_version text =
    is_short_number (major_part text) && is_short_number (minor_part text)
    && list_all is_gap (after_first is_gap (after_first is_point text))

-- versions 1 to 4 have cells with counts, and version 5.1 has offsets
abbrev pub form_of : ℕ → ℕ → Option CellForm
form_of major minor =
    if nat_lt 0 major && nat_lt major 5 then Some form.Counts
    else if (major == 5) && (minor == 1) then Some form.Offsets
    else None

-- the form of the cells that a version stands for
unfoldable pub version_form : List ℕ → Option CellForm
version_form text =
    if spells_version text then form_of (digits_value 10 (major_part text)) (digits_value 10 (minor_part text))
    else None

-- the first line begins with these 23 bytes, in this case of letters
unfoldable pub has_magic : List ℕ → Bool
has_magic line = starts_with nat_eq line (codes "# vtk DataFile Version ")

-- and the version stands behind them
abbrev pub behind_magic : List ℕ → List ℕ
behind_magic line = drop 23 line
