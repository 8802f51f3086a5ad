-- The line that is printed of a row is read as the row, where the row may come.
use Rattle.std.proofs.Common.{◌≡◌, ℕ, ◌+◌, ◌^◌, ◌<◌, Bool, false, not, cond, List, [], ◌∷◌, length, map, Some, None, Result, Ok, Err, pos, neg_ℤ, refl, ap, ◌∙◌, arith}
use Rattle.std.specs.Prelude.{◌==◌, codes}
use Rattle.std.specs.Fmt.{signed_decimal}
use Rattle.std.proofs.lemmas.Int.{ints}
use Rattle.std.proofs.lemmas.List.Elements.{recursion_from_All}
use Rattle.mesh_base.specs.declared.edit.Edit.{Edit}
use Rattle.mesh_base.specs.declared.edit.Edit.TheVariants as edit
use Rattle.mesh_base.specs.declared.edit.Kernel.{Kernel}
use Rattle.mesh_base.specs.declared.edit.Kernel.TheVariants as kernel
use Rattle.run_script.specs.declared.fault.ScriptKind.{ScriptKind}
use Rattle.run_script.specs.declared.fault.ScriptKind.TheVariants as kinds
use Rattle.run_script.specs.declared.script.Item.{Item}
use Rattle.run_script.specs.declared.script.Item.TheVariants as item
use Rattle.run_script.specs.Scripts.{IsEdit, IsKernel, IsItem}
use Rattle.script_format.specs.declared.row.Command.{Command}
use Rattle.script_format.specs.declared.row.Command.TheVariants as command
use Rattle.script_format.specs.declared.row.Row.{Row}
use Rattle.script_format.specs.declared.row.Row.TheVariants as row
use Rattle.script_format.specs.declared.row.Standing.{Standing}
use Rattle.script_format.specs.ScriptText.{Word, ◌>>=◌, spelled, commands, is_comment, some_row, words_of, is_misplaced, is_one_too_many, row_of, checked_row, row_of_line}
use Rattle.script_format.specs.Printed.{place_words, edit_words, kernel_words, item_words, AreWords}
use Rattle.script_format.proofs.ValuesAgain.{word-number, word-signed, number-again, index-again, signed-again, place-again, place-words, area-again, corners-again, corners-words, axis-again, axis-words}

-- ---- rows, and how they are printed

abbrev pub edit_command : Edit → Command
edit_command (edit.Point at) = command.Point
edit_command (edit.Add corners) = command.Add
edit_command (edit.Remove i) = command.Remove
edit_command (edit.Split i at) = command.Split

abbrev pub kernel_command : Kernel → Command
kernel_command kernel.Stay = command.Stay
kernel_command (kernel.Shift dx dy dz) = command.Shift
kernel_command (kernel.Pull to num den) = command.Pull
kernel_command (kernel.Shake seed amp) = command.Shake
kernel_command kernel.Relax = command.Relax
kernel_command (kernel.Turn axis) = command.Turn

abbrev pub item_command : Item → Command
item_command (item.Wait line step) = command.Wait
item_command (item.Ask area) = command.Box
item_command item.Hold = command.Hold
item_command item.Free = command.Free

abbrev pub row_command : Row → Command
row_command (row.Edit e) = edit_command e.edit
row_command (row.Move k) = kernel_command k
row_command row.Session = command.Session
row_command (row.Does i) = item_command i
row_command row.End = command.End

abbrev pub row_words : Row → List Word
row_words (row.Edit e) = edit_words e.edit
row_words (row.Move k) = kernel_words k
row_words row.Session = codes "session" ∷ []
row_words (row.Does i) = item_words i
row_words row.End = codes "end" ∷ []

-- the row on the line with this number
abbrev pub on : ℕ → Row → Row
on n (row.Edit e) = row.Edit (record { line = n; edit = e.edit })
on n (row.Move k) = row.Move k
on n row.Session = row.Session
on n (row.Does (item.Wait line step)) = row.Does (item.Wait n step)
on n (row.Does (item.Ask area)) = row.Does (item.Ask area)
on n (row.Does item.Hold) = row.Does item.Hold
on n (row.Does item.Free) = row.Does item.Free
on n row.End = row.End

-- the version has the item
abbrev pub OfVersion : ℕ → Item → Type 0
OfVersion version (item.Wait line step) = Unit {0}
OfVersion version (item.Ask area) = Unit {0}
OfVersion version item.Hold = version ≡ 2
OfVersion version item.Free = version ≡ 2

-- the numbers of the row are in range, and the version has it
abbrev pub RowFits : ℕ → Row → Type 0
RowFits version (row.Edit e) = IsEdit e.edit
RowFits version (row.Move k) = IsKernel k
RowFits version row.Session = Unit {0}
RowFits version (row.Does i) = IsItem i × OfVersion version i
RowFits version row.End = Unit {0}

-- ---- the printed words are words

edit-are : (e : Edit) → IsEdit e → AreWords (edit_words e)
edit-are (edit.Point at) f = (refl, place-words at [] f tt)
edit-are (edit.Add corners) f = (refl, corners-words corners (recursion_from_All (λ c. c < 2 ^ 32) corners f.1))
edit-are (edit.Remove i) f = (refl, (word-number i f, tt))
edit-are (edit.Split i at) f = (refl, (word-number i f.0, place-words at [] f.1 tt))

kernel-are : (k : Kernel) → IsKernel k → AreWords (kernel_words k)
kernel-are kernel.Stay f = (refl, tt)
kernel-are (kernel.Shift dx dy dz) f = (refl, place-words (dx, dy, dz) [] f tt)
kernel-are (kernel.Pull to num den) f = (
  refl,
  place-words to (signed_decimal num ∷ signed_decimal den ∷ []) f.0
      (word-signed num (omega (arith, ints, f.1), omega (arith, ints, f.2)), (word-signed den (omega (arith, ints, f.3), omega (arith, ints, f.4)), tt)),
)
kernel-are (kernel.Shake seed amp) f = (refl, (word-number seed (omega (arith, f.0)), (word-number amp (omega (arith, f.1)), tt)))
kernel-are kernel.Relax f = (refl, tt)
kernel-are (kernel.Turn axis) f = (refl, (axis-words axis, tt))

item-are : (i : Item) → IsItem i → AreWords (item_words i)
item-are (item.Wait line step) f = (refl, (word-number step (omega (arith, f)), tt))
item-are (item.Ask area) f = (refl, place-words area.lo (place_words area.hi) f.0 (place-words area.hi [] f.1 tt))
item-are item.Hold f = (refl, tt)
item-are item.Free f = (refl, tt)

pub row-are : (version : ℕ) (r : Row) → RowFits version r → AreWords (row_words r)
row-are version (row.Edit e) f = edit-are e.edit f
row-are version (row.Move k) f = kernel-are k f
row-are version row.Session f = (refl, tt)
row-are version (row.Does i) f = item-are i f.0
row-are version row.End f = (refl, tt)

-- ---- a line that passes the checks

skip : {A : Type 0} (b : Bool) (x y : A) → b ≡ false → cond b x y ≡ y
skip b x y e = rw e refl

passes : (n : ℕ) (at : Standing) (values : List Word) (c : Command) → is_misplaced at c ≡ false → not (length values + 1 == words_of c) ≡ false → is_one_too_many at c ≡ false
    → checked_row n at values c ≡ row_of n c values
passes n at values c o k f =
    skip (is_misplaced at c) (Err kinds.Order) (cond (not (length values + 1 == words_of c)) (Err kinds.Word) (cond (is_one_too_many at c) (Err kinds.Limit) (row_of n c values))) o
    ∙ (skip (not (length values + 1 == words_of c)) (Err kinds.Word) (cond (is_one_too_many at c) (Err kinds.Limit) (row_of n c values)) k
    ∙ skip (is_one_too_many at c) (Err kinds.Limit) (row_of n c values) f)

-- what a line with this command shows: its first word is the command's, it has the right number of words, and the row
-- is that of its values
pub record Says (version n : ℕ) (c : Command) (w : Word) (values : List Word) (r : Row) : Type 0 where
  pub plain : is_comment w ≡ false
  pub named : spelled (commands version) w ≡ Ok c
  pub count : not (length values + 1 == words_of c) ≡ false
  pub row : row_of n c values ≡ Ok r

pub line-read : (version n : ℕ) (at : Standing) (c : Command) (w : Word) (values : List Word) (r : Row) → Says version n c w values r → is_misplaced at c ≡ false → is_one_too_many at c ≡ false
    → row_of_line version n at (w ∷ values) ≡ Ok (Some r)
unfolding row_of_line
line-read version n at c w values r s o f =
    skip (is_comment w) (Ok None) ((spelled (commands version) w >>= checked_row n at values) >>= some_row) s.plain
    ∙ (ap (λ (x : Result Command ScriptKind). (x >>= checked_row n at values) >>= some_row) s.named
    ∙ ap (λ (x : Result Row ScriptKind). x >>= some_row) (passes n at values c o s.count f ∙ s.row))

-- ---- what the printed words say, command by command

-- the words of a row say it on the line n
abbrev pub LineSays : ℕ → ℕ → Command → List Word → Row → Type 0
LineSays version n c [] r = ⊥
LineSays version n c (w ∷ values) r = Says version n c w values r

abbrev Spells : ℕ → ℕ → Row → Type 0
Spells version n r = LineSays version n (row_command r) (row_words r) (on n r)

four-count : (cs : List ℕ) → length cs ≡ 4 → not (length (map (λ (c : ℕ). signed_decimal (pos c)) cs) + 1 == 5) ≡ false
four-count (a ∷ b ∷ c ∷ d ∷ []) e = refl
four-count [] e = absurd (omega arith)
four-count (a ∷ []) e = absurd (omega arith)
four-count (a ∷ b ∷ []) e = absurd (omega arith)
four-count (a ∷ b ∷ c ∷ []) e = absurd (omega arith)
four-count (a ∷ b ∷ c ∷ d ∷ x ∷ xs) e = absurd (omega arith)

edit-says : (version n line : ℕ) (e : Edit) → IsEdit e → Spells version n (row.Edit (record { line = line; edit = e }))
unfolding row_of
edit-says version n line (edit.Point at) f = record { plain = refl; named = refl; count = refl; row = rw (place-again at [] f) refl }
edit-says version n line (edit.Add corners) f = record { plain = refl; named = refl; count = four-count corners f.0; row = rw (corners-again corners f.0 f.1) refl }
edit-says version n line (edit.Remove i) f = record { plain = refl; named = refl; count = refl; row = rw (index-again i [] f) refl }
edit-says version n line (edit.Split i at) f = record { plain = refl; named = refl; count = refl; row = rw (index-again i _ f.0, place-again at [] f.1) refl }

kernel-says : (version n : ℕ) (k : Kernel) → IsKernel k → Spells version n (row.Move k)
unfolding row_of
kernel-says version n kernel.Stay f = record { plain = refl; named = refl; count = refl; row = refl }
kernel-says version n (kernel.Shift dx dy dz) f = record { plain = refl; named = refl; count = refl; row = rw (place-again (dx, dy, dz) [] f) refl }
kernel-says version n (kernel.Pull to num den) f = record {
  plain = refl;
  named = refl;
  count = refl;
  row =
      let a = signed-again (neg_ℤ (pos 1024)) (pos 1024) num (signed_decimal den ∷ []) (omega (arith, ints, f.1), omega (arith, ints, f.2)) f.1 f.2 in
      let b = signed-again (pos 1) (pos 1024) den [] (omega (arith, ints, f.3), omega (arith, ints, f.4)) f.3 f.4 in
      rw (place-again to (signed_decimal num ∷ signed_decimal den ∷ []) f.0, a, b) refl;
}
kernel-says version n (kernel.Shake seed amp) f = record {
  plain = refl;
  named = refl;
  count = refl;
  row = rw (number-again 65535 seed _ (omega (arith, f.0)) f.0, number-again 1000 amp [] (omega (arith, f.1)) f.1) refl;
}
kernel-says version n kernel.Relax f = record { plain = refl; named = refl; count = refl; row = refl }
kernel-says version n (kernel.Turn axis) f = record { plain = refl; named = refl; count = refl; row = rw (axis-again axis) refl }

item-says : (version n : ℕ) (i : Item) → IsItem i → OfVersion version i → Spells version n (row.Does i)
unfolding row_of
item-says version n (item.Wait line step) f v = record { plain = refl; named = refl; count = refl; row = rw (number-again 10000 step [] (omega (arith, f)) f) refl }
item-says version n (item.Ask area) f v = record { plain = refl; named = refl; count = refl; row = rw (place-again area.lo _ f.0, place-again area.hi [] f.1, area-again area f.2) refl }
item-says version n item.Hold f v = record { plain = refl; named = rw v refl; count = refl; row = refl }
item-says version n item.Free f v = record { plain = refl; named = rw v refl; count = refl; row = refl }

row-says : (version n : ℕ) (r : Row) → RowFits version r → Spells version n r
unfolding row_of
row-says version n (row.Edit e) f = edit-says version n e.line e.edit f
row-says version n (row.Move k) f = kernel-says version n k f
row-says version n row.Session f = record { plain = refl; named = refl; count = refl; row = refl }
row-says version n (row.Does i) f = item-says version n i f.0 f.1
row-says version n row.End f = record { plain = refl; named = refl; count = refl; row = refl }

-- a row may come next
pub record MayCome (version : ℕ) (at : Standing) (r : Row) : Type 0 where
  pub fits : RowFits version r
  pub in_order : is_misplaced at (row_command r) ≡ false
  pub few : is_one_too_many at (row_command r) ≡ false

of-words : (version n : ℕ) (at : Standing) (c : Command) (ws : List Word) (r : Row) → LineSays version n c ws r → is_misplaced at c ≡ false → is_one_too_many at c ≡ false → row_of_line version n at ws ≡ Ok (Some r)
of-words version n at c [] r s o f = absurd s
of-words version n at c (w ∷ values) r s o f = line-read version n at c w values r s o f

pub row-again : (version n : ℕ) (at : Standing) (r : Row) → MayCome version at r → row_of_line version n at (row_words r) ≡ Ok (Some (on n r))
row-again version n at r m = of-words version n at (row_command r) (row_words r) (on n r) (row-says version n r m.fits) m.in_order m.few
