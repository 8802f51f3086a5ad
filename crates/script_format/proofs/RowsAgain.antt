-- The lines that are printed of rows are read as the rows, each on its line, where each may come.
use Rattle.std.proofs.Common.{◌≡◌, ℕ, ◌+◌, List, [], ◌∷◌, ◌++◌, map, flat_map, Some, Ok, refl, sym, ap, subst, ◌∙◌, append_assoc}
use Rattle.std.proofs.lemmas.List.{append-nil}
use Rattle.mesh_base.specs.declared.edit.Edit.{Edit}
use Rattle.mesh_base.specs.declared.edit.Edit.TheVariants as edit
use Rattle.mesh_base.specs.declared.edit.Kernel.TheVariants as kernel
use Rattle.run_script.specs.declared.script.Item.TheVariants as item
use Rattle.script_format.specs.declared.row.Row.{Row}
use Rattle.script_format.specs.declared.row.Row.TheVariants as row
use Rattle.script_format.specs.declared.row.Standing.{Standing}
use Rattle.script_format.specs.Rows.{standing}
use Rattle.script_format.specs.Reading.{with_row}
use Rattle.script_format.specs.ScriptText.{Word, lines, words, row_of_line, rows_of}
use Rattle.script_format.specs.Printed.{spaced, line_spelling, edit_words, AreWords}
use Rattle.script_format.proofs.Again.{line-again, words-again}
use Rattle.script_format.proofs.RowLemmas.{standing-row}
use Rattle.script_format.proofs.ReaderLemmas.{rows_of-cons}
use Rattle.script_format.proofs.LinesAgain.{row_words, on, row-are, MayCome, row-again}

abbrev pub row_line : Row → List ℕ
row_line r = line_spelling (row_words r)

-- the rows on lines one after another, from the line n on
abbrev pub numbered : ℕ → List Row → List Row
numbered n [] = []
numbered n (r ∷ rs) = on n r ∷ numbered (n + 1) rs

-- each row may come behind those before it
abbrev pub MayFollow : ℕ → Standing → List Row → Type 0
MayFollow version at [] = Unit {0}
MayFollow version at (r ∷ rs) = MayCome version at r × MayFollow version (with_row r at) rs

-- ---- lines

abbrev HasWords : List Word → Type 0
HasWords [] = ⊥
HasWords (w ∷ ws) = Unit {0}

row-some : (r : Row) → HasWords (row_words r)
row-some (row.Edit e) = edit-some e.edit
  where
    edit-some : (e : Edit) → HasWords (edit_words e)
    edit-some (edit.Point at) = tt
    edit-some (edit.Add corners) = tt
    edit-some (edit.Remove i) = tt
    edit-some (edit.Split i at) = tt
row-some (row.Move kernel.Stay) = tt
row-some (row.Move (kernel.Shift dx dy dz)) = tt
row-some (row.Move (kernel.Pull to num den)) = tt
row-some (row.Move (kernel.Shake seed amp)) = tt
row-some (row.Move kernel.Relax) = tt
row-some (row.Move (kernel.Turn axis)) = tt
row-some row.Session = tt
row-some (row.Does (item.Wait line step)) = tt
row-some (row.Does (item.Ask area)) = tt
row-some (row.Does item.Hold) = tt
row-some (row.Does item.Free) = tt
row-some row.End = tt

abbrev pub unended : List Word → List ℕ
unended [] = []
unended (w ∷ ws) = w ++ spaced ws

first-line : (ws : List Word) (rest : List ℕ) → AreWords ws → HasWords ws → lines (line_spelling ws ++ rest) ≡ unended ws ∷ lines rest
first-line [] rest a s = absurd s
first-line (w ∷ ws) rest a s = line-again w ws rest a

its-words : (ws : List Word) → AreWords ws → HasWords ws → words (unended ws) ≡ ws
its-words [] a s = absurd s
its-words (w ∷ ws) a s = words-again w ws a

pub all-lines : (version : ℕ) (at : Standing) (rs : List Row) → MayFollow version at rs → lines (flat_map row_line rs) ≡ map (λ r. unended (row_words r)) rs
unfolding lines
all-lines version at [] m = refl
all-lines version at (r ∷ rs) m =
    first-line (row_words r) (flat_map row_line rs) (row-are version r (m.0).fits) (row-some r)
    ∙ ap (λ (ls : List (List ℕ)). unended (row_words r) ∷ ls) (all-lines version (with_row r at) rs m.1)

-- ---- rows

with-on : (n : ℕ) (r : Row) (at : Standing) → with_row (on n r) at ≡ with_row r at
with-on n (row.Edit e) at = refl
with-on n (row.Move k) at = refl
with-on n row.Session at = refl
with-on n (row.Does (item.Wait line step)) at = refl
with-on n (row.Does (item.Ask area)) at = refl
with-on n (row.Does item.Hold) at = refl
with-on n (row.Does item.Free) at = refl
with-on n row.End at = refl

pub rows-again : (version n : ℕ) (before rs : List Row) → MayFollow version (standing before) rs → rows_of version n before (map (λ r. unended (row_words r)) rs) ≡ Ok (before ++ numbered n rs)
unfolding rows_of
rows-again version n before [] m = ap (λ (l : List Row). Ok l) (sym (append-nil before))
rows-again version n before (r ∷ rs) m =
    rows_of-cons version n before (unended (row_words r)) (map (λ r. unended (row_words r)) rs) (Some (on n r)) here
    ∙ (rows-again version (n + 1) (before ++ on n r ∷ []) rs (subst (λ (at : Standing). MayFollow version at rs) (sym (standing-row before (on n r) ∙ with-on n r (standing before))) m.1)
    ∙ ap (λ (l : List Row). Ok l) (append_assoc before (on n r ∷ []) (numbered (n + 1) rs)))
  where
    here : row_of_line version n (standing before) (words (unended (row_words r))) ≡ Ok (Some (on n r))
    here = ap (row_of_line version n (standing before)) (its-words (row_words r) (row-are version r (m.0).fits) (row-some r)) ∙ row-again version n (standing before) r m.0
