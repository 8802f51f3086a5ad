-- The script of a text is within the limits.
use Rattle.std.proofs.Common.{◌≡◌, ℕ, ◌+◌, Bool, true, false, cond, List, [], ◌∷◌, length, Result, Ok, Err, refl, sym, subst, inl, inr}
use Rattle.std.specs.Prelude.{codes}
use Rattle.std.specs.List.{list_any}
use Rattle.std.specs.Str.{bytes_eq}
use Rattle.std.specs.Cmp.Lexicographic.{pointwise}
use Rattle.run_script.specs.declared.fault.ScriptKind.TheVariants as kinds
use Rattle.script_format.specs.declared.row.Row.{Row}
use Rattle.script_format.specs.Rows.{is_end, plans, sessions}
use Rattle.run_script.specs.Faults.{Fault, fault}
use Rattle.script_format.specs.ScriptText.{Word, words, lines, header, rows_of, script_of, behind_header, script_of_lines, script_text}
use Rattle.script_format.specs.Reads.{IsVersion}
use Rattle.run_script.specs.Scripts.{ScriptView, IsScript}
use Rattle.script_format.proofs.Checks.{bind-ok}
use Rattle.script_format.proofs.Fits.{script-fits, all-fit}

version-of : (ws : List Word) (v : ℕ) → header ws ≡ Ok v → IsVersion v
unfolding header
version-of ws v e = by (pointwise bytes_eq ws (codes "octopus" ∷ codes "script" ∷ codes "1" ∷ [])) (pointwise bytes_eq ws (codes "octopus" ∷ codes "script" ∷ codes "2" ∷ [])) e
  where
    by : (a b : Bool) → (let r : Result ℕ Fault = cond a (Ok 1) (cond b (Ok 2) (Err (fault kinds.Header 1))) in r ≡ Ok v) → IsVersion v
    by true b e = let same : 1 ≡ v = cc in inl (sym same)
    by false true e = let same : 2 ≡ v = cc in inr (sym same)
    by false false e = absurd (cc)

from-rows : (version count : ℕ) (rows : List Row) (s : ScriptView) → (list_any is_end rows ≡ true → IsScript (record { version = version; plans = plans [] rows; sessions = sessions rows }))
    → script_of version count rows ≡ Ok s → IsScript s
from-rows version count rows s fits e = by (list_any is_end rows) fits e
  where
    made : ScriptView
    made = record { version = version; plans = plans [] rows; sessions = sessions rows }

    by : (b : Bool) → (b ≡ true → IsScript made) → (let r : Result ScriptView Fault = cond b (Ok made) (Err (fault kinds.Truncated count)) in r ≡ Ok s) → IsScript s
    by true f e = let same : made ≡ s = cc in subst IsScript same (f refl)
    by false f e = absurd (cc)

of-lines : (ls : List (List ℕ)) (s : ScriptView) → script_of_lines ls ≡ Ok s → IsScript s
of-lines [] s e = absurd (cc)
of-lines (first ∷ rest) s e =
    let v = bind-ok (header (words first)) (behind_header rest) s e in
    let r = bind-ok (rows_of v.0 2 [] rest) (script_of v.0 (length rest + 1)) s v.2 in
    from-rows v.0 (length rest + 1) r.0 s (λ ended. script-fits v.0 r.0 (version-of (words first) v.0 v.1) (all-fit v.0 rest r.0 r.1) ended) r.2

pub valid : (text : List ℕ) (s : ScriptView) → script_text text ≡ Ok s → IsScript s
unfolding script_text
valid text s e = of-lines (lines text) s e
