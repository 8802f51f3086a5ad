-- How a reader goes on over the lines of a text.
use Rattle.std.proofs.Common.{◌≡◌, ℕ, ◌+◌, Bool, true, false, List, [], ◌∷◌, ◌++◌, length, drop, Option, Result, Ok, Err, refl, sym, ap, ◌∙◌, subst, arith}
use Rattle.std.specs.Option.{option_to_list}
use Rattle.std.specs.List.{list_any}
use Rattle.run_script.specs.declared.fault.ScriptFault.{ScriptFault}
use Rattle.run_script.specs.declared.fault.ScriptFault.TheVariants as errors
use Rattle.run_script.specs.declared.fault.ScriptKind.{ScriptKind}
use Rattle.run_script.specs.declared.fault.ScriptKind.TheVariants as kinds
use Rattle.run_script.specs.declared.script.Item.{Item}
use Rattle.run_script.specs.declared.script.Plan.{Plan}
use Rattle.script_format.specs.declared.row.Row.{Row}
use Rattle.script_format.specs.declared.row.Standing.{Standing}
use Rattle.script_format.specs.declared.reading.Reading.{Reading}
use Rattle.script_format.specs.Rows.{is_end, plans, sessions, standing}
use Rattle.run_script.specs.Faults.{Fault, fault}
use Rattle.script_format.specs.ScriptText.{◌>>=◌, on_line, words, lines, row_of_line, rows_of, script_of, behind_header}
use Rattle.run_script.specs.Outcome.{IsFault}
use Rattle.script_format.specs.Reads.{Cuts, IsVersion}
use Rattle.script_format.specs.Reading.{closed, TakesLine, CountsAtMost, IsReading, script_read, outcome_read}
use Rattle.run_script.specs.Scripts.{ScriptView, IsScript}
use Rattle.script_format.proofs.RowLemmas.{groups-are}
use Rattle.script_format.proofs.Fits.{script-fits, all-fit}

then-ok : {A : Type 0} (n : ℕ) (r : Result (Option Row) ScriptKind) (row : Option Row) (f : Option Row → Result A Fault) → r ≡ Ok row → (on_line n r >>= f) ≡ f row
then-ok n r row f e = rw e refl

pub rows_of-cons : (version n : ℕ) (before : List Row) (line : List ℕ) (rest : List (List ℕ)) (row : Option Row) → row_of_line version n (standing before) (words line) ≡ Ok row
    → rows_of version n before (line ∷ rest) ≡ rows_of version (n + 1) (before ++ option_to_list row) rest
unfolding rows_of
rows_of-cons version n before line rest row e =
    then-ok n (row_of_line version n (standing before) (words line)) row (λ row. rows_of version (n + 1) (before ++ option_to_list row) rest) e

module _ (version : ℕ) (all : List (List ℕ)) (size line : ℕ) (text : List ℕ) (old : Reading) (r : IsReading version all size line text old) where
  -- one more line was taken
  pub next-reading : (front rest : List ℕ) (done : Unit {0}) (new : Reading) → Cuts lines text front rest → TakesLine version (line + 1) r.before front (Ok done) new
      → CountsAtMost (line + 1) new.standing → IsReading version all size (line + 1) rest new
  next-reading front rest done new cut taken few = record {
    before = r.before ++ option_to_list taken.0;
    stands = taken.2;
    goes_on = r.goes_on ∙ (ap (rows_of version (line + 1) r.before) cut.pieces ∙ rows_of-cons version (line + 1) r.before front (lines rest) taken.0 taken.1);
    count = let c = ap (λ (ls : List (List ℕ)). length ls) cut.pieces in let d = r.count in omega arith;
    room = let a = r.room in let b = cut.shorter in omega arith;
    few = few;
  }

  -- the next line has a fault
  pub fault-reading : (front rest : List ℕ) (e : ScriptFault) → Cuts lines text front rest → IsFault e (on_line (line + 1) (row_of_line version (line + 1) (standing r.before) (words front)))
      → IsFault e (behind_header all version)
  unfolding rows_of
  fault-reading front rest errors.NoMemory cut f = tt
  fault-reading front rest (errors.Bad kind n) cut f =
      let g = r.goes_on ∙ ap (rows_of version (line + 1) r.before) cut.pieces in
      rw (g, f) refl

  module _ (spent : lines text ≡ []) where
    -- the rows of all lines
    all_rows : rows_of version 2 [] all ≡ Ok r.before
    unfolding rows_of
    all_rows = r.goes_on ∙ ap (rows_of version (line + 1) r.before) spent

    counted : line ≡ length all + 1
    counted = let c = ap (λ (ls : List (List ℕ)). length ls) spent in let d = r.count in omega arith

    grouped : drop 1 (old.groups.items ++ old.items.items ∷ []) ≡ sessions r.before
    grouped =
        ap (λ (gs : List (List Item)). drop 1 (gs ++ old.items.items ∷ [])) (r.stands).groups
        ∙ (ap (λ (its : List Item). drop 1 (closed [] r.before ++ its ∷ [])) (r.stands).items ∙ ap (λ (gs : List (List Item)). drop 1 gs) (sym (groups-are [] r.before)))

    abbrev made : List Plan → List (List Item) → ScriptView
    made ps ss = record { version = version; plans = ps; sessions = ss }

    read_is : made (plans [] r.before) (sessions r.before) ≡ script_read version old
    read_is = ap (λ (ps : List Plan). made ps (sessions r.before)) (sym (r.stands).plans) ∙ ap (λ (ss : List (List Item)). made old.plans.items ss) (sym grouped)

    ended_is : old.standing.has_ended ≡ list_any is_end r.before
    ended_is = ap (λ (s : Standing). s.has_ended) (r.stands).standing

    pub end-fits : IsVersion version → old.standing.has_ended ≡ true → IsScript (script_read version old)
    end-fits v e = subst IsScript read_is (script-fits version r.before v (all-fit version all r.before all_rows) (sym ended_is ∙ e))

    pub end-outcome : behind_header all version ≡ outcome_read version line old
    end-outcome =
        ap (λ (o : Result (List Row) Fault). o >>= script_of version (length all + 1)) all_rows
        ∙ by (list_any is_end r.before) refl
      where
        by : (b : Bool) → list_any is_end r.before ≡ b → script_of version (length all + 1) r.before ≡ outcome_read version line old
        by true e = rw (e, ended_is ∙ e) (ap (λ (s : ScriptView). Ok s) read_is)
        by false e = rw (e, ended_is ∙ e) (ap (λ (n : ℕ). Err (fault kinds.Truncated n)) (sym counted))
