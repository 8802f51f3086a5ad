-- The text that is printed of a script is read as the script, but for the line numbers.
use Rattle.std.proofs.Common.{◌≡◌, ℕ, ◌+◌, true, ◌⊎◌, List, [], ◌∷◌, ◌++◌, length, drop, map, flat_map, Result, Ok, refl, sym, ap, ◌∙◌, append_assoc, inl, inr}
use Rattle.std.specs.Prelude.{codes}
use Rattle.std.specs.List.{list_any}
use Rattle.std.proofs.lemmas.List.{append-nil, map-append}
use Rattle.std.specs.Fmt.{digits}
use Rattle.oct_text.specs.Rest.{is_word}
use Rattle.run_script.specs.declared.script.LinedEdit.{LinedEdit}
use Rattle.run_script.specs.declared.script.Plan.{Plan}
use Rattle.run_script.specs.declared.script.Item.{Item}
use Rattle.run_script.specs.declared.script.Item.TheVariants as item
use Rattle.run_script.specs.Faults.{Fault}
use Rattle.run_script.specs.Scripts.{ScriptView, IsScript}
use Rattle.script_format.specs.declared.row.Row.{Row}
use Rattle.script_format.specs.declared.row.Row.TheVariants as row
use Rattle.script_format.specs.Rows.{is_end, plans, groups, sessions, standing}
use Rattle.script_format.specs.ScriptText.{◌>>=◌, Word, lines, header, script_of, behind_header, script_of_lines, script_text}
use Rattle.script_format.specs.Printed.{number_word, AreWords, line_spelling, edit_line, item_line, plan_spelling, session_spelling, script_spelling, unlined_edit, unlined_plan, unlined_item, unlined}
use Rattle.script_format.proofs.Again.{line-again, words-again}
use Rattle.script_format.proofs.LinesAgain.{row_words, on}
use Rattle.script_format.proofs.RowsAgain.{row_line, numbered, unended, all-lines, rows-again}
use Rattle.script_format.proofs.RowsOf.{edit_rows, plan_rows, item_rows, session_rows, script_rows, plans-are, sessions-are, rows-end, rows-follow}

-- ---- the printed text is that of the rows

abbrev text_of : List Row → List ℕ
text_of rows = flat_map row_line rows

edits-text : (es : List LinedEdit) (rest : List Row) → text_of (edit_rows es rest) ≡ flat_map edit_line es ++ text_of rest
edits-text [] rest = refl
edits-text (e ∷ es) rest = ap (λ (t : List ℕ). edit_line e ++ t) (edits-text es rest) ∙ sym (append_assoc (edit_line e) (flat_map edit_line es) (text_of rest))

plans-text : (ps : List Plan) (rest : List Row) → text_of (plan_rows ps rest) ≡ flat_map plan_spelling ps ++ text_of rest
plans-text [] rest = refl
plans-text (p ∷ ps) rest =
    let move = row_line (row.Move p.kernel) in
    edits-text p.edits (row.Move p.kernel ∷ plan_rows ps rest)
    ∙ (ap (λ (t : List ℕ). flat_map edit_line p.edits ++ (move ++ t)) (plans-text ps rest)
    ∙ (sym (append_assoc (flat_map edit_line p.edits) move (flat_map plan_spelling ps ++ text_of rest))
    ∙ sym (append_assoc (plan_spelling p) (flat_map plan_spelling ps) (text_of rest))))

items-text : (its : List Item) (rest : List Row) → text_of (item_rows its rest) ≡ flat_map item_line its ++ text_of rest
items-text [] rest = refl
items-text (i ∷ its) rest = ap (λ (t : List ℕ). item_line i ++ t) (items-text its rest) ∙ sym (append_assoc (item_line i) (flat_map item_line its) (text_of rest))

sessions-text : (ss : List (List Item)) (rest : List Row) → text_of (session_rows ss rest) ≡ flat_map session_spelling ss ++ text_of rest
sessions-text [] rest = refl
sessions-text (s ∷ ss) rest =
    let first = row_line row.Session in
    ap (λ (t : List ℕ). first ++ t) (items-text s (session_rows ss rest) ∙ ap (λ (t : List ℕ). flat_map item_line s ++ t) (sessions-text ss rest))
    ∙ (sym (append_assoc first (flat_map item_line s) (flat_map session_spelling ss ++ text_of rest)) ∙ sym (append_assoc (session_spelling s) (flat_map session_spelling ss) (text_of rest)))

spelling-is : (s : ScriptView) → script_spelling s ≡ line_spelling (codes "octopus" ∷ codes "script" ∷ number_word s.version ∷ []) ++ text_of (script_rows s)
unfolding script_spelling
spelling-is s =
    let end = line_spelling (codes "end" ∷ []) in
    ap (λ (t : List ℕ). line_spelling (codes "octopus" ∷ codes "script" ∷ number_word s.version ∷ []) ++ t)
    (sym
    (plans-text s.plans (session_rows s.sessions (row.End ∷ []))
    ∙ ap (λ (t : List ℕ). flat_map plan_spelling s.plans ++ t) (sessions-text s.sessions (row.End ∷ []) ∙ ap (λ (t : List ℕ). flat_map session_spelling s.sessions ++ t) (append-nil end))))

-- ---- the script of rows on other lines is the same but for them

abbrev unlined_row : Row → Row
unlined_row r = on 0 r

unlined-on : (n : ℕ) (r : Row) → unlined_row (on n r) ≡ unlined_row r
unlined-on n (row.Edit e) = refl
unlined-on n (row.Move k) = refl
unlined-on n row.Session = refl
unlined-on n (row.Does (item.Wait line step)) = refl
unlined-on n (row.Does (item.Ask area)) = refl
unlined-on n (row.Does item.Hold) = refl
unlined-on n (row.Does item.Free) = refl
unlined-on n row.End = refl

unlined-numbered : (n : ℕ) (rs : List Row) → map unlined_row (numbered n rs) ≡ map unlined_row rs
unlined-numbered n [] = refl
unlined-numbered n (r ∷ rs) = ap (λ (x : Row). x ∷ map unlined_row (numbered (n + 1) rs)) (unlined-on n r) ∙ ap (λ (l : List Row). unlined_row r ∷ l) (unlined-numbered (n + 1) rs)

plans-unlined : (es : List LinedEdit) (rs : List Row) → map unlined_plan (plans es rs) ≡ plans (map unlined_edit es) (map unlined_row rs)
plans-unlined es [] = refl
plans-unlined es (row.Edit e ∷ rs) = plans-unlined (es ++ e ∷ []) rs ∙ ap (λ (l : List LinedEdit). plans l (map unlined_row rs)) (map-append unlined_edit es (e ∷ []))
plans-unlined es (row.Move k ∷ rs) = ap (λ (l : List Plan). record { edits = map unlined_edit es; kernel = k } ∷ l) (plans-unlined [] rs)
plans-unlined es (row.Session ∷ rs) = plans-unlined es rs
plans-unlined es (row.Does (item.Wait line step) ∷ rs) = plans-unlined es rs
plans-unlined es (row.Does (item.Ask area) ∷ rs) = plans-unlined es rs
plans-unlined es (row.Does item.Hold ∷ rs) = plans-unlined es rs
plans-unlined es (row.Does item.Free ∷ rs) = plans-unlined es rs
plans-unlined es (row.End ∷ rs) = plans-unlined es rs

groups-unlined : (its : List Item) (rs : List Row) → map (map unlined_item) (groups its rs) ≡ groups (map unlined_item its) (map unlined_row rs)
groups-unlined its [] = refl
groups-unlined its (row.Edit e ∷ rs) = groups-unlined its rs
groups-unlined its (row.Move k ∷ rs) = groups-unlined its rs
groups-unlined its (row.Session ∷ rs) = ap (λ (l : List (List Item)). map unlined_item its ∷ l) (groups-unlined [] rs)
groups-unlined its (row.Does (item.Wait line step) ∷ rs) =
    groups-unlined (its ++ item.Wait line step ∷ []) rs ∙ ap (λ (l : List Item). groups l (map unlined_row rs)) (map-append unlined_item its (item.Wait line step ∷ []))
groups-unlined its (row.Does (item.Ask area) ∷ rs) = groups-unlined (its ++ item.Ask area ∷ []) rs ∙ ap (λ (l : List Item). groups l (map unlined_row rs)) (map-append unlined_item its (item.Ask area ∷ []))
groups-unlined its (row.Does item.Hold ∷ rs) = groups-unlined (its ++ item.Hold ∷ []) rs ∙ ap (λ (l : List Item). groups l (map unlined_row rs)) (map-append unlined_item its (item.Hold ∷ []))
groups-unlined its (row.Does item.Free ∷ rs) = groups-unlined (its ++ item.Free ∷ []) rs ∙ ap (λ (l : List Item). groups l (map unlined_row rs)) (map-append unlined_item its (item.Free ∷ []))
groups-unlined its (row.End ∷ rs) = groups-unlined its rs

map-drop : (gs : List (List Item)) → map (map unlined_item) (drop 1 gs) ≡ drop 1 (map (map unlined_item) gs)
map-drop [] = refl
map-drop (g ∷ gs) = refl

same-plans : (n : ℕ) (rs : List Row) → map unlined_plan (plans [] (numbered n rs)) ≡ map unlined_plan (plans [] rs)
same-plans n rs = plans-unlined [] (numbered n rs) ∙ (ap (plans []) (unlined-numbered n rs) ∙ sym (plans-unlined [] rs))

same-sessions : (n : ℕ) (rs : List Row) → map (map unlined_item) (sessions (numbered n rs)) ≡ map (map unlined_item) (sessions rs)
same-sessions n rs =
    map-drop (groups [] (numbered n rs))
    ∙ (ap (λ (l : List (List Item)). drop 1 l) (groups-unlined [] (numbered n rs) ∙ (ap (groups []) (unlined-numbered n rs) ∙ sym (groups-unlined [] rs))) ∙ sym (map-drop (groups [] rs)))

same-end : (n : ℕ) (rs : List Row) → list_any is_end (numbered n rs) ≡ list_any is_end rs
same-end n [] = refl
same-end n (row.Edit e ∷ rs) = same-end (n + 1) rs
same-end n (row.Move k ∷ rs) = same-end (n + 1) rs
same-end n (row.Session ∷ rs) = same-end (n + 1) rs
same-end n (row.Does (item.Wait line step) ∷ rs) = same-end (n + 1) rs
same-end n (row.Does (item.Ask area) ∷ rs) = same-end (n + 1) rs
same-end n (row.Does item.Hold ∷ rs) = same-end (n + 1) rs
same-end n (row.Does item.Free ∷ rs) = same-end (n + 1) rs
same-end n (row.End ∷ rs) = refl

-- ---- the whole text

-- what is read of the printed text
abbrev read_of : ScriptView → ScriptView
read_of s = let rows = numbered 2 (script_rows s) in record { version = s.version; plans = plans [] rows; sessions = sessions rows }

read-same : (s : ScriptView) → unlined (read_of s) ≡ unlined s
read-same s =
    let rows = script_rows s in
    ap (λ (ps : List Plan). made ps (map (map unlined_item) (sessions (numbered 2 rows)))) (same-plans 2 rows ∙ ap (map unlined_plan) (plans-are s))
    ∙ ap (λ (ss : List (List Item)). made (map unlined_plan s.plans) ss) (same-sessions 2 rows ∙ ap (map (map unlined_item)) (sessions-are s))
  where
    made : List Plan → List (List Item) → ScriptView
    made ps ss = record { version = s.version; plans = ps; sessions = ss }

header-again : (version : ℕ) → (version ≡ 1) ⊎ (version ≡ 2) → header (codes "octopus" ∷ codes "script" ∷ number_word version ∷ []) ≡ Ok version
unfolding header digits
header-again version (inl one) = rw one refl
header-again version (inr two) = rw two refl

head-words : (version : ℕ) → (version ≡ 1) ⊎ (version ≡ 2) → is_word (number_word version) ≡ true
unfolding digits
head-words version (inl one) = rw one refl
head-words version (inr two) = rw two refl

behind-again : (s : ScriptView) → IsScript s → behind_header (lines (text_of (script_rows s))) s.version ≡ Ok (read_of s)
behind-again s i =
    let rows = script_rows s in
    let follow = rows-follow s i in
    let contents = map (λ r. unended (row_words r)) rows in
    ap (λ (ls : List (List ℕ)). behind_header ls s.version) (all-lines s.version (standing []) rows follow)
    ∙ (ap (λ (o : Result (List Row) Fault). o >>= script_of s.version (length contents + 1)) (rows-again s.version 2 [] rows follow)
    ∙ (rw (same-end 2 rows ∙ rows-end s) refl))

-- the text is that of a script which is the same but for the line numbers
again : (s : ScriptView) → IsScript s → script_text (script_spelling s) ≡ Ok (read_of s)
unfolding script_text
again s i =
    let version = s.version in
    let words-are : AreWords (codes "octopus" ∷ codes "script" ∷ number_word version ∷ []) = (refl, (refl, (head-words version i.version, tt))) in
    ap (λ (t : List ℕ). script_of_lines (lines t)) (spelling-is s)
    ∙ (ap script_of_lines (line-again (codes "octopus") (codes "script" ∷ number_word version ∷ []) (text_of (script_rows s)) words-are)
    ∙ (ap (λ (ws : List Word). header ws >>= behind_header (lines (text_of (script_rows s)))) (words-again (codes "octopus") (codes "script" ∷ number_word version ∷ []) words-are)
    ∙ (ap (λ (o : Result ℕ Fault). o >>= behind_header (lines (text_of (script_rows s)))) (header-again version i.version)
    ∙ behind-again s i)))

-- ---- scripts that are the same but for their line numbers, and their texts

pub read-again : (s : ScriptView) → IsScript s → (read : ScriptView) × (script_text (script_spelling s) ≡ Ok read) × (unlined read ≡ unlined s)
read-again s i = (read_of s, again s i, read-same s)

edits-spelled : (es : List LinedEdit) → flat_map edit_line (map unlined_edit es) ≡ flat_map edit_line es
edits-spelled [] = refl
edits-spelled (e ∷ es) = ap (λ (t : List ℕ). edit_line e ++ t) (edits-spelled es)

plans-spelled : (ps : List Plan) → flat_map plan_spelling (map unlined_plan ps) ≡ flat_map plan_spelling ps
plans-spelled [] = refl
plans-spelled (p ∷ ps) =
    ap (λ (t : List ℕ). (t ++ row_line (row.Move p.kernel)) ++ flat_map plan_spelling (map unlined_plan ps)) (edits-spelled p.edits) ∙ ap (λ (t : List ℕ). plan_spelling p ++ t) (plans-spelled ps)

items-spelled : (its : List Item) → flat_map item_line (map unlined_item its) ≡ flat_map item_line its
items-spelled [] = refl
items-spelled (item.Wait line step ∷ its) = ap (λ (t : List ℕ). item_line (item.Wait line step) ++ t) (items-spelled its)
items-spelled (item.Ask area ∷ its) = ap (λ (t : List ℕ). item_line (item.Ask area) ++ t) (items-spelled its)
items-spelled (item.Hold ∷ its) = ap (λ (t : List ℕ). item_line item.Hold ++ t) (items-spelled its)
items-spelled (item.Free ∷ its) = ap (λ (t : List ℕ). item_line item.Free ++ t) (items-spelled its)

sessions-spelled : (ss : List (List Item)) → flat_map session_spelling (map (map unlined_item) ss) ≡ flat_map session_spelling ss
sessions-spelled [] = refl
sessions-spelled (s ∷ ss) =
    ap (λ (t : List ℕ). (row_line row.Session ++ t) ++ flat_map session_spelling (map (map unlined_item) ss)) (items-spelled s) ∙ ap (λ (t : List ℕ). session_spelling s ++ t) (sessions-spelled ss)

spelling-unlined : (s : ScriptView) → script_spelling (unlined s) ≡ script_spelling s
unfolding script_spelling
spelling-unlined s =
    ap (λ (t : List ℕ). spelled t (flat_map session_spelling (map (map unlined_item) s.sessions))) (plans-spelled s.plans) ∙ ap (λ (t : List ℕ). spelled (flat_map plan_spelling s.plans) t) (sessions-spelled s.sessions)
  where
    spelled : List ℕ → List ℕ → List ℕ
    spelled ps ss = line_spelling (codes "octopus" ∷ codes "script" ∷ number_word s.version ∷ []) ++ (ps ++ (ss ++ line_spelling (codes "end" ∷ [])))

pub same-text : (a b : ScriptView) → unlined a ≡ unlined b → script_spelling a ≡ script_spelling b
same-text a b e = sym (spelling-unlined a) ∙ (ap script_spelling e ∙ spelling-unlined b)

same-read : (r q : ScriptView) → (let o : Result ScriptView Fault = Ok r in o ≡ Ok q) → r ≡ q
same-read r q e = cc

pub same-scripts : (a b : ScriptView) → IsScript a → IsScript b → script_spelling a ≡ script_spelling b → unlined a ≡ unlined b
same-scripts a b i j e =
    let same = same-read (read_of a) (read_of b) (sym (again a i) ∙ (ap script_text e ∙ again b j)) in
    sym (read-same a) ∙ (ap unlined same ∙ read-same b)

pub text-again : (s r : ScriptView) → IsScript s → script_text (script_spelling s) ≡ Ok r → script_spelling r ≡ script_spelling s
text-again s r i e = same-text r s (ap unlined (same-read r (read_of s) (sym e ∙ again s i)) ∙ read-same s)
