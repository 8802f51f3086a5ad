-- The journal lines of a report are read as its history.
use Rattle.std.proofs.Common.{◌≡◌, ℕ, ◌+◌, ◌-◌, ◌^◌, ◌<◌, Bool, true, false, cond, not, List, [], ◌∷◌, ◌++◌, length, map, take, Some, refl, ap, ◌∙◌, arith, append_assoc}
use Rattle.std.specs.Prelude.{◌==◌, ◌&&◌, flat_map, codes}
use Rattle.std.specs.List.{list_all, slice_split, range_with_len, AllByRecursion}
use Rattle.std.specs.Fmt.{decimal}
use Rattle.std.specs.Str.{bytes_eq}
use Rattle.std.proofs.lemmas.Bool.{and_parts, and_from, ne_eqb}
use Rattle.std.proofs.lemmas.List.Splits.{slice_split_at, slice_split_none}
use Rattle.oct_text.specs.Printing.{list_spelling}
use Rattle.oct_text.proofs.Written.{count_of-decimal}
use Rattle.run_script.specs.Jobs.{JobView, steps, turns_of, box_count}
use Rattle.mesh_base.specs.declared.answer.Answer.{Answer}
use Rattle.mesh_base.specs.declared.answer.Route.{Route}
use Rattle.mesh_base.specs.declared.answer.Route.TheVariants as routes
use Rattle.step_registry.specs.declared.event.Event.{Event}
use Rattle.step_registry.specs.declared.event.Event.TheVariants.{Publish, Pin, Unpin, Close}
use Rattle.report.specs.Report.{line, route_word, list_line, answer_words, answer_text, listed, session_words, session_text, event_words, event_text, journal_text, sizes_text, report_text}
use Rattle.report.specs.Printed.{is_lf, is_space, lines_of, words_of, event_of, events_of, is_journal, behind_journal, printed_journal}
use Rattle.report.proofs.Bytes.{both-all, decimal-all, spelling-all, is_free, none-passes}

-- ---- lines

-- a line without a line feed in front of other text is its first line
pub line-first : (text rest : List ℕ) → list_all (is_free is_lf) text ≡ true → lines_of (line text ++ rest) ≡ text ∷ lines_of rest
line-first text rest free = ap lines_of (append_assoc text (10 ∷ []) rest) ∙ slice_split_at is_lf text 10 rest (none-passes is_lf text free) refl

-- ---- events

-- the numbers of an event are small
abbrev pub Fits : Event → Type 0
Fits (Publish k) = k < 2 ^ 32
Fits (Pin s k) = (s < 2 ^ 32) × (k < 2 ^ 32)
Fits (Unpin s k a) = (s < 2 ^ 32) × (k < 2 ^ 32)
Fits Close = Unit {0}

-- an unpin as it is read
abbrev pub as_read : Event → Event
as_read (Publish k) = Publish k
as_read (Pin s k) = Pin s k
as_read (Unpin s k a) = Unpin s k true
as_read Close = Close

digit-no_lf : (d : ℕ) → d < 10 → is_free is_lf (48 + d) ≡ true
digit-no_lf d lt = ap not (ne_eqb (48 + d) 10 (λ e. absurd (omega arith)))

digit-no_space : (d : ℕ) → d < 10 → is_free is_space (48 + d) ≡ true
digit-no_space d lt = ap not (ne_eqb (48 + d) 32 (λ e. absurd (omega arith)))

decimal-no_lf : (n : ℕ) → list_all (is_free is_lf) (decimal n) ≡ true
decimal-no_lf n = decimal-all (is_free is_lf) digit-no_lf n

decimal-no_space : (n : ℕ) → list_all (is_free is_space) (decimal n) ≡ true
decimal-no_space n = decimal-all (is_free is_space) digit-no_space n

pair-no_lf : (s k : ℕ) → list_all (is_free is_lf) (decimal s ++ 32 ∷ [] ++ decimal k) ≡ true
pair-no_lf s k =
    both-all (is_free is_lf) (decimal s ++ 32 ∷ []) (decimal k) (both-all (is_free is_lf) (decimal s) (32 ∷ []) (decimal-no_lf s) refl) (decimal-no_lf k)

event-no_lf : (e : Event) → list_all (is_free is_lf) (event_words e) ≡ true
event-no_lf (Publish k) = decimal-no_lf k
event-no_lf (Pin s k) = pair-no_lf s k
event-no_lf (Unpin s k a) = pair-no_lf s k
event-no_lf Close = refl

one-word : (k : ℕ) → slice_split is_space (decimal k) ≡ decimal k ∷ []
one-word k = slice_split_none is_space (decimal k) (none-passes is_space (decimal k) (decimal-no_space k))

two-words : (s k : ℕ) → slice_split is_space (decimal s ++ 32 ∷ decimal k) ≡ decimal s ∷ decimal k ∷ []
two-words s k =
    slice_split_at is_space (decimal s) 32 (decimal k) (none-passes is_space (decimal s) (decimal-no_space s)) refl ∙ ap (λ ws. decimal s ∷ ws) (one-word k)

pub event-again : (e : Event) → Fits e → event_of (words_of (event_words e)) ≡ Some (as_read e)
event-again (Publish k) f = rw (one-word k, count_of-decimal k (2 ^ 32 - 1) (omega arith) (omega arith)) refl
event-again (Pin s k) f =
    ap (λ t. event_of (words_of (codes "pin " ++ t))) (append_assoc (decimal s) (32 ∷ []) (decimal k))
    ∙ rw (two-words s k, count_of-decimal s (2 ^ 32 - 1) (omega (arith, f.0)) (omega (arith, f.0)), count_of-decimal k (2 ^ 32 - 1) (omega (arith, f.1)) (omega (arith, f.1))) refl
event-again (Unpin s k a) f =
    ap (λ t. event_of (words_of (codes "unpin " ++ t))) (append_assoc (decimal s) (32 ∷ []) (decimal k))
    ∙ rw (two-words s k, count_of-decimal s (2 ^ 32 - 1) (omega (arith, f.0)) (omega (arith, f.0)), count_of-decimal k (2 ^ 32 - 1) (omega (arith, f.1)) (omega (arith, f.1))) refl
event-again Close f = refl

not_end : (e : Event) → bytes_eq (event_words e) (codes "end") ≡ false
not_end (Publish k) = refl
not_end (Pin s k) = refl
not_end (Unpin s k a) = refl
not_end Close = refl

one-more : (l : List ℕ) (ls : List (List ℕ)) (e : Event) (es : List Event) → bytes_eq l (codes "end") ≡ false → event_of (words_of l) ≡ Some e → events_of ls ≡ Some es → events_of (l ∷ ls) ≡ Some (e ∷ es)
one-more l ls e es last is more = rw (last, is, more) refl

pub events-again : (h : List Event) → AllByRecursion Fits h → events_of (lines_of (flat_map event_text h ++ line (codes "end"))) ≡ Some (map as_read h)
events-again [] f = refl
events-again (e ∷ es) f =
    let rest = flat_map event_text es ++ line (codes "end") in
    ap (λ t. events_of (lines_of t)) (append_assoc (event_text e) (flat_map event_text es) (line (codes "end")))
    ∙ (ap events_of (line-first (event_words e) rest (event-no_lf e))
    ∙ one-more (event_words e) (lines_of rest) (as_read e) (map as_read es) (not_end e) (event-again e f.0) (events-again es f.1))

-- ---- what stands in front of the journal

-- neither a line feed nor a `j`
abbrev pub is_quiet : ℕ → Bool
is_quiet b = not (b == 10) && not (b == 106)

-- the text is passed over, whatever stands behind it
abbrev pub Passed : List ℕ → Type 0
Passed t = (rest : List ℕ) → behind_journal (lines_of (t ++ rest)) ≡ behind_journal (lines_of rest)

no_lf : (xs : List ℕ) → list_all is_quiet xs ≡ true → list_all (is_free is_lf) xs ≡ true
no_lf [] q = refl
no_lf (x ∷ xs) q =
    let parts = and_parts (is_quiet x) (list_all is_quiet xs) q in let here = and_parts (not (x == 10)) (not (x == 106)) parts.0 in
    and_from (not (x == 10)) (list_all (is_free is_lf) xs) here.0 (no_lf xs parts.1)

no_journal : (xs : List ℕ) → list_all is_quiet xs ≡ true → is_journal xs ≡ false
no_journal [] q = refl
no_journal (x ∷ xs) q =
    let parts = and_parts (is_quiet x) (list_all is_quiet xs) q in let here = and_parts (not (x == 10)) (not (x == 106)) parts.0 in
    first (x == 106) here.1
  where
    first : (b : Bool) → not b ≡ true → (b && bytes_eq (take 7 xs) (codes "ournal ")) ≡ false
    first true e = absurd cc
    first false e = refl

pub quiet-line : (t : List ℕ) → list_all is_quiet t ≡ true → Passed (line t)
quiet-line t q rest =
    ap behind_journal (line-first t rest (no_lf t q)) ∙ ap (λ b. cond b (lines_of rest) (behind_journal (lines_of rest))) (no_journal t q)

pub passed-both : (a b : List ℕ) → Passed a → Passed b → Passed (a ++ b)
passed-both a b p q rest = ap (λ t. behind_journal (lines_of t)) (append_assoc a b rest) ∙ (p (b ++ rest) ∙ q rest)

pub passed-all : {X : Type 0} (f : X → List ℕ) → ((x : X) → Passed (f x)) → (xs : List X) → Passed (flat_map f xs)
passed-all f each [] rest = refl
passed-all f each (x ∷ xs) rest = passed-both (f x) (flat_map f xs) (each x) (passed-all f each xs) rest

pub digit-quiet : (d : ℕ) → d < 10 → is_quiet (48 + d) ≡ true
digit-quiet d lt = and_from (not (48 + d == 10)) (not (48 + d == 106)) (ap not (ne_eqb (48 + d) 10 (λ e. absurd (omega arith)))) (ap not (ne_eqb (48 + d) 106 (λ e. absurd (omega arith))))

pub decimal-quiet : (n : ℕ) → list_all is_quiet (decimal n) ≡ true
decimal-quiet n = decimal-all is_quiet digit-quiet n

route-quiet : (r : Route) → list_all is_quiet (route_word r) ≡ true
route-quiet routes.Probe = refl
route-quiet routes.Walk = refl
route-quiet routes.Scan = refl

answer-quiet : (a : Answer) → list_all is_quiet (answer_words a) ≡ true
answer-quiet a =
    let t1 = codes "box " ++ decimal a.query in let t2 = t1 ++ codes " step " in let t3 = t2 ++ decimal a.step in let t4 = t3 ++ codes " route " in
    let t5 = t4 ++ route_word a.route in let t6 = t5 ++ codes " count " in
    let q2 = both-all is_quiet t1 (codes " step ") (decimal-quiet a.query) refl in let q3 = both-all is_quiet t2 (decimal a.step) q2 (decimal-quiet a.step) in
    let q4 = both-all is_quiet t3 (codes " route ") q3 refl in let q5 = both-all is_quiet t4 (route_word a.route) q4 (route-quiet a.route) in
    let q6 = both-all is_quiet t5 (codes " count ") q5 refl in both-all is_quiet t6 (decimal (length a.vertices)) q6 (decimal-quiet (length a.vertices))

session-quiet : (job : JobView) (s : ℕ) → list_all is_quiet (session_words job s) ≡ true
session-quiet job s =
    let t1 = codes "session " ++ decimal s in let t2 = t1 ++ codes " boxes " in
    both-all is_quiet t2 (decimal (box_count (turns_of job s))) (both-all is_quiet t1 (codes " boxes ") (decimal-quiet s) refl) (decimal-quiet (box_count (turns_of job s)))

pub list-passed : (ns : List ℕ) → Passed (list_line ns)
list-passed [] rest = refl
list-passed (n ∷ ns) rest = quiet-line (list_spelling (n ∷ ns)) (spelling-all is_quiet digit-quiet refl n ns) rest

answer-passed : (a : Answer) → Passed (answer_text a)
answer-passed a = passed-both (line (answer_words a)) (list_line a.vertices) (quiet-line (answer_words a) (answer-quiet a)) (list-passed a.vertices)

session-passed : (job : JobView) (h : List Event) (s : ℕ) → Passed (session_text job h s)
session-passed job h s =
    passed-both (line (session_words job s)) (flat_map answer_text (listed job h s))
    (quiet-line (session_words job s) (session-quiet job s))
    (passed-all answer_text answer-passed (listed job h s))

pub sizes-passed : (job : JobView) → Passed (sizes_text job)
sizes-passed job =
    passed-both (line (codes "steps " ++ decimal (steps job))) (line (codes "sessions " ++ decimal (length job.sessions)))
    (quiet-line (codes "steps " ++ decimal (steps job)) (decimal-quiet (steps job)))
    (quiet-line (codes "sessions " ++ decimal (length job.sessions)) (decimal-quiet (length job.sessions)))

pub session_line-passed : (job : JobView) (s : ℕ) → Passed (line (session_words job s))
session_line-passed job s = quiet-line (session_words job s) (session-quiet job s)

-- ---- the whole text

journal-found : (n : ℕ) (rest : List ℕ) → behind_journal (lines_of (line (codes "journal " ++ decimal n) ++ rest)) ≡ lines_of rest
journal-found n rest = ap behind_journal (line-first (codes "journal " ++ decimal n) rest (decimal-no_lf n))

-- a text that ends with the lines of a journal, behind lines that are passed over
pub journal-behind : (front : List ℕ) (h : List Event) → Passed front → AllByRecursion Fits h
    → printed_journal (front ++ journal_text h ++ line (codes "end")) ≡ Some (map as_read h)
unfolding printed_journal
journal-behind front h p f =
    let end = line (codes "end") in let first = line (codes "journal " ++ decimal (length h)) in
    ap events_of
    (ap (λ t. behind_journal (lines_of t)) (append_assoc front (journal_text h) end)
    ∙ (p (journal_text h ++ end)
    ∙ (ap (λ t. behind_journal (lines_of t)) (append_assoc first (flat_map event_text h) end) ∙ journal-found (length h) (flat_map event_text h ++ end))))
    ∙ events-again h f

pub journal-again : (job : JobView) (h : List Event) → AllByRecursion Fits h → printed_journal (report_text job h) ≡ Some (map as_read h)
unfolding report_text
journal-again job h f =
    let name = line (codes "octopus report 1") in let sessions = flat_map (session_text job h) (range_with_len 0 (length job.sessions)) in
    journal-behind (name ++ sizes_text job ++ sessions) h
    (passed-both (name ++ sizes_text job) sessions (passed-both name (sizes_text job) (quiet-line (codes "octopus report 1") refl) (sizes-passed job))
    (passed-all (session_text job h) (session-passed job h) (range_with_len 0 (length job.sessions))))
    f
