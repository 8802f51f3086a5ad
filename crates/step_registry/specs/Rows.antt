-- The rows of shares at home, after each event.
use Rattle.std.specs.Prelude.{◌≡◌, ℕ, ◌+◌, ◌-◌, ◌==◌, ◌≤◌, ◌<◌, ◌≢◌, nat_lt, Bool, true, false, cond, List, [], ◌∷◌, ◌++◌, length, map, slice_index_or, slice_set, Option, Some, None, refl}
use Rattle.std.specs.List.{filter, range_with_len, sum_by, remove}
use Rattle.std.proofs.Common.{arith, suc, zero, sym, ◌∙◌, ap, le_refl}
use Rattle.std.proofs.lemmas.List.{map-append}
use Rattle.std.proofs.lemmas.List.Sums.{sum_by-set, sum_by-cons, get_or-le-sum_by}
use Rattle.std.proofs.lemmas.List.Elements.{filter-append}
use Rattle.std.proofs.lemmas.Bool.{true≢false, eqb-true, eqb-false, ltb-true}
use Rattle.std.proofs.lemmas.Bool.Decides.{nat_tests}
use Rattle.run_script.specs.Jobs.{JobView}
use Rattle.step_view.specs.StepView.{StepView, step_of}
use Rattle.step_view.specs.Rows.{SharesView, no_step}
use Rattle.step_registry.specs.declared.event.Event.TheVariants.{Publish, Pin, Unpin}
use Rattle.step_registry.specs.declared.event.SessionState.{SessionState}
use Rattle.step_registry.specs.Core.{State, fresh, session_of, pinned, unpinned, effect, after, has_out, outs, is_out, older, row_of}
use Rattle.step_registry.specs.CoreLaws.{IsSound}

-- the rows of the steps below newest
abbrev pub older_rows : JobView → State → List SharesView
older_rows job st = map (row_of job st.sessions) (older st)

-- ranges
range_split : (a i j : ℕ) → range_with_len a (i + j) ≡ range_with_len a i ++ range_with_len (a + i) j
range_split a zero j = grind arith
range_split a (suc i) j =
    let e : suc i + j ≡ suc (i + j) = omega arith in let m : (a + 1) + i ≡ a + suc i = omega arith in
    ap (range_with_len a) e ∙ ap (λ l. a ∷ l) (range_split (a + 1) i j ∙ ap (λ b. range_with_len (a + 1) i ++ range_with_len b j) m)

cond_rows : (f g : ℕ → SharesView) (a : ℕ) (P Q : List ℕ) (b c : Bool) → b ≡ c → f a ≡ g a → map f P ≡ map g Q
    → map f (cond b (a ∷ P) P) ≡ map g (cond c (a ∷ Q) Q)
cond_rows f g a P Q true true e h r = cc
cond_rows f g a P Q true false e h r = absurd (true≢false e)
cond_rows f g a P Q false true e h r = absurd (true≢false (sym e))
cond_rows f g a P Q false false e h r = r

pub same_rows : (p q : ℕ → Bool) (f g : ℕ → SharesView) (a n : ℕ)
    → ((k : ℕ) → a ≤ k → k < a + n → (p k ≡ q k) × (f k ≡ g k))
    → map f (filter p (range_with_len a n)) ≡ map g (filter q (range_with_len a n))
same_rows p q f g a zero each = refl
same_rows p q f g a (suc n) each =
    let here = each a (le_refl a) (omega arith) in
    cond_rows f g a (filter p (range_with_len (a + 1) n)) (filter q (range_with_len (a + 1) n)) (p a) (q a) here.0 here.1 (same_rows p q f g (a + 1) n (λ k lo hi. each k (omega arith) (omega arith)))

pub has_out-same : (k : ℕ) → has_out k (Some k) ≡ 1
has_out-same k = grind (arith, nat_tests)

pub has_out-other : (j k : ℕ) → j ≢ k → has_out j (Some k) ≡ 0
has_out-other j k ne = grind (arith, nat_tests)

pub outs-set : (k : ℕ) (ws : List SessionState) (s : ℕ) (me : SessionState) → s < length ws
    → outs k (slice_set ws s me) + has_out k (slice_index_or ws s fresh).out ≡ outs k ws + has_out k me.out
outs-set k ws s me lt = sum_by-set (λ w. has_out k w.out) ws s me fresh lt

-- the number of sessions with a step out depends on that step alone
pub is_out-same : (ws vs : List SessionState) (k : ℕ) → outs k ws ≡ outs k vs → is_out ws k ≡ is_out vs k
is_out-same ws vs k e = ap (λ n. nat_lt 0 n) e

row-same : (job : JobView) (ws vs : List SessionState) (k : ℕ) → outs k ws ≡ outs k vs
    → row_of job ws k ≡ row_of job vs k
row-same job ws vs k e = ap (λ n. let v : SharesView = record { step = step_of job k; count = (length job.sessions + 1) - n } in v) e

-- rows where nothing below newest changes
same_older : (job : JobView) (ws vs : List SessionState) (a n : ℕ)
    → ((k : ℕ) → a ≤ k → k < a + n → outs k ws ≡ outs k vs)
    → map (row_of job ws) (filter (is_out ws) (range_with_len a n))
    ≡ map (row_of job vs) (filter (is_out vs) (range_with_len a n))
same_older job ws vs a n each = same_rows (is_out ws) (is_out vs) (row_of job ws) (row_of job vs) a n
    (λ k lo hi. (is_out-same ws vs k (each k lo hi), row-same job ws vs k (each k lo hi)))

pub rows_publish : (job : JobView) (st : State) → older_rows job (effect st (Publish (st.newest + 1)))
    ≡ older_rows job st ++ cond (is_out st.sessions st.newest) (row_of job st.sessions st.newest ∷ []) []
rows_publish job st =
    let p = is_out st.sessions in let f = row_of job st.sessions in let n = st.newest in
    ap (λ l. map f (filter p l)) (range_split 0 n 1) ∙ (ap (map f) (filter-append p (range_with_len 0 n) (range_with_len (0 + n) 1)) ∙ (map-append f (filter p (range_with_len 0 n)) (filter p (range_with_len (0 + n) 1)) ∙ ap (λ l. map f (filter p (range_with_len 0 n)) ++ l) (last_row job st)))
  where
    last_row : (job : JobView) (st : State) → map (row_of job st.sessions)
        (filter (is_out st.sessions) (range_with_len (0 + st.newest) 1))
        ≡ cond (is_out st.sessions st.newest) (row_of job st.sessions st.newest ∷ []) []
    last_row job st = let z : 0 + st.newest ≡ st.newest = omega arith in ap (λ n. map (row_of job st.sessions) (filter (is_out st.sessions) (range_with_len n 1))) z ∙ split (row_of job st.sessions) (is_out st.sessions st.newest) st.newest
      where
        split : (f : ℕ → SharesView) (b : Bool) (n : ℕ) → map f (cond b (n ∷ []) []) ≡ cond b (f n ∷ []) []
        split f true n = refl
        split f false n = refl

-- a session gets newest out
pub outs-pinned : (st : State) (s k : ℕ) → s < length st.sessions → (session_of st s).out ≡ None → (j : ℕ)
    → outs j (slice_set st.sessions s (pinned k (session_of st s))) ≡ outs j st.sessions + has_out j (Some k)
outs-pinned st s k lt e j = let moved = outs-set j st.sessions s (pinned k (session_of st s)) lt in let z : has_out j (session_of st s).out ≡ 0 = ap (has_out j) e in omega arith

-- a session gives its step back
pub outs-unpinned : (st : State) (s k : ℕ) (answered : Bool) → s < length st.sessions
    → (session_of st s).out ≡ Some k → (j : ℕ) → outs j
    (slice_set st.sessions s (unpinned answered (session_of st s))) + has_out j (Some k) ≡ outs j st.sessions
outs-unpinned st s k a lt e j = let moved = outs-set j st.sessions s (unpinned a (session_of st s)) lt in let z : has_out j (session_of st s).out ≡ has_out j (Some k) = ap (has_out j) e in omega arith

pub rows_pin : (job : JobView) (st : State) (s k : ℕ) → s < length st.sessions → (session_of st s).out ≡ None
    → st.newest ≤ k → older_rows job (effect st (Pin s k)) ≡ older_rows job st
rows_pin job st s k lt e le = same_older job (effect st (Pin s k)).sessions st.sessions 0 st.newest (λ j lo hi. let ne : j ≢ k = omega arith in let z = has_out-other j k ne in let m = outs-pinned st s k lt e j in omega arith)

pub rows_unpin_newest : (job : JobView) (st : State) (s k : ℕ) (answered : Bool) → s < length st.sessions
    → (session_of st s).out ≡ Some k → st.newest ≤ k
    → older_rows job (effect st (Unpin s k answered)) ≡ older_rows job st
rows_unpin_newest job st s k a lt e le = same_older job (effect st (Unpin s k a)).sessions st.sessions 0 st.newest (λ j lo hi. let ne : j ≢ k = omega arith in let z = has_out-other j k ne in let m = outs-unpinned st s k a lt e j in omega arith)

-- an older step: the rows before it, its own, and the rows after it
abbrev pub rows_between : JobView → List SessionState → ℕ → ℕ → List SharesView
rows_between job ws a n = map (row_of job ws) (filter (is_out ws) (range_with_len a n))

one_more : (f : ℕ → SharesView) (b : Bool) (k : ℕ) (R : List ℕ)
    → map f (cond b (k ∷ R) R) ≡ cond b (f k ∷ []) [] ++ map f R
one_more f true k R = refl
one_more f false k R = refl

pub rows_split : (job : JobView) (ws : List SessionState) (n k : ℕ) → k < n
    → rows_between job ws 0 n ≡ rows_between job ws 0 k
    ++ (cond (is_out ws k) (row_of job ws k ∷ []) [] ++ rows_between job ws (k + 1) (n - k - 1))
rows_split job ws n k lt =
    let p = is_out ws in let f = row_of job ws in
    let e : n ≡ k + suc (n - k - 1) = omega arith in let z : 0 + k ≡ k = omega arith in
    let cut : range_with_len 0 n ≡ range_with_len 0 k ++ (k ∷ range_with_len (k + 1) (n - k - 1)) = ap (range_with_len 0) e ∙ (range_split 0 k (suc (n - k - 1)) ∙ ap (λ b. range_with_len 0 k ++ range_with_len b (suc (n - k - 1))) z) in
    ap (λ l. map f (filter p l)) cut ∙ (ap (map f) (filter-append p (range_with_len 0 k) (k ∷ range_with_len (k + 1) (n - k - 1))) ∙ (map-append f (filter p (range_with_len 0 k)) (filter p (k ∷ range_with_len (k + 1) (n - k - 1))) ∙ ap (λ l. map f (filter p (range_with_len 0 k)) ++ l) (one_more f (p k) k (filter p (range_with_len (k + 1) (n - k - 1))))))

pub rows_unpin_older : (job : JobView) (st : State) (s k : ℕ) (answered : Bool) → s < length st.sessions → (session_of st s).out ≡ Some k → k < st.newest → let ws = (effect st (Unpin s k answered)).sessions in older_rows job (effect st (Unpin s k answered)) ≡ rows_between job st.sessions 0 k ++ (cond (is_out ws k) (row_of job ws k ∷ []) [] ++ rows_between job st.sessions (k + 1) (st.newest - k - 1))
rows_unpin_older job st s k a lt e below =
    let ws = (effect st (Unpin s k a)).sessions in
    let same : (j : ℕ) → j ≢ k → outs j ws ≡ outs j st.sessions = λ j ne. (let z = has_out-other j k ne in let m = outs-unpinned st s k a lt e j in omega arith) in
    let low : rows_between job ws 0 k ≡ rows_between job st.sessions 0 k = same_older job ws st.sessions 0 k (λ j lo hi. same j (omega arith)) in
    let high : rows_between job ws (k + 1) (st.newest - k - 1) ≡ rows_between job st.sessions (k + 1) (st.newest - k - 1) = same_older job ws st.sessions (k + 1) (st.newest - k - 1) (λ j lo hi. same j (omega arith)) in
    rows_split job ws st.newest k below ∙ (ap (λ l. l ++ (cond (is_out ws k) (row_of job ws k ∷ []) [] ++ rows_between job ws (k + 1) (st.newest - k - 1))) low ∙ ap (λ l. rows_between job st.sessions 0 k ++ (cond (is_out ws k) (row_of job ws k ∷ []) [] ++ l)) high)

-- a session that has k out is one of those that are counted
pub out-counted : (st : State) (s k : ℕ) → s < length st.sessions → (session_of st s).out ≡ Some k
    → 0 < outs k st.sessions
out-counted st s k lt e = let le = get_or-le-sum_by (λ w. has_out k w.out) st.sessions s fresh lt in let z : has_out k (session_of st s).out ≡ has_out k (Some k) = ap (has_out k) e in let one = has_out-same k in omega arith

-- no more are out than there are sessions
out-one : (k : ℕ) (o : Option ℕ) → has_out k o ≤ 1
out-one k None = omega arith
out-one k (Some j) = grind (arith, nat_tests)

pub outs-le : (k : ℕ) (ws : List SessionState) → outs k ws ≤ length ws
outs-le k [] = omega arith
outs-le k (w ∷ ws) = omega (arith, outs-le k ws, out-one k w.out, sum_by-cons (λ x. has_out k x.out) w ws)

-- the row at a place, and its number
abbrev pub row_back : List SharesView → ℕ → SharesView
row_back rows i = slice_index_or rows i (record { step = no_step; count = 0 })

abbrev pub number_at : List SharesView → ℕ → ℕ
number_at rows i = (row_back rows i).step.number

within : (job : JobView) (ws : List SessionState) (a n : ℕ) (R : List ℕ) (b : Bool) (i : ℕ)
    → ((j : ℕ) → j < length (map (row_of job ws) R)
    → (a + 1 ≤ number_at (map (row_of job ws) R) j) × (number_at (map (row_of job ws) R) j < (a + 1) + n))
    → i < length (map (row_of job ws) (cond b (a ∷ R) R))
    → (a ≤ number_at (map (row_of job ws) (cond b (a ∷ R) R)) i)
    × (number_at (map (row_of job ws) (cond b (a ∷ R) R)) i < a + suc n)
within job ws a n R true zero more lt = (le_refl a, omega arith)
within job ws a n R true (suc i) more lt = let r = more i (omega arith) in (omega arith, omega arith)
within job ws a n R false i more lt = let r = more i lt in (omega arith, omega arith)

pub numbers_within : (job : JobView) (ws : List SessionState) (a n i : ℕ) → i < length (rows_between job ws a n)
    → (a ≤ number_at (rows_between job ws a n) i) × (number_at (rows_between job ws a n) i < a + n)
numbers_within job ws a zero i lt = absurd (omega arith)
numbers_within job ws a (suc n) i lt = within job ws a n (filter (is_out ws) (range_with_len (a + 1) n))
    (is_out ws a) i (λ j l. numbers_within job ws (a + 1) n j l) lt

pub place : (before : List SharesView) (row : SharesView) (after : List SharesView) (k i : ℕ) → row.step.number ≡ k
    → ((j : ℕ) → j < length before → number_at before j ≢ k) → ((j : ℕ) → j < length after → number_at after j ≢ k)
    → i < length (before ++ row ∷ after) → number_at (before ++ row ∷ after) i ≡ k → i ≡ length before
place [] row after k zero e low high lt here = refl
place [] row after k (suc i) e low high lt here = absurd (high i (omega arith) here)
place (b ∷ before) row after k zero e low high lt here = absurd (low 0 (omega arith) here)
place (b ∷ before) row after k (suc i) e low high lt here = ap suc (place before row after k i e (λ j l. low (suc j) (omega arith)) high (omega arith) here)

-- a share came back into the row at a place, which was handed out where it then had all its shares
pub record IsBackAt (rows new : List SharesView) (share : StepView) (all : ℕ) (handed : Option SharesView)
    (place : ℕ) : Type 0 where
  pub within : place < length rows
  pub here : number_at rows place ≡ share.number
  pub full : (row_back rows place).count + 1 ≡ all
      → (new ≡ remove rows place) × (handed ≡ Some (record { step = share; count = all }))
  pub partly : (row_back rows place).count + 1 < all
      → (new ≡ slice_set rows place (record { step = share; count = (row_back rows place).count + 1 }))
      × (handed ≡ None)

-- no session has out what isn't published
out-zero : (k : ℕ) (o : Option ℕ) → ((j : ℕ) → o ≡ Some j → j ≢ k) → has_out k o ≡ 0
out-zero k None low = refl
out-zero k (Some j) low = has_out-other k j (λ e. low j refl (sym e))

outs-zero : (k : ℕ) (ws : List SessionState) → ((i j : ℕ) → (slice_index_or ws i fresh).out ≡ Some j → j ≢ k)
    → outs k ws ≡ 0
outs-zero k [] low = refl
outs-zero k (w ∷ ws) low = omega (arith, out-zero k w.out (low 0), outs-zero k ws (λ i j e. low (suc i) j e), sum_by-cons (λ x. has_out k x.out) w ws)

pub outs_above : (job : JobView) (st : State) (k : ℕ) → IsSound job st → st.newest < k → outs k st.sessions ≡ 0
outs_above job st k sound lt = outs-zero k st.sessions (λ i j e. let le = (sound.each i).out_below j e in omega arith)

-- there are at most as many rows as sessions
one_range_none : (a n : ℕ) → sum_by (λ k. has_out k None) (range_with_len a n) ≡ 0
one_range_none a zero = refl
one_range_none a (suc n) = omega (arith, one_range_none (a + 1) n, sum_by-cons (λ k. has_out k None) a (range_with_len (a + 1) n))

one_range_below : (a n j : ℕ) → j < a → sum_by (λ k. has_out k (Some j)) (range_with_len a n) ≡ 0
one_range_below a zero j lt = refl
one_range_below a (suc n) j lt = let z : has_out a (Some j) ≡ 0 = has_out-other a j (omega arith) in omega (arith, z, one_range_below (a + 1) n j (omega arith), sum_by-cons (λ k. has_out k (Some j)) a (range_with_len (a + 1) n))

add_one : (a n j : ℕ) (b : Bool) → (j == a) ≡ b → sum_by (λ k. has_out k (Some j)) (range_with_len (a + 1) n) ≤ 1
    → sum_by (λ k. has_out k (Some j)) (range_with_len a (suc n)) ≤ 1
add_one a n j true e more =
    let same : j ≡ a = eqb-true j a e in let rest = one_range_below (a + 1) n j (omega arith) in
    omega (arith, out-one a (Some j), rest, sum_by-cons (λ k. has_out k (Some j)) a (range_with_len (a + 1) n))
add_one a n j false e more =
    let z = has_out-other a j (λ same. eqb-false j a e (sym same)) in omega (arith, z, more, sum_by-cons (λ k. has_out k (Some j)) a (range_with_len (a + 1) n))

one_range : (a n j : ℕ) → sum_by (λ k. has_out k (Some j)) (range_with_len a n) ≤ 1
one_range a zero j = omega arith
one_range a (suc n) j = add_one a n j (j == a) refl (one_range (a + 1) n j)

one_of : (a n : ℕ) (o : Option ℕ) → sum_by (λ k. has_out k o) (range_with_len a n) ≤ 1
one_of a n None = let z = one_range_none a n in omega arith
one_of a n (Some j) = one_range a n j

total-cons : (w : SessionState) (ws : List SessionState) (xs : List ℕ)
    → sum_by (λ k. outs k (w ∷ ws)) xs ≡ sum_by (λ k. has_out k w.out) xs + sum_by (λ k. outs k ws) xs
total-cons w ws [] = refl
total-cons w ws (x ∷ xs) = omega (arith, total-cons w ws xs, sum_by-cons (λ k. outs k (w ∷ ws)) x xs, sum_by-cons (λ k. has_out k w.out) x xs, sum_by-cons (λ k. outs k ws) x xs, sum_by-cons (λ y. has_out x y.out) w ws)

total-none : (xs : List ℕ) → sum_by (λ k. outs k []) xs ≡ 0
total-none [] = refl
total-none (x ∷ xs) = omega (arith, total-none xs, sum_by-cons (λ k. outs k []) x xs)

total-le : (a n : ℕ) (ws : List SessionState) → sum_by (λ k. outs k ws) (range_with_len a n) ≤ length ws
total-le a n [] = let z = total-none (range_with_len a n) in omega arith
total-le a n (w ∷ ws) = omega (arith, total-le a n ws, total-cons w ws (range_with_len a n), one_of a n w.out)

counted : (b : Bool) (ws : List SessionState) (x : ℕ) (xs : List ℕ) → is_out ws x ≡ b
    → length (filter (is_out ws) xs) ≤ sum_by (λ k. outs k ws) xs
    → length (cond b (x ∷ filter (is_out ws) xs) (filter (is_out ws) xs)) ≤ outs x ws + sum_by (λ k. outs k ws) xs
counted true ws x xs e more = let some : 0 < outs x ws = ltb-true 0 (outs x ws) e in omega arith
counted false ws x xs e more = omega arith

kept-le : (ws : List SessionState) (xs : List ℕ) → length (filter (is_out ws) xs) ≤ sum_by (λ k. outs k ws) xs
kept-le ws [] = omega arith
kept-le ws (x ∷ xs) = omega (arith, counted (is_out ws x) ws x xs refl (kept-le ws xs), sum_by-cons (λ k. outs k ws) x xs)

length-rows : (f : ℕ → SharesView) (xs : List ℕ) → length (map f xs) ≡ length xs
length-rows f [] = refl
length-rows f (x ∷ xs) = ap suc (length-rows f xs)

pub rows_few : (job : JobView) (st : State) → length (older_rows job st) ≤ length st.sessions
rows_few job st = omega (arith, length-rows (row_of job st.sessions) (older st), kept-le st.sessions (range_with_len 0 st.newest), total-le 0 st.newest st.sessions)

-- the numbers of the rows
abbrev pub numbers : List SharesView → List ℕ
numbers rows = map (λ (r : SharesView). r.step.number) rows

pub numbers-rows : (job : JobView) (ws : List SessionState) (xs : List ℕ) → numbers (map (row_of job ws) xs) ≡ xs
numbers-rows job ws [] = refl
numbers-rows job ws (x ∷ xs) = ap (λ l. x ∷ l) (numbers-rows job ws xs)

pub length-numbers : (rows : List SharesView) → length (numbers rows) ≡ length rows
length-numbers [] = refl
length-numbers (r ∷ rows) = ap suc (length-numbers rows)
