-- Where the answers of one session stand among all.
use Rattle.std.proofs.Common.{◌≡◌, ℕ, zero, suc, ◌+◌, ◌<◌, ◌≤◌, Bool, true, false, cond, List, [], ◌∷◌, ◌++◌, length, map, take, refl, sym, ap, ◌∙◌, arith}
use Rattle.std.specs.Prelude.{◌==◌, filter, slice_index, slice_index_or, All}
use Rattle.std.specs.List.Sorted.{IsStrictlyIncreasing}
use Rattle.std.specs.List.{range_with_len}
use Rattle.std.proofs.lemmas.List.{get_or-map, length-map, map-append, take_all}
use Rattle.std.proofs.lemmas.List.Elements.{filter_more, filter-append, Contains-get_or, All-filter}
use Rattle.mesh_base.specs.declared.answer.Answer.{Answer}
use Rattle.mesh_base.proofs.Ascending.{In-from_Contains, In-filter, In-range}
use Rattle.step_registry.specs.Lines.{of_session}
use Rattle.report.proofs.Ranges.{range_next}
use Rattle.box_watch.specs.Watches.{no_answer, answer_at}
use Rattle.box_watch.specs.Own.{is_own, own_places, own_answers}

-- a read within a list doesn't depend on the default
pub read-any : {X : Type 0} (xs : List X) (i : ℕ) (d e : X) → i < length xs → slice_index_or xs i d ≡ slice_index_or xs i e
read-any [] i d e lt = absurd (omega arith)
read-any (x ∷ xs) zero d e lt = refl
read-any (x ∷ xs) (suc i) d e lt = read-any xs i d e (omega arith)

places-next : (s : ℕ) (answers : List Answer) (n : ℕ) → own_places s answers (n + 1) ≡ own_places s answers n ++ filter (is_own s answers) (n ∷ [])
places-next s answers n = ap (filter (is_own s answers)) (range_next n) ∙ filter-append (is_own s answers) (range_with_len 0 n) (n ∷ [])

-- one more answer was looked at
pub places-more : (s : ℕ) (answers : List Answer) (n : ℕ) (a : Answer) (xs ys : List ℕ) → n < length answers → a ≡ slice_index_or answers n a
    → xs ≡ own_places s answers n → ys ≡ xs ++ cond (a.session == s) (n ∷ []) [] → ys ≡ own_places s answers (n + 1)
places-more s answers n a xs ys lt is ex ey =
    let same : a ≡ answer_at answers n = is ∙ read-any answers n a no_answer lt in
    ey ∙ (ap (λ l. l ++ cond (a.session == s) (n ∷ []) []) ex
    ∙ (ap (λ (b : Answer). own_places s answers n ++ cond (b.session == s) (n ∷ []) []) same ∙ sym (places-next s answers n)))

one : (answers : List Answer) (b : Bool) (n : ℕ) → map (answer_at answers) (cond b (n ∷ []) []) ≡ cond b (answer_at answers n ∷ []) []
one answers true n = refl
one answers false n = refl

-- the answers at these places are those of the session
pub places-map : (s : ℕ) (answers : List Answer) (n : ℕ) → n ≤ length answers → map (answer_at answers) (own_places s answers n) ≡ filter (of_session s) (take n answers)
places-map s answers zero le = refl
places-map s answers (suc n) le =
    let e : suc n ≡ n + 1 = omega arith in let f = answer_at answers in let p = is_own s answers in
    ap (λ m. map f (own_places s answers m)) e
    ∙ (ap (map f) (places-next s answers n)
    ∙ (map-append f (own_places s answers n) (filter p (n ∷ []))
    ∙ (ap (λ l. l ++ map f (filter p (n ∷ []))) (places-map s answers n (omega arith))
    ∙ (ap (λ l. filter (of_session s) (take n answers) ++ l) (one answers (p n) n)
    ∙ (sym (filter_more (of_session s) answers n no_answer (omega arith)) ∙ ap (λ m. filter (of_session s) (take m answers)) (sym e))))))

pub record IsOwn (s : ℕ) (answers : List Answer) (q : ℕ) : Type 0 where
  pub within : q < length (own_places s answers (length answers))
  pub below : slice_index (own_places s answers (length answers)) q < length answers
  pub same : answer_at answers (slice_index (own_places s answers (length answers)) q) ≡ answer_at (own_answers s answers) q

pub own-answer : (s : ℕ) (answers : List Answer) (q : ℕ) → q < length (own_answers s answers) → IsOwn s answers q
own-answer s answers q lt =
    let n = length answers in let places = own_places s answers n in
    let all : map (answer_at answers) places ≡ own_answers s answers = places-map s answers n (omega arith) ∙ ap (filter (of_session s)) (take_all n answers (omega arith)) in
    let len : length places ≡ length (own_answers s answers) = sym (length-map places (answer_at answers)) ∙ ap length all in
    let within : q < length places = omega arith in
    let kept = In-filter (is_own s answers) (range_with_len 0 n) (slice_index places q) (In-from_Contains places (slice_index places q) (Contains-get_or places q 0 within)) in
    let range = In-range 0 n (slice_index places q) kept.1 in
    record {
      within = within;
      below = omega arith;
      same = sym (get_or-map (answer_at answers) places q 0 no_answer within) ∙ ap (λ l. answer_at l q) all;
    }

pub own-ascends : (s : ℕ) (answers : List Answer) (q : ℕ) → All (λ (a : Answer). IsStrictlyIncreasing a.vertices) answers → q < length (own_answers s answers) → IsStrictlyIncreasing (answer_at (own_answers s answers) q).vertices
own-ascends s answers q all lt = All-filter (of_session s) (λ (a : Answer). IsStrictlyIncreasing a.vertices) answers all q no_answer lt
