-- A line that is whole stays the same, however the text goes on.
use Rattle.std.proofs.Common.{◌≡◌, ℕ, zero, suc, min, ◌+◌, ◌<◌, ◌≤◌, Bool, true, false, cond, not, ltb, leb, inl, inr, List, [], ◌∷◌, ◌++◌, length, take, drop, refl, sym, ap, subst, ◌∙◌, arith}
use Rattle.std.specs.List.{prefix_len, list_all}
use Rattle.std.proofs.lemmas.Bool.{cases_lt, lt-ltb, le-ltb, le-leb, lt-leb}
use Rattle.std.proofs.lemmas.List.{append-nil, take-append-le, drop-append-le, length-drop, length-append, length-take}
use Rattle.oct_text.specs.Rest.{is_blank, is_lf, line_len, Rest, behind}
use Rattle.std.specs.Prelude.{◌&&◌}
use Rattle.std.proofs.lemmas.List.Sums.{prefix_len-le-length}
use Rattle.oct_text.specs.Line.{without_cr, IsLong, NoLine, short_or_long, line_front, TakesLine, HasLong, WaitsForLine, HasNoMore}
use Rattle.oct_text.specs.Taken.{Skips, SkippedBy}
use Rattle.oct_text.specs.declared.tokens.Skipped.TheVariants as skipped
use Rattle.oct_text.proofs.TokenLemmas.{prefix_stays, prefix_longer}

line_stays : (bytes more : List ℕ) → line_len bytes < length bytes → line_len (bytes ++ more) ≡ line_len bytes
line_stays bytes more lt = prefix_stays (λ b. not (is_lf b)) bytes more lt

-- the line ends with an LF
pub skips_lf : (old : Rest) (len : ℕ) (new : Rest) → len ≡ line_len old.bytes → len < length old.bytes → new ≡ behind (len + 1) old → Skips old (list_all is_blank (take len old.bytes)) new
skips_lf old len new len-is lt new-is =
    let inside : line_len old.bytes < length old.bytes = omega (arith, len-is) in
    record {
      ended = rw new-is refl;
      shorter = rw new-is (omega (arith, length-drop (len + 1) old.bytes));
      end = rw new-is (omega (arith, length-drop (len + 1) old.bytes));
      again = λ more may.
          let there : ltb (line_len (old.bytes ++ more)) (length (old.bytes ++ more)) ≡ true = lt-ltb _ _ (omega (arith, line_stays old.bytes more inside, length-append old.bytes more)) in
          rw (there, line_stays old.bytes more inside, drop-append-le (line_len old.bytes + 1) old.bytes more (omega arith), new-is, len-is) refl;
      blanks = λ more may.
          rw (line_stays old.bytes more inside, take-append-le (line_len old.bytes) old.bytes more (omega arith), len-is) refl;
    }

-- the text ends in the line
pub skips_end : (old : Rest) (len : ℕ) (new : Rest) → len ≡ line_len old.bytes → len ≤ length old.bytes → length old.bytes ≤ len → old.ended ≡ true → 0 < length old.bytes → new ≡ behind len old
    → Skips old (list_all is_blank (take len old.bytes)) new
skips_end old len new len-is le ge ended some new-is =
    let all : line_len old.bytes ≡ length old.bytes = omega (arith, len-is) in
    let none : ltb (line_len old.bytes) (length old.bytes) ≡ false = le-ltb _ _ (omega arith) in
    let whole : len ≡ length old.bytes = omega arith in
    record {
      ended = rw new-is refl;
      shorter = rw new-is (omega (arith, length-drop len old.bytes));
      end = rw new-is (omega (arith, length-drop len old.bytes));
      again = λ more may. rw (may ended, append-nil old.bytes, none, new-is, whole, append-nil (drop (length old.bytes) old.bytes)) refl;
      blanks = λ more may. rw (may ended, append-nil old.bytes, len-is) refl;
    }

pub skipped-as : (old new : Rest) (blank : Bool) → Skips old blank new → SkippedBy old (cond blank skipped.Blank skipped.Text) new
skipped-as old new true h = h
skipped-as old new false h = h

-- ---- lines of at most so many bytes

min_step : (a b : ℕ) → min (1 + a) (suc b) ≡ 1 + min a b
min_step a b = omega arith

take_first : (p : ℕ → Bool) (k x : ℕ) (xs : List ℕ) (b : Bool) → p x ≡ b → prefix_len p (take k xs) ≡ min (prefix_len p xs) k → prefix_len p (take (suc k) (x ∷ xs)) ≡ min (prefix_len p (x ∷ xs)) (suc k)
take_first p k x xs true e later = simp e (ap (λ (n : ℕ). 1 + n) later ∙ sym (min_step (prefix_len p xs) k))
take_first p k x xs false e later = simp e (omega arith)

pub prefix_len-take : (p : ℕ → Bool) (k : ℕ) (xs : List ℕ) → prefix_len p (take k xs) ≡ min (prefix_len p xs) k
prefix_len-take p zero xs = omega arith
prefix_len-take p (suc k) [] = omega arith
prefix_len-take p (suc k) (x ∷ xs) = take_first p k x xs (p x) refl (prefix_len-take p k xs)

-- what the search among the first most + 2 bytes found
pub record Searched (most : ℕ) (bytes : List ℕ) (len front : ℕ) : Type 0 where
  pub len-is : len ≡ line_len (take front bytes)
  pub front-is : front ≡ min (length bytes) (most + 2)

found_len : (most : ℕ) (bytes : List ℕ) (len front : ℕ) → Searched most bytes len front → len ≡ min (line_len bytes) front
found_len most bytes len front s = s.len-is ∙ prefix_len-take (λ b. not (is_lf b)) front bytes

front_no : (most : ℕ) (bytes : List ℕ) → (line_len bytes < length bytes → line_len bytes < most + 2 → ⊥) → line_front most bytes ≡ cond (leb (most + 2) (length bytes)) IsLong NoLine
unfolding line_front
front_no most bytes absent =
    let none : (ltb (line_len bytes) (length bytes) && ltb (line_len bytes) (most + 2)) ≡ false =
    elim (cases_lt (line_len bytes) (length bytes)) [
      | inl lt ↦ elim (cases_lt (line_len bytes) (most + 2)) [ inl lt2 ↦ absurd (absent lt lt2) | inr le ↦ rw (lt-ltb _ _ lt, le-ltb _ _ le) refl ]
      | inr le ↦ rw (le-ltb _ _ le) refl
    ] in
    rw none refl

front_yes : (most : ℕ) (bytes : List ℕ) → line_len bytes < length bytes → line_len bytes < most + 2 → line_front most bytes ≡ short_or_long most (without_cr (take (line_len bytes) bytes))
unfolding line_front
front_yes most bytes lt lt2 = rw (lt-ltb _ _ lt, lt-ltb _ _ lt2) refl

-- no LF among the first most + 2 bytes, and as many bytes there are
pub far_long : (most : ℕ) (old : Rest) (len front at : ℕ) (new : Rest) → Searched most old.bytes len front → len ≡ front → most + 2 ≤ length old.bytes → at ≡ old.place → new ≡ old → HasLong most old at new
far_long most old len front at new s none enough at-is new-is =
    let n = found_len most old.bytes len front s in
    let far : most + 2 ≤ line_len old.bytes = omega (arith, n, s.front-is) in
    record {
      place = at-is;
      same = new-is;
      long = λ more may.
          let total = length-append old.bytes more in
          let still : most + 2 ≤ line_len (old.bytes ++ more) =
          elim (cases_lt (line_len old.bytes) (length old.bytes)) [
            | inl lt ↦ omega (arith, line_stays old.bytes more lt, far)
            | inr le ↦ omega (arith, far, prefix_longer (λ b. not (is_lf b)) old.bytes more)
          ] in
          front_no most (old.bytes ++ more) (λ a b. omega (arith, b, still)) ∙ rw (le-leb (most + 2) (length (old.bytes ++ more)) (omega (arith, total, enough))) refl;
    }

undecided : (most : ℕ) (bytes : List ℕ) (len front : ℕ) → Searched most bytes len front → len ≡ front → length bytes < most + 2 → line_front most bytes ≡ NoLine
undecided most bytes len front s none few =
    let n = found_len most bytes len front s in
    front_no most bytes (λ a b. omega (arith, n, s.front-is, a)) ∙ rw (lt-leb (most + 2) (length bytes) few) refl

pub waits_for_line : (most : ℕ) (old : Rest) (len front : ℕ) (new : Rest) → Searched most old.bytes len front → len ≡ front → length old.bytes < most + 2 → old.ended ≡ false → new ≡ old → WaitsForLine most old new
waits_for_line most old len front new s none few unended new-is = record { same = new-is; unended = unended; undecided = undecided most old.bytes len front s none few }

pub has_no_more : (most : ℕ) (old : Rest) (len front at : ℕ) (new : Rest) → Searched most old.bytes len front → len ≡ front → length old.bytes < most + 2 → old.ended ≡ true → at ≡ old.place + length old.bytes → new ≡ old → HasNoMore most old at new
has_no_more most old len front at new s none few ended at-is new-is = record { same = new-is; ended = ended; none = undecided most old.bytes len front s none few; place = at-is }

-- there is an LF among the first most + 2 bytes
there_is : (most : ℕ) (bytes more : List ℕ) (len front : ℕ) → Searched most bytes len front → len < front → line_front most (bytes ++ more) ≡ short_or_long most (without_cr (take len bytes))
there_is most bytes more len front s lt =
    let n = found_len most bytes len front s in
    let is : line_len bytes ≡ len = omega (arith, n) in
    let inside : line_len bytes < length bytes = omega (arith, is, s.front-is) in
    let stays = line_stays bytes more inside in
    let total = length-append bytes more in
    front_yes most (bytes ++ more) (omega (arith, stays, inside, total)) (omega (arith, stays, is, s.front-is))
    ∙ rw (stays, take-append-le (line_len bytes) bytes more (omega (arith, inside)), is) refl

pub long_line : (most : ℕ) (old : Rest) (len front at : ℕ) (new : Rest) → Searched most old.bytes len front → len < front → most < length (without_cr (take len old.bytes)) → at ≡ old.place → new ≡ old → HasLong most old at new
long_line most old len front at new s lt much at-is new-is = record {
  place = at-is;
  same = new-is;
  long = λ more may. there_is most old.bytes more len front s lt ∙ rw (lt-leb (length (without_cr (take len old.bytes))) most much) refl;
}

pub takes_line : (most : ℕ) (old : Rest) (len front at : ℕ) (text : List ℕ) (new : Rest) → Searched most old.bytes len front → len < front → length (without_cr (take len old.bytes)) ≤ most
    → at ≡ old.place → text ≡ without_cr (take len old.bytes) → new ≡ behind (len + 1) old → TakesLine most old at text new
takes_line most old len front at text new s lt few at-is text-is new-is =
    let n = found_len most old.bytes len front s in
    let is : len ≡ line_len old.bytes = omega (arith, n) in
    let skips = skips_lf old len new is (omega (arith, s.front-is)) new-is in
    record {
      place = at-is;
      ended = skips.ended;
      shorter = skips.shorter;
      end = skips.end;
      line = λ more may. there_is most old.bytes more len front s lt ∙ rw (le-leb (length (without_cr (take len old.bytes))) most few, text-is) refl;
      behind = skips.again;
    }

pub searched : (most : ℕ) (rest bytes : List ℕ) (len front : ℕ) → rest ≡ bytes → len ≡ line_len (take front rest) → front ≡ min (length rest) (most + 2) → Searched most bytes len front
searched most rest bytes len front same = subst (λ (x : List ℕ). len ≡ line_len (take front x) → front ≡ min (length x) (most + 2) → Searched most bytes len front) (sym same) (λ a b. record { len-is = a; front-is = b })

-- what is known to hold no LF, of the bytes that are looked at
pub known_seen : (known seen n : ℕ) (rest bytes : List ℕ) → rest ≡ bytes → known ≤ line_len bytes → n ≡ min known (length (take seen rest)) → n ≤ line_len (take seen rest)
known_seen known seen n rest bytes same le n-is =
    let far : line_len (take seen rest) ≡ min (line_len rest) seen = prefix_len-take (λ b. not (is_lf b)) seen rest in
    omega (arith, far, ap (λ (x : List ℕ). line_len x) same, length-take seen rest, prefix_len-le-length (λ b. not (is_lf b)) rest, le, n-is)
