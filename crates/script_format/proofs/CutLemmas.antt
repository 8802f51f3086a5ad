-- The first line of a text, and the first word of a line.
use Rattle.std.proofs.Common.{◌≡◌, ◌≢◌, ℕ, zero, suc, ◌+◌, ◌<◌, ◌≤◌, Bool, true, false, not, cond, List, [], ◌∷◌, length, take, drop, get_or, map, Some, None, refl, sym, ap, ◌∙◌, subst, arith, add-one, add-zero}
use Rattle.std.specs.Prelude.{nat_lt, ◌==◌, filter}
use Rattle.std.specs.List.{position, position_or_len, slice_split}
use Rattle.std.proofs.lemmas.Bool.{ltb-true, ltb-false, lt-ltb, ne_eqb, eqb-true, eqb-false}
use Rattle.std.proofs.lemmas.List.Quantifiers.{position-Some}
use Rattle.std.proofs.lemmas.List.Sums.{fails_before_first}
use Rattle.std.proofs.lemmas.List.Splits.{slice_split_first, slice_split_none, slice_split-cons_yes, length-slice_split}
use Rattle.std.proofs.lemmas.List.{length-take-le, length-drop, get_or-drop, drop_all}
use Rattle.std.proofs.Math.Seq.{drop-cons}
use Rattle.oct_text.specs.Line.{without_cr}
use Rattle.script_format.specs.ScriptText.{is_lf, is_space, without_empty_end, lines, words}
use Rattle.script_format.specs.Reads.{is_solid, Cuts}

-- ---- where a byte stands

pub position-some : (p : ℕ → Bool) (xs : List ℕ) (n : ℕ) → position p xs ≡ Some n → (n ≡ position_or_len p xs) × (position_or_len p xs < length xs)
position-some p xs n e = by (nat_lt (position_or_len p xs) (length xs)) refl e
  where
    by : (b : Bool) → nat_lt (position_or_len p xs) (length xs) ≡ b → cond b (Some (position_or_len p xs)) None ≡ Some n → (n ≡ position_or_len p xs) × (position_or_len p xs < length xs)
    by true t e = let same : n ≡ position_or_len p xs = cc in (same, ltb-true _ _ t)
    by false f e = absurd (cc)

pub position-none : (p : ℕ → Bool) (xs : List ℕ) → position p xs ≡ None → length xs ≤ position_or_len p xs
position-none p xs e = by (nat_lt (position_or_len p xs) (length xs)) refl e
  where
    by : (b : Bool) → nat_lt (position_or_len p xs) (length xs) ≡ b → cond b (Some (position_or_len p xs)) None ≡ None → length xs ≤ position_or_len p xs
    by true t e = absurd (cc)
    by false f e = ltb-false _ _ f

pub split-some : (p : ℕ → Bool) (xs : List ℕ) (n : ℕ) → position p xs ≡ Some n → slice_split p xs ≡ take n xs ∷ slice_split p (drop (n + 1) xs)
split-some p xs n e = let at = position-some p xs n e in rw (at.0) (slice_split_first p xs 0 at.1)

pub split-none : (p : ℕ → Bool) (xs : List ℕ) → position p xs ≡ None → slice_split p xs ≡ xs ∷ []
split-none p xs e = let le = position-none p xs e in slice_split_none p xs (λ k d lt. fails_before_first p xs k d (omega arith))

-- ---- lines

two : (ps : List (List ℕ)) (p : List ℕ) → 0 < length ps → without_empty_end (p ∷ ps) ≡ p ∷ without_empty_end ps
two [] p lt = absurd (omega arith)
two (q ∷ ps) p lt = refl

pub lines-some : (text : List ℕ) (n : ℕ) → position is_lf text ≡ Some n → lines text ≡ without_cr (take n text) ∷ lines (drop (n + 1) text)
unfolding lines
lines-some text n e =
    let more = length-slice_split is_lf (drop (n + 1) text) in
    ap (λ ps. map without_cr (without_empty_end ps)) (split-some is_lf text n e)
    ∙ ap (map without_cr) (two (slice_split is_lf (drop (n + 1) text)) (take n text) (omega arith))

last : (p : List ℕ) → 0 < length p → without_empty_end (p ∷ []) ≡ p ∷ []
last p lt = let ne : length p ≢ 0 = omega arith in rw (ne_eqb _ _ ne) refl

pub lines-none : (text : List ℕ) → position is_lf text ≡ None → 0 < length text → lines text ≡ without_cr text ∷ []
unfolding lines
lines-none text e lt = ap (λ ps. map without_cr (without_empty_end ps)) (split-none is_lf text e) ∙ ap (map without_cr) (last text lt)

pub lines-nil : lines [] ≡ []
unfolding lines
lines-nil = refl

-- ---- words

kept : (w : List ℕ) (ws : List (List ℕ)) → 0 < length w → filter (λ v. nat_lt 0 (length v)) (w ∷ ws) ≡ w ∷ filter (λ v. nat_lt 0 (length v)) ws
kept w ws lt = rw (lt-ltb 0 (length w) lt) refl

pub words-nil : words [] ≡ []
unfolding words
words-nil = refl

pub words-space : (b : ℕ) (bs : List ℕ) → is_space b ≡ true → words (b ∷ bs) ≡ words bs
unfolding words
words-space b bs e = ap (filter (λ w. nat_lt 0 (length w))) (slice_split-cons_yes is_space b bs e)

unspace : (b : Bool) → not b ≡ false → b ≡ true
unspace true e = refl
unspace false e = absurd (cc)

pub words-skip : (i : ℕ) (xs : List ℕ) → ((k : ℕ) → k < i → k < length xs → is_space (get_or xs k 0) ≡ true) → words xs ≡ words (drop i xs)
words-skip zero xs h = refl
words-skip (suc i) [] h = refl
words-skip (suc i) (x ∷ xs) h =
    words-space x xs (h 0 (omega arith) (omega arith)) ∙ words-skip i xs (λ k lt inside. h (suc k) (omega arith) (omega arith))

pub words-some : (text : List ℕ) (n : ℕ) → position is_space text ≡ Some n → 0 < n → words text ≡ take n text ∷ words (drop n text)
unfolding words
words-some text n e lt = front ∙ ap (λ ws. take n text ∷ ws) (sym behind)
  where
    at : (n ≡ position_or_len is_space text) × (position_or_len is_space text < length text)
    at = position-some is_space text n e

    here : (n < length text) × (is_space (get_or text n 0) ≡ true) × ((k : ℕ) → k < n → is_space (get_or text k 0) ≡ false)
    here = position-Some is_space text n 0 e

    front : words text ≡ take n text ∷ words (drop (n + 1) text)
    front =
        let inside = here.0 in
        let le : n ≤ length text = omega arith in
        ap (filter (λ w. nat_lt 0 (length w))) (split-some is_space text n e)
        ∙ kept (take n text) (slice_split is_space (drop (n + 1) text)) (rw (length-take-le n text le) lt)

    behind : words (drop n text) ≡ words (drop (n + 1) text)
    behind = ap words (drop-cons text n 0 here.0) ∙ (words-space (get_or text n 0) (drop (suc n) text) here.1 ∙ ap (λ k. words (drop k text)) (sym (add-one n)))

pub words-none : (text : List ℕ) → position is_space text ≡ None → 0 < length text → words text ≡ text ∷ []
unfolding words
words-none text e lt = ap (filter (λ w. nat_lt 0 (length w))) (split-none is_space text e) ∙ kept text [] lt

-- ---- cuts

pub lines_cut-some : (text front : List ℕ) (n : ℕ) → position is_lf text ≡ Some n → front ≡ without_cr (take n text) → Cuts lines text front (drop (n + 1) text)
lines_cut-some text front n e f =
    let at = position-some is_lf text n e in
    record { pieces = rw f (lines-some text n e); shorter = omega (arith, length-drop (n + 1) text) }

pub no_lines : (text : List ℕ) → (length text == 0) ≡ true → lines text ≡ []
no_lines [] e = lines-nil
no_lines (b ∷ bs) e = let no : length (b ∷ bs) ≡ 0 = eqb-true _ _ e in absurd (omega arith)

pub lines_cut-none : (text front : List ℕ) → position is_lf text ≡ None → (length text == 0) ≡ false → front ≡ without_cr text → Cuts lines text front []
lines_cut-none text front e ne f =
    let nz : length text ≢ 0 = eqb-false _ _ ne in
    let lt : 0 < length text = omega arith in
    record { pieces = rw (f, lines-nil) (lines-none text e lt); shorter = lt }

started : (line : List ℕ) (start : ℕ) → position is_solid line ≡ Some start → words line ≡ words (drop start line)
started line start e =
    let at = position-Some is_solid line start 0 e in
    words-skip start line (λ k lt inside. unspace (is_space (get_or line k 0)) (at.2 k lt))

solid : (b : Bool) → not b ≡ true → b ≡ true → ⊥
solid true e f = cc
solid false e f = cc

-- the first byte that is solid is no space
not-zero : (line : List ℕ) (start end : ℕ) → position is_solid line ≡ Some start → position is_space (drop start line) ≡ Some end → 0 < end
not-zero line start zero e f =
    let at = position-Some is_solid line start 0 e in
    let here = position-Some is_space (drop start line) zero 0 f in
    absurd (solid (is_space (get_or line start 0)) at.1 (subst (λ (b : ℕ). is_space b ≡ true) (get_or-drop start line 0 0 ∙ ap (λ (k : ℕ). get_or line k 0) (add-zero start)) here.1))
not-zero line start (suc end) e f = omega arith

pub words_cut-some : (line : List ℕ) (start end : ℕ) → position is_solid line ≡ Some start → position is_space (drop start line) ≡ Some end
    → Cuts words line (take end (drop start line)) (drop end (drop start line))
words_cut-some line start end e f =
    let at = position-some is_solid line start e in
    let here = position-some is_space (drop start line) end f in
    let lt = not-zero line start end e f in
    record {
      pieces = started line start e ∙ words-some (drop start line) end f lt;
      shorter = omega (arith, length-drop start line, length-drop end (drop start line));
    }

pub words_cut-none : (line : List ℕ) (start : ℕ) → position is_solid line ≡ Some start → position is_space (drop start line) ≡ None → Cuts words line (drop start line) []
words_cut-none line start e f =
    let at = position-some is_solid line start e in
    let lt : 0 < length (drop start line) = omega (arith, length-drop start line) in
    record { pieces = rw words-nil (started line start e ∙ words-none (drop start line) f lt); shorter = omega arith }

pub no_words : (line : List ℕ) → position is_solid line ≡ None → words line ≡ []
no_words line e =
    let le = position-none is_solid line e in
    words-skip (length line) line (λ k lt inside. unspace (is_space (get_or line k 0)) (fails_before_first is_solid line k 0 (omega arith)))
    ∙ (ap words (drop_all (length line) line (omega arith)) ∙ words-nil)
