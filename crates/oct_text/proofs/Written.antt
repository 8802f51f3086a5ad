-- What is written is read again: words, counts, signed numbers, coordinates and lists.
use Rattle.std.proofs.Common.{◌≡◌, ℕ, suc, ◌+◌, ◌^◌, ◌<◌, ◌≤◌, Bool, true, false, not, eqb, ltb, List, [], ◌∷◌, ◌++◌, length, map, Some, Ok, ℤ, pos, negsuc, refl, ap, ◌∙◌, arith, add-zero, append_assoc}
use Rattle.std.specs.Prelude.{◌≤ℤ◌, int_le, neg_ℤ, FitsSigned}
use Rattle.std.specs.List.{prefix_len, list_all, All}
use Rattle.std.specs.Fmt.{decimal, signed_decimal}
use Rattle.std.specs.Int.{w64}
use Rattle.std.specs.Str.Parse.{digits_value, AllDigits}
use Rattle.std.proofs.lemmas.Bool.{ne_eqb, le-leb, lt-ltb}
use Rattle.std.proofs.lemmas.Bool.Decides.{nat_tests}
use Rattle.std.proofs.lemmas.List.{take_at, drop_at, length-append}
use Rattle.std.proofs.lemmas.Fmt.{decimal_is_IsNumeral, length-decimal-le}
use Rattle.std.proofs.lemmas.Int.{ints}
use Rattle.oct_text.specs.Rest.{is_blank, is_word, ends_word, solid_len, Left, Token, token_at_front, next_token}
use Rattle.oct_text.specs.Taken.{token_taken}
use Rattle.oct_text.specs.AllTokens.{tokens, texts_of}
use Rattle.oct_text.specs.Printing.{list_spelling}
use Rattle.oct_text.specs.Numbers.{is_digit, are_digits, count_of, is_sign, is_negative, without_sign, signed_size, signed_of, coordinate_of}
use Rattle.oct_text.proofs.Quotient.{both, fit}
use Rattle.oct_text.proofs.SpelledLemmas.{size_spelled-digits}
use Rattle.oct_text.proofs.AllTokensLemmas.{tokens-next, tokens-same}

-- ---- words

abbrev are_solid : List ℕ → Bool
are_solid t = list_all (λ b. not (is_blank b)) t

not_blank : (b : ℕ) → not (is_blank b) ≡ true → is_blank b ≡ false
not_blank b h = elim (is_blank b) as (λ x. not x ≡ true → x ≡ false) [ true ↦ λ e. absurd cc | false ↦ λ e. refl ] h

solid_len-end : (rest : List ℕ) → ends_word rest ≡ true → solid_len rest ≡ 0
solid_len-end [] e = refl
solid_len-end (b ∷ bs) e = rw e refl

solid_len-word : (t rest : List ℕ) → are_solid t ≡ true → ends_word rest ≡ true → solid_len (t ++ rest) ≡ length t
solid_len-word [] rest h e = solid_len-end rest e
solid_len-word (b ∷ t) rest h e =
    let p = both (not (is_blank b)) (are_solid t) h in
    let later = solid_len-word t rest p.1 e in
    simp (not_blank b p.0) (omega (arith, later))

no_blanks : (b : ℕ) (t : List ℕ) → is_blank b ≡ false → prefix_len is_blank (b ∷ t) ≡ 0
no_blanks b t e = rw e refl

-- a word in front of a blank, or at the end
pub next_token-word : (place : ℕ) (word rest : List ℕ) → is_word word ≡ true → ends_word rest ≡ true
    → next_token (record { place = place; bytes = word ++ rest }) ≡ Some (token_taken place word, record { place = place + length word; bytes = rest })
unfolding token_at_front
next_token-word place [] rest h e = absurd cc
next_token-word place (b ∷ t) rest h e =
    let all : are_solid (b ∷ t) ≡ true = (both (ltb 0 (length (b ∷ t))) (are_solid (b ∷ t)) h).1 in
    let p = both (not (is_blank b)) (are_solid t) all in
    let word = solid_len-word (b ∷ t) rest all e in
    let none : prefix_len is_blank (b ∷ t ++ rest) ≡ 0 = no_blanks b (t ++ rest) (not_blank b p.0) in
    let there : eqb (length (b ∷ t ++ rest)) 0 ≡ false = ne_eqb (suc (length (t ++ rest))) 0 (omega arith) in
    rw (none, there, word, take_at (b ∷ t) rest (length (b ∷ t)) refl, drop_at (b ∷ t) rest (length (b ∷ t)) refl, add-zero) refl

-- a blank is passed
pub next_token-blank : (place b : ℕ) (rest : List ℕ) → is_blank b ≡ true → next_token (record { place = place; bytes = b ∷ rest }) ≡ next_token (record { place = place + 1; bytes = rest })
next_token-blank place b rest h =
    let more : place + (1 + prefix_len is_blank rest) ≡ place + 1 + prefix_len is_blank rest = omega arith in
    let one : 1 + prefix_len is_blank rest ≡ suc (prefix_len is_blank rest) = omega arith in
    rw (h, more, one) refl

-- ---- all tokens

pub tokens-word : (place : ℕ) (word rest : List ℕ) → is_word word ≡ true → ends_word rest ≡ true
    → tokens (record { place = place; bytes = word ++ rest }) ≡ token_taken place word ∷ tokens (record { place = place + length word; bytes = rest })
tokens-word place word rest h e = tokens-next (record { place = place; bytes = word ++ rest }) (token_taken place word, record { place = place + length word; bytes = rest }) (next_token-word place word rest h e)

pub tokens-blank : (place b : ℕ) (rest : List ℕ) → is_blank b ≡ true → tokens (record { place = place; bytes = b ∷ rest }) ≡ tokens (record { place = place + 1; bytes = rest })
tokens-blank place b rest h = tokens-same (record { place = place; bytes = b ∷ rest }) (record { place = place + 1; bytes = rest }) (next_token-blank place b rest h)

-- ---- digits

digits_from : (ds : List ℕ) → AllDigits 10 ds → are_digits ds ≡ true
digits_from [] h = refl
digits_from (d ∷ ds) h = let digit : is_digit d ≡ true = grind (arith, nat_tests) in rw (digit, digits_from ds h.1) refl

digits_solid : (ds : List ℕ) → are_digits ds ≡ true → are_solid ds ≡ true
digits_solid [] h = refl
digits_solid (d ∷ ds) h =
    let p = both (is_digit d) (are_digits ds) h in
    let solid : is_blank d ≡ false = grind (arith, nat_tests) in
    rw (solid, digits_solid ds p.1) refl

some_there : (b : ℕ) (bs : List ℕ) → ltb 0 (length (b ∷ bs)) ≡ true
some_there b bs = lt-ltb 0 (suc (length bs)) (omega arith)

-- what is known of the digits of a number
pub record IsPrinted (n : ℕ) (ds : List ℕ) : Type 0 where
  pub some : 0 < length ds
  pub short : length ds ≤ 20
  pub digits : are_digits ds ≡ true
  pub value : digits_value 10 ds ≡ n

pub decimal-printed : (n : ℕ) → n < 2 ^ 64 → IsPrinted n (decimal n)
decimal-printed n fits =
    let h = decimal_is_IsNumeral n fits in
    record { some = h.0.0; short = length-decimal-le 20 n (omega arith) (omega (arith, fits)) fits; digits = digits_from (decimal n) h.0.1; value = h.1 }

pub is_word-decimal : (n : ℕ) → n < 2 ^ 64 → is_word (decimal n) ≡ true
is_word-decimal n fits = let p = decimal-printed n fits in rw (lt-ltb 0 (length (decimal n)) p.some, digits_solid (decimal n) p.digits) refl

pub is_word-signed_decimal : (z : ℤ) → FitsSigned w64 z → is_word (signed_decimal z) ≡ true
is_word-signed_decimal (pos n) fits = is_word-decimal n (omega arith)
is_word-signed_decimal (negsuc n) fits = let p = decimal-printed (suc n) (omega arith) in rw (digits_solid (decimal (suc n)) p.digits, some_there 45 (decimal (suc n))) refl

-- ---- counts

count_of-printed : (n most : ℕ) (ds : List ℕ) → IsPrinted n ds → n ≤ most → count_of ds most ≡ Ok n
unfolding count_of
count_of-printed n most ds p le = rw (lt-ltb 0 (length ds) p.some, le-leb (length ds) 40 (omega (arith, p.short)), p.digits, p.value, le-leb n most le) refl

pub count_of-decimal : (n most : ℕ) → n ≤ most → n < 2 ^ 64 → count_of (decimal n) most ≡ Ok n
count_of-decimal n most le fits = count_of-printed n most (decimal n) (decimal-printed n fits) le

-- ---- signs

no_sign : (d : ℕ) → is_digit d ≡ true → (is_sign d ≡ false) × (eqb d 45 ≡ false)
no_sign d h = (grind (arith, nat_tests), grind (arith, nat_tests))

-- digits have no sign
unsigned-digits : (ds : List ℕ) → are_digits ds ≡ true → (is_negative ds ≡ false) × (without_sign ds ≡ ds)
unsigned-digits [] h = (refl, refl)
unsigned-digits (d ∷ ds) h =
    let p = both (is_digit d) (are_digits ds) h in
    let s = no_sign d p.0 in
    (rw (some_there d ds, s.1) refl, rw (some_there d ds, s.0) refl)

unsigned-minus : (ds : List ℕ) → (is_negative (45 ∷ ds) ≡ true) × (without_sign (45 ∷ ds) ≡ ds)
unsigned-minus ds = (rw (some_there 45 ds) refl, rw (some_there 45 ds) refl)

-- ---- signed numbers

-- a text of at most 40 bytes, its sign and its digits
signed_of-parts : (text ds : List ℕ) (n : ℕ) (negative : Bool) (least most : ℤ) → length text ≤ 40 → is_negative text ≡ negative → without_sign text ≡ ds → IsPrinted n ds
    → least ≤ℤ signed_size negative n → signed_size negative n ≤ℤ most → signed_of text least most ≡ Ok (signed_size negative n)
unfolding signed_of
signed_of-parts text ds n negative least most short sign digits p low high =
    let a : int_le least (signed_size negative n) ≡ true = grind (arith, ints) in
    let b : int_le (signed_size negative n) most ≡ true = grind (arith, ints) in
    rw (le-leb (length text) 40 short, digits, sign, lt-ltb 0 (length ds) p.some, p.digits, p.value, a, b) refl

pub signed_of-decimal : (z least most : ℤ) → FitsSigned w64 z → least ≤ℤ z → z ≤ℤ most → signed_of (signed_decimal z) least most ≡ Ok z
signed_of-decimal (pos n) least most fits low high =
    let p = decimal-printed n (omega arith) in
    let u = unsigned-digits (decimal n) p.digits in
    signed_of-parts (decimal n) (decimal n) n false least most (omega (arith, p.short)) u.0 u.1 p low high
signed_of-decimal (negsuc n) least most fits low high =
    let p = decimal-printed (suc n) (omega arith) in
    let u = unsigned-minus (decimal (suc n)) in
    signed_of-parts (45 ∷ decimal (suc n)) (decimal (suc n)) (suc n) true least most (omega (arith, p.short)) u.0 u.1 p low high

-- ---- coordinates

coordinate_of-parts : (text ds : List ℕ) (n : ℕ) (negative : Bool) → length text ≤ 40 → is_negative text ≡ negative → without_sign text ≡ ds → IsPrinted n ds → n ≤ 2 ^ 30
    → coordinate_of text ≡ Ok (signed_size negative n)
unfolding coordinate_of
coordinate_of-parts text ds n negative short sign digits p le = rw (le-leb (length text) 40 short, digits, sign, size_spelled-digits n ds p.some p.digits p.value, le-leb n (2 ^ 30) le) refl

pub coordinate_of-decimal : (z : ℤ) → neg_ℤ (pos (2 ^ 30)) ≤ℤ z → z ≤ℤ pos (2 ^ 30) → coordinate_of (signed_decimal z) ≡ Ok z
coordinate_of-decimal (pos n) low high =
    let p = decimal-printed n (omega (arith, ints, high)) in
    let u = unsigned-digits (decimal n) p.digits in
    coordinate_of-parts (decimal n) (decimal n) n false (omega (arith, p.short)) u.0 u.1 p (omega (arith, ints, high))
coordinate_of-decimal (negsuc n) low high =
    let p = decimal-printed (suc n) (omega (arith, ints, low)) in
    let u = unsigned-minus (decimal (suc n)) in
    coordinate_of-parts (45 ∷ decimal (suc n)) (decimal (suc n)) (suc n) true (omega (arith, p.short)) u.0 u.1 p (omega (arith, ints, low))

-- ---- lists

abbrev pub AllFit : List ℕ → Type 0
AllFit ns = All (λ n. n < 2 ^ 32) ns

abbrev left_at : ℕ → List ℕ → Left
left_at place bytes = record { place = place; bytes = bytes }

last_texts : (place : ℕ) (word rest : List ℕ) → is_word word ≡ true → ends_word rest ≡ true → texts_of (tokens (left_at place (word ++ rest))) ≡ word ∷ texts_of (tokens (left_at (place + length word) rest))
last_texts place word rest h e = ap texts_of (tokens-word place word rest h e)

-- the numbers of a list that was printed, one by one, and what comes behind it
pub texts-list : (place : ℕ) (ns rest : List ℕ) → AllFit ns → ends_word rest ≡ true
    → texts_of (tokens (left_at place (list_spelling ns ++ rest))) ≡ map decimal ns ++ texts_of (tokens (left_at (place + length (list_spelling ns)) rest))
unfolding list_spelling
texts-list place [] rest fit ends = rw add-zero refl
texts-list place (n ∷ []) rest fit ends = last_texts place (decimal n) rest (is_word-decimal n (omega (arith, fit 0 0 (omega arith)))) ends
texts-list place (n ∷ m ∷ ms) rest fit ends =
    let more : List ℕ = list_spelling (m ∷ ms) in
    let word = is_word-decimal n (omega (arith, fit 0 0 (omega arith))) in
    let later = texts-list (place + length (decimal n) + 1) (m ∷ ms) rest (λ k d lt. fit (suc k) d (omega arith)) ends in
    let place-is : place + length (decimal n) + 1 + length more ≡ place + length (decimal n ++ 32 ∷ more) = omega (arith, length-append (decimal n) (32 ∷ more)) in
    ap (λ (l : List ℕ). texts_of (tokens (left_at place l))) (append_assoc (decimal n) (32 ∷ more) rest)
    ∙ last_texts place (decimal n) (32 ∷ more ++ rest) word refl
    ∙ ap (λ (ts : List Token). decimal n ∷ texts_of ts) (tokens-blank (place + length (decimal n)) 32 (more ++ rest) refl)
    ∙ ap (λ (l : List (List ℕ)). decimal n ∷ l) later
    ∙ ap (λ (k : ℕ). map decimal (n ∷ m ∷ ms) ++ texts_of (tokens (left_at k rest))) place-is
