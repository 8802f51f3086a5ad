-- Plain numbers at the front of a text.
use Rattle.std.proofs.Common.{◌≡◌, ℕ, zero, suc, ◌+◌, ◌<◌, ◌≤◌, Bool, true, false, not, List, [], ◌∷◌, ◌++◌, length, get_or, take, drop, Option, Some, None, Ok, refl, sym, ap, subst, ◌∙◌, arith}
use Rattle.std.specs.Prelude.{nat_lt, ◌&&◌, ◌||◌, ℤ, IfSome}
use Rattle.std.specs.List.{prefix_len}
use Rattle.std.specs.Str.Parse.{digits_value}
use Rattle.std.proofs.lemmas.List.{take-append-drop, length-take, length-drop, drop-drop, drop-append-le, take-append-le}
use Rattle.std.proofs.lemmas.List.Sums.{prefix_len-le-length, prefix_len_passes, position_or_len_is, prefix_len_is}
use Rattle.std.proofs.lemmas.List.Folds.{list_all_more}
use Rattle.std.proofs.lemmas.Bool.{lt-ltb, le-leb}
use Rattle.std.proofs.lemmas.Bool.Decides.{nat_tests}
use Rattle.oct_text.specs.declared.ahead.CountFront.{CountFront}
use Rattle.oct_text.specs.Rest.{is_blank, solid_len, Rest, behind, past_blanks}
use Rattle.oct_text.specs.Numbers.{is_digit, are_digits, is_numeral, coordinate_of}
use Rattle.oct_text.specs.Taken.{Takes, token_taken}
use Rattle.oct_text.specs.Ahead.{TakesCount, TakesCounts, TakesWhole, HasCount, HasWhole, rest_of}
use Rattle.oct_text.proofs.TokenLemmas.{prefix_stays, prefix_len-passed, is_taken}

pub digit-solid : (b : ℕ) → is_digit b ≡ true → is_blank b ≡ false
digit-solid b h = grind (arith, nat_tests)

-- a prefix that ends within the first n
prefix_within : (p : ℕ → Bool) (xs : List ℕ) (n : ℕ) → prefix_len p (take n xs) < length (take n xs) → prefix_len p xs ≡ prefix_len p (take n xs)
prefix_within p xs n lt = ap (prefix_len p) (sym (take-append-drop n xs)) ∙ prefix_stays p (take n xs) (drop n xs) lt

-- a prefix of the first n, and what comes behind it
prefix_beyond : (p : ℕ → Bool) (xs : List ℕ) (n : ℕ) → prefix_len p xs ≡ prefix_len p (take n xs) + prefix_len p (drop (prefix_len p (take n xs)) xs)
prefix_beyond p xs n =
    let k = prefix_len p (take n xs) in
    let le : k ≤ length (take n xs) = prefix_len-le-length p (take n xs) in
    ap (prefix_len p) (sym (take-append-drop n xs)) ∙ prefix_len-passed p (take n xs) (drop n xs)
    ∙ ap (λ (ys : List ℕ). k + prefix_len p ys) (sym (drop-append-le k (take n xs) (drop n xs) le) ∙ ap (drop k) (take-append-drop n xs))

-- no blank stands in front of a digit
no_blanks : (word : List ℕ) → 0 < prefix_len is_digit word → prefix_len is_blank word ≡ 0
no_blanks word lt = prefix_len_is is_blank word 0 0 (omega arith) (λ k h. absurd (omega arith)) (λ h. digit-solid (get_or word 0 0) (prefix_len_passes is_digit word 0 0 lt))

-- digits with a blank behind them are a word
solid_digits : (word : List ℕ) (d : ℕ) → d ≡ prefix_len is_digit word → d < length word → is_blank (get_or word d 0) ≡ true → solid_len word ≡ d
solid_digits word d is lt blank =
    position_or_len_is is_blank word d 0 (omega arith) (λ k h. digit-solid (get_or word k 0) (prefix_len_passes is_digit word k 0 (omega arith))) (λ h. blank)

pub taken_digits : (word : List ℕ) (d : ℕ) → d ≤ prefix_len is_digit word → are_digits (take d word) ≡ true
taken_digits word zero le = refl
taken_digits word (suc d) le =
    let lt : d < prefix_len is_digit word = omega arith in
    let inside : d < length word = omega (arith, prefix_len-le-length is_digit word) in
    let one : suc d ≡ d + 1 = omega arith in
    ap (λ (n : ℕ). are_digits (take n word)) one ∙ list_all_more is_digit word d 0 inside ∙ rw (taken_digits word d (omega arith), prefix_len_passes is_digit word d 0 lt) refl

pair_is : {m n : ℕ} {xs ys : List ℕ} → m ≡ n → xs ≡ ys → let a : ℕ × List ℕ = (m, xs) in let b : ℕ × List ℕ = (n, ys) in a ≡ b
pair_is e h = cc

-- the token at the front of a text, with n blanks before it and d bytes
pub front_token : (bytes : List ℕ) (n d : ℕ) → prefix_len is_blank bytes ≡ n → solid_len (drop n bytes) ≡ d → d < length (drop n bytes) → (place : ℕ) (ended : Bool)
    → Takes (rest_of place ended bytes) (token_taken (place + n) (take d (drop n bytes))) (behind (n + d) (rest_of place ended bytes))
front_token bytes n d n-is d-is lt place ended =
    let old = rest_of place ended bytes in
    let r : Rest = rest_of (place + n) ended (drop n bytes) in
    let r-is : r ≡ past_blanks old = rw n-is refl in
    let whole : (nat_lt d (length r.bytes) || (r.ended && nat_lt 0 (length r.bytes))) ≡ true = rw (lt-ltb d (length r.bytes) lt) refl in
    let new-is : behind (n + d) old ≡ behind d r = ap (λ (x : ℕ × List ℕ). rest_of x.0 ended x.1) (pair_is (omega arith) (sym (drop-drop d n bytes))) in
    (is_taken old r d (take d (drop n bytes)) (behind (n + d) old) r-is (sym d-is) whole refl new-is).0

pub numeral_is : (text : List ℕ) → are_digits text ≡ true → 0 < length text → length text ≤ 40 → is_numeral text ≡ true
numeral_is text digits some short = rw (digits, lt-ltb 0 (length text) some, le-leb (length text) 40 short) refl

take-shorter : (d : ℕ) (word : List ℕ) → d ≤ 10 → 10 ≤ length word → take d (take 10 word) ≡ take d word
take-shorter d word le long =
    let inside : d ≤ length (take 10 word) = omega (arith, length-take 10 word) in
    sym (take-append-le d (take 10 word) (drop 10 word) inside) ∙ ap (take d) (take-append-drop 10 word)

-- a count at the front, by its digits
pub count_at : (bytes word : List ℕ) (k d v : ℕ) → 16 ≤ length bytes → k ≡ prefix_len is_blank (take 3 bytes) → word ≡ drop k bytes → d ≡ prefix_len is_digit (take 10 word) → 0 < d → d ≤ 9
    → is_blank (get_or word d 0) ≡ true → v ≡ digits_value 10 (take d (take 10 word)) → HasCount bytes v (k + d)
count_at bytes word k d v long k-is word-is d-is some d-small blank v-is =
    let k-small : k ≤ 3 = omega (arith, k-is, prefix_len-le-length is_blank (take 3 bytes), length-take 3 bytes) in
    let word-long : 13 ≤ length word = omega (arith, long, k-small, ap length word-is, length-drop k bytes) in
    let ten : length (take 10 word) ≡ 10 = omega (arith, word-long, length-take 10 word) in
    let d-all : d ≡ prefix_len is_digit word = d-is ∙ sym (prefix_within is_digit word 10 (omega (arith, d-is, d-small, ten))) in
    let none : prefix_len is_blank word ≡ 0 = no_blanks word (omega (arith, d-all, some)) in
    let blanks : prefix_len is_blank bytes ≡ k =
    prefix_beyond is_blank bytes 3 ∙ rw (← k-is, ← word-is) (omega (arith, none)) in
    let solid : solid_len word ≡ d = solid_digits word d d-all (omega (arith, d-small, word-long)) blank in
    let text : take d (take 10 word) ≡ take d word = take-shorter d word (omega (arith, d-small)) (omega (arith, word-long)) in
    let len : length (take d word) ≡ d = omega (arith, length-take d word, d-small, word-long) in
    let numeral = numeral_is (take d word) (taken_digits word d (omega (arith, d-all))) (omega (arith, len, some)) (omega (arith, len, d-small)) in
    λ place ended. record {
      token = token_taken (place + k) (take d (drop k bytes));
      takes = front_token bytes k d blanks (ap solid_len (sym word-is) ∙ solid) (omega (arith, ap length word-is, d-small, word-long)) place ended;
      numeral = ap (λ (w : List ℕ). is_numeral (take d w)) (sym word-is) ∙ numeral;
      value = ap (λ (w : List ℕ). digits_value 10 (take d w)) (sym word-is) ∙ ap (digits_value 10) (sym text) ∙ sym v-is;
    }

unblank : (b : Bool) → not b ≡ true → b ≡ false
unblank true e = absurd cc
unblank false e = refl

-- no blank stands in front of a word
no_blanks_before : (word : List ℕ) → 0 < solid_len word → prefix_len is_blank word ≡ 0
no_blanks_before word some =
    prefix_len_is is_blank word 0 0 (omega arith) (λ k h. absurd (omega arith)) (λ h. unblank (is_blank (get_or word 0 0)) (prefix_len_passes (λ b. not (is_blank b)) word 0 0 some))

-- a coordinate at the front, by where it ends
pub whole_at : (bytes word text : List ℕ) (k d : ℕ) (z : ℤ) → 64 ≤ length bytes → k ≡ prefix_len is_blank (take 3 bytes) → word ≡ drop k bytes → d ≡ solid_len (take 41 word) → 0 < d → d ≤ 40
    → text ≡ take d word → coordinate_of text ≡ Ok z → HasWhole bytes z (k + d)
whole_at bytes word text k d z long k-is word-is d-is some short text-is value =
    let k-small : k ≤ 3 = omega (arith, k-is, prefix_len-le-length is_blank (take 3 bytes), length-take 3 bytes) in
    let word-long : 61 ≤ length word = omega (arith, long, k-small, ap length word-is, length-drop k bytes) in
    let window : length (take 41 word) ≡ 41 = omega (arith, word-long, length-take 41 word) in
    let solid : solid_len word ≡ d = prefix_within (λ b. not (is_blank b)) word 41 (omega (arith, d-is, short, window)) ∙ sym d-is in
    let none : prefix_len is_blank word ≡ 0 = no_blanks_before word (omega (arith, solid, some)) in
    let blanks : prefix_len is_blank bytes ≡ k = prefix_beyond is_blank bytes 3 ∙ rw (← k-is, ← word-is) (omega (arith, none)) in
    λ place ended. record {
      token = token_taken (place + k) (take d (drop k bytes));
      takes = front_token bytes k d blanks (ap solid_len (sym word-is) ∙ solid) (omega (arith, ap length word-is, short, word-long)) place ended;
      value = ap (λ (w : List ℕ). coordinate_of (take d w)) (sym word-is) ∙ ap coordinate_of (sym text-is) ∙ value;
    }

-- ---- one after another

behind_twice : (len k : ℕ) (r : Rest) → behind k (behind len r) ≡ behind (len + k) r
behind_twice len k r = ap (λ (x : ℕ × List ℕ). rest_of x.0 r.ended x.1) (pair_is (omega arith) (drop-drop k len r.bytes))

-- what stands at the front of the bytes that came was to be taken from the rest
pub count_here : (o : Option CountFront) (r : Rest) (bytes : List ℕ) → bytes ≡ r.bytes → IfSome o (λ f. HasCount bytes f.value f.len) → IfSome o (λ f. TakesCount r f.value (behind f.len r))
count_here None r bytes is h = tt
count_here (Some f) r bytes is h = subst (λ (bs : List ℕ). HasCount bs f.value f.len) is h r.place r.ended

pub count_next : (r : Rest) (bytes : List ℕ) (len n k : ℕ) → bytes ≡ drop len r.bytes → HasCount bytes n k → TakesCount (behind len r) n (behind (len + k) r)
count_next r bytes len n k is h = subst (TakesCount (behind len r) n) (behind_twice len k r) (subst (λ (bs : List ℕ). HasCount bs n k) is h (r.place + len) r.ended)

pub whole_next : (r : Rest) (bytes : List ℕ) (len : ℕ) (z : ℤ) (k : ℕ) → bytes ≡ drop len r.bytes → HasWhole bytes z k → TakesWhole (behind len r) z (behind (len + k) r)
whole_next r bytes len z k is h = subst (TakesWhole (behind len r) z) (behind_twice len k r) (subst (λ (bs : List ℕ). HasWhole bs z k) is h (r.place + len) r.ended)

pub count_more : (ns : List ℕ) (n : ℕ) (old mid new : Rest) → TakesCounts old ns mid → TakesCount mid n new → TakesCounts old (ns ++ n ∷ []) new
count_more [] n old mid new e t = subst (λ (x : Rest). TakesCounts x (n ∷ []) new) e (new, t, refl)
count_more (m ∷ ns) n old mid new h t = (h.0, h.1, count_more ns n h.0 mid new h.2 t)
