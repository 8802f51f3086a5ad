-- A number cut at its point and its e.
use Rattle.std.proofs.Common.{◌≡◌, ℕ, suc, ◌+◌, ◌-◌, ◌≤◌, Bool, true, false, ltb, List, [], ◌∷◌, ◌++◌, length, take, drop, get_or, refl, sym, ap, ◌∙◌, arith}
use Rattle.std.specs.Prelude.{◌&&◌}
use Rattle.std.specs.List.{list_all, prefix_len, position_or_len, before_first, after_first}
use Rattle.std.proofs.lemmas.Bool.Decides.{nat_tests}
use Rattle.std.proofs.lemmas.Bool.{eq-eqb, false≢true}
use Rattle.std.proofs.lemmas.List.{append-nil, take-append-drop, take_all}
use Rattle.oct_text.specs.Numbers.{is_digit, are_digits, is_e, is_point, mantissa_fits}
use Rattle.oct_text.specs.Parts.{starts, from_first, IsFraction, ends_mantissa, IsMantissa}
use Rattle.oct_text.proofs.Quotient.{both}

-- ---- at the front of a text

one_more : (n : ℕ) → 1 + n ≡ suc n
one_more n = omega arith

pub before-hit : (p : ℕ → Bool) (b : ℕ) (bs : List ℕ) → p b ≡ true → before_first p (b ∷ bs) ≡ []
before-hit p b bs e = rw e refl

pub before-miss : (p : ℕ → Bool) (b : ℕ) (bs : List ℕ) → p b ≡ false → before_first p (b ∷ bs) ≡ b ∷ before_first p bs
before-miss p b bs e = rw (e, one_more (position_or_len p bs)) refl

pub after-hit : (p : ℕ → Bool) (b : ℕ) (bs : List ℕ) → p b ≡ true → after_first p (b ∷ bs) ≡ bs
after-hit p b bs e = rw e refl

pub after-miss : (p : ℕ → Bool) (b : ℕ) (bs : List ℕ) → p b ≡ false → after_first p (b ∷ bs) ≡ after_first p bs
after-miss p b bs e = let more : 1 + position_or_len p bs + 1 ≡ suc (position_or_len p bs + 1) = omega arith in rw (e, more) refl

pub from-hit : (p : ℕ → Bool) (b : ℕ) (bs : List ℕ) → p b ≡ true → from_first p (b ∷ bs) ≡ b ∷ bs
from-hit p b bs e = rw e refl

pub from-miss : (p : ℕ → Bool) (b : ℕ) (bs : List ℕ) → p b ≡ false → from_first p (b ∷ bs) ≡ from_first p bs
from-miss p b bs e = rw (e, one_more (position_or_len p bs)) refl

-- ---- behind digits

-- a test that no digit passes
abbrev pub NoDigit : (ℕ → Bool) → Type 0
NoDigit p = (b : ℕ) → is_digit b ≡ true → p b ≡ false

pub no_e : NoDigit is_e
no_e b h = grind (arith, nat_tests)

pub no_point : NoDigit is_point
no_point b h = grind (arith, nat_tests)

pub before-digits : (p : ℕ → Bool) (ds more : List ℕ) → NoDigit p → are_digits ds ≡ true → before_first p (ds ++ more) ≡ ds ++ before_first p more
before-digits p [] more fails h = refl
before-digits p (d ∷ ds) more fails h =
    let q = both (is_digit d) (are_digits ds) h in
    before-miss p d (ds ++ more) (fails d q.0) ∙ ap (λ (l : List ℕ). d ∷ l) (before-digits p ds more fails q.1)

pub after-digits : (p : ℕ → Bool) (ds more : List ℕ) → NoDigit p → are_digits ds ≡ true → after_first p (ds ++ more) ≡ after_first p more
after-digits p [] more fails h = refl
after-digits p (d ∷ ds) more fails h = let q = both (is_digit d) (are_digits ds) h in after-miss p d (ds ++ more) (fails d q.0) ∙ after-digits p ds more fails q.1

pub from-digits : (p : ℕ → Bool) (ds more : List ℕ) → NoDigit p → are_digits ds ≡ true → from_first p (ds ++ more) ≡ from_first p more
from-digits p [] more fails h = refl
from-digits p (d ∷ ds) more fails h = let q = both (is_digit d) (are_digits ds) h in from-miss p d (ds ++ more) (fails d q.0) ∙ from-digits p ds more fails q.1

digits_then : (ds : List ℕ) (b : ℕ) (bs : List ℕ) → is_digit b ≡ false → are_digits (ds ++ b ∷ bs) ≡ false
digits_then [] b bs e = rw e refl
digits_then (d ∷ ds) b bs e = by_first (is_digit d) (digits_then ds b bs e)
  where
    by_first : (x : Bool) → are_digits (ds ++ b ∷ bs) ≡ false → (x && are_digits (ds ++ b ∷ bs)) ≡ false
    by_first true h = h
    by_first false h = refl

abbrev Cut : (ℕ → Bool) → List ℕ → Type 0
Cut p text = (list_all p (take (prefix_len p text) text) ≡ true) × (starts p (drop (prefix_len p text) text) ≡ false)

cut_first : (p : ℕ → Bool) (b : ℕ) (bs : List ℕ) (x : Bool) → p b ≡ x → Cut p bs → Cut p (b ∷ bs)
cut_first p b bs true e later = rw (e, one_more (prefix_len p bs)) (rw e later.0, later.1)
cut_first p b bs false e later = rw e (refl, e)

-- the bytes at the front that pass, and what does not begin with one
pub passing_in_front : (p : ℕ → Bool) (text : List ℕ) → Cut p text
passing_in_front p [] = (refl, refl)
passing_in_front p (b ∷ bs) = cut_first p b bs (p b) refl (passing_in_front p bs)

-- ---- the mantissa

ends-before : (rest : List ℕ) → ends_mantissa rest ≡ true → before_first is_e rest ≡ []
ends-before [] e = refl
ends-before (b ∷ bs) e = before-hit is_e b bs e

ends-from : (rest : List ℕ) → ends_mantissa rest ≡ true → from_first is_e rest ≡ rest
ends-from [] e = refl
ends-from (b ∷ bs) e = from-hit is_e b bs e

-- with a point, whatever stands before an e behind the digits
pointed-before : (front back rest : List ℕ) → are_digits front ≡ true → are_digits back ≡ true
    → before_first is_e (front ++ (46 ∷ back ++ rest)) ≡ front ++ (46 ∷ (back ++ before_first is_e rest))
pointed-before front back rest f b =
    before-digits is_e front (46 ∷ back ++ rest) no_e f ∙ ap (λ (l : List ℕ). front ++ l) (before-miss is_e 46 (back ++ rest) refl)
    ∙ ap (λ (l : List ℕ). front ++ (46 ∷ l)) (before-digits is_e back rest no_e b)

point-before : (front more : List ℕ) → are_digits front ≡ true → before_first is_point (front ++ (46 ∷ more)) ≡ front
point-before front more f = before-digits is_point front (46 ∷ more) no_point f ∙ ap (λ (l : List ℕ). front ++ l) (before-hit is_point 46 more refl) ∙ append-nil front

point-after : (front more : List ℕ) → are_digits front ≡ true → after_first is_point (front ++ (46 ∷ more)) ≡ more
point-after front more f = after-digits is_point front (46 ∷ more) no_point f ∙ after-hit is_point 46 more refl

pointed-ends : (front back rest : List ℕ) → are_digits front ≡ true → are_digits back ≡ true → ends_mantissa rest ≡ true → before_first is_e (front ++ (46 ∷ back ++ rest)) ≡ front ++ (46 ∷ back)
pointed-ends front back rest f b e = pointed-before front back rest f b ∙ ap (λ (l : List ℕ). front ++ (46 ∷ (back ++ l))) (ends-before rest e) ∙ ap (λ (l : List ℕ). front ++ (46 ∷ l)) (append-nil back)

pointed-from : (front back rest : List ℕ) → are_digits front ≡ true → are_digits back ≡ true → ends_mantissa rest ≡ true → from_first is_e (front ++ (46 ∷ back ++ rest)) ≡ rest
pointed-from front back rest f b e = from-digits is_e front (46 ∷ back ++ rest) no_e f ∙ from-miss is_e 46 (back ++ rest) refl ∙ from-digits is_e back rest no_e b ∙ ends-from rest e

pointed-fits : (front back rest : List ℕ) → are_digits front ≡ true → are_digits back ≡ true → ends_mantissa rest ≡ true
    → mantissa_fits (before_first is_e (front ++ (46 ∷ back ++ rest))) ≡ ltb 0 (length front + length back)
pointed-fits front back rest f b e = ap mantissa_fits (pointed-ends front back rest f b e) ∙ rw (point-before front back f, point-after front back f, f, b) refl

pointed : (front back rest : List ℕ) → are_digits front ≡ true → are_digits back ≡ true → ends_mantissa rest ≡ true → ltb 0 (length front + length back) ≡ true
    → IsMantissa (front ++ (46 ∷ back ++ rest)) front back rest
pointed front back rest f b e some =
    let m = pointed-ends front back rest f b e in
    record {
      fits = pointed-fits front back rest f b e ∙ some;
      before_point = sym (ap (before_first is_point) m ∙ point-before front back f);
      behind_point = sym (ap (after_first is_point) m ∙ point-after front back f);
      from_e = sym (pointed-from front back rest f b e);
    }

pointed_not : (front back rest : List ℕ) → are_digits front ≡ true → are_digits back ≡ true → starts is_digit rest ≡ false → ends_mantissa rest ≡ false
    → mantissa_fits (before_first is_e (front ++ (46 ∷ back ++ rest))) ≡ false
pointed_not front back [] f b d e = absurd cc
pointed_not front back (x ∷ rest) f b d e =
    let more = back ++ x ∷ before_first is_e rest in
    let m : before_first is_e (front ++ (46 ∷ back ++ x ∷ rest)) ≡ front ++ (46 ∷ more) =
    pointed-before front back (x ∷ rest) f b ∙ ap (λ (l : List ℕ). front ++ (46 ∷ (back ++ l))) (before-miss is_e x rest e) in
    ap mantissa_fits m ∙ rw (point-before front more f, point-after front more f, f, digits_then back x (before_first is_e rest) d) refl

-- without a point
plain-before : (front rest : List ℕ) → are_digits front ≡ true → ends_mantissa rest ≡ true → before_first is_e (front ++ rest) ≡ front
plain-before front rest f e = before-digits is_e front rest no_e f ∙ ap (λ (l : List ℕ). front ++ l) (ends-before rest e) ∙ append-nil front

digits-before : (front : List ℕ) → are_digits front ≡ true → before_first is_point front ≡ front
digits-before front f = ap (before_first is_point) (sym (append-nil front)) ∙ before-digits is_point front [] no_point f ∙ append-nil front

digits-after : (front : List ℕ) → are_digits front ≡ true → after_first is_point front ≡ []
digits-after front f = ap (after_first is_point) (sym (append-nil front)) ∙ after-digits is_point front [] no_point f

plain-fits : (front rest : List ℕ) → are_digits front ≡ true → ends_mantissa rest ≡ true → mantissa_fits (before_first is_e (front ++ rest)) ≡ ltb 0 (length front + 0)
plain-fits front rest f e = ap mantissa_fits (plain-before front rest f e) ∙ rw (digits-before front f, digits-after front f, f) refl

plain : (front rest : List ℕ) → are_digits front ≡ true → ends_mantissa rest ≡ true → ltb 0 (length front + 0) ≡ true → IsMantissa (front ++ rest) front [] rest
plain front rest f e some =
    let m = plain-before front rest f e in
    record {
      fits = plain-fits front rest f e ∙ some;
      before_point = sym (ap (before_first is_point) m ∙ digits-before front f);
      behind_point = sym (ap (after_first is_point) m ∙ digits-after front f);
      from_e = sym (from-digits is_e front rest no_e f ∙ ends-from rest e);
    }

plain_not : (front rest : List ℕ) → are_digits front ≡ true → starts is_digit rest ≡ false → starts is_point rest ≡ false → ends_mantissa rest ≡ false → mantissa_fits (before_first is_e (front ++ rest)) ≡ false
plain_not front [] f d p e = absurd cc
plain_not front (x ∷ rest) f d p e =
    let more = before_first is_e rest in
    let m : before_first is_e (front ++ x ∷ rest) ≡ front ++ x ∷ more = before-digits is_e front (x ∷ rest) no_e f ∙ ap (λ (l : List ℕ). front ++ l) (before-miss is_e x rest e) in
    let b : before_first is_point (front ++ x ∷ more) ≡ front ++ x ∷ before_first is_point more = before-digits is_point front (x ∷ more) no_point f ∙ ap (λ (l : List ℕ). front ++ l) (before-miss is_point x more p) in
    ap mantissa_fits m ∙ rw (b, digits_then front x (before_first is_point more) d) refl

-- ---- both

-- a text that was cut behind its digits, and behind those of its point
pub record IsCut (text front back rest : List ℕ) : Type 0 where
  pub behind : List ℕ
  pub whole : text ≡ front ++ behind
  pub digits : are_digits front ≡ true
  pub stops : starts is_digit behind ≡ false
  pub fraction : IsFraction behind back rest

is_mantissa_at : (front back rest behind : List ℕ) (p : Bool) → are_digits front ≡ true → IsFraction behind back rest → starts is_point behind ≡ p → ends_mantissa rest ≡ true → ltb 0 (length front + length back) ≡ true
    → IsMantissa (front ++ behind) front back rest
is_mantissa_at front back rest behind true f s p e some = let q = s.point p in rw q.1 (pointed front back rest f q.0 e some)
is_mantissa_at front back rest behind false f s p e some =
    let q = s.none p in
    let some' : ltb 0 (length front + 0) ≡ true = rw q.0 at some in
    rw (q.0, ← q.1) (plain front rest f e some')

no_mantissa_at : (front back rest behind : List ℕ) (p e s : Bool) → are_digits front ≡ true → starts is_digit behind ≡ false → IsFraction behind back rest → starts is_point behind ≡ p → ends_mantissa rest ≡ e
    → ltb 0 (length front + length back) ≡ s → (e && s) ≡ false → mantissa_fits (before_first is_e (front ++ behind)) ≡ false
no_mantissa_at front back rest behind p true true f d s p-is e n h = absurd cc
no_mantissa_at front back rest behind true true false f d s p-is e n h = let q = s.point p-is in rw q.1 (pointed-fits front back rest f q.0 e ∙ n)
no_mantissa_at front back rest behind false true false f d s p-is e n h =
    let q = s.none p-is in
    let n' : ltb 0 (length front + 0) ≡ false = rw q.0 at n in
    rw (← q.1) (plain-fits front rest f e ∙ n')
no_mantissa_at front back rest behind true false z f d s p-is e n h = let q = s.point p-is in rw q.1 (pointed_not front back rest f q.0 q.2 e)
no_mantissa_at front back rest behind false false z f d s p-is e n h = let q = s.none p-is in rw (← q.1) (plain_not front rest f (rw q.1 d) (rw q.1 p-is) e)

pub is_mantissa : (text front back rest : List ℕ) → IsCut text front back rest → (ends_mantissa rest && ltb 0 (length front + length back)) ≡ true → IsMantissa text front back rest
is_mantissa text front back rest c h =
    let q = both (ends_mantissa rest) (ltb 0 (length front + length back)) h in
    rw c.whole (is_mantissa_at front back rest c.behind (starts is_point c.behind) c.digits c.fraction refl q.0 q.1)

pub no_mantissa : (text front back rest : List ℕ) → IsCut text front back rest → (ends_mantissa rest && ltb 0 (length front + length back)) ≡ false → mantissa_fits (before_first is_e text) ≡ false
no_mantissa text front back rest c h =
    rw c.whole (no_mantissa_at front back rest c.behind (starts is_point c.behind) (ends_mantissa rest) (ltb 0 (length front + length back)) c.digits c.stops c.fraction refl refl refl h)

-- ---- as the code cuts

after_is : (x n : ℕ) (xs after back rest : List ℕ) → x ≡ 46 → after ≡ xs → n ≡ prefix_len is_digit after → back ≡ take n after → rest ≡ drop n after → IsFraction (x ∷ xs) back rest
after_is x n xs after back rest first same n-is back-is rest-is =
    let cut = passing_in_front is_digit after in
    let back' : back ≡ take (prefix_len is_digit after) after = back-is ∙ ap (λ (k : ℕ). take k after) n-is in
    let rest' : rest ≡ drop (prefix_len is_digit after) after = rest-is ∙ ap (λ (k : ℕ). drop k after) n-is in
    let text : x ∷ xs ≡ 46 ∷ back ++ rest = rw (first, ← same, back', rest') (ap (λ (l : List ℕ). 46 ∷ l) (sym (take-append-drop (prefix_len is_digit after) after))) in
    let pointed : is_point x ≡ true = eq-eqb x 46 first in
    record { point = λ e. (rw back' cut.0, text, rw rest' cut.1); none = λ e. absurd (false≢true (sym e ∙ pointed)) }

pub is_fraction : (text after back rest : List ℕ) (n : ℕ) → 1 ≤ length text → get_or text 0 0 ≡ 46 → after ≡ take (length text - 1) (drop 1 text) → n ≡ prefix_len is_digit after → back ≡ take n after → rest ≡ drop n after
    → IsFraction text back rest
is_fraction [] after back rest n some first after-is n-is back-is rest-is = absurd (omega arith)
is_fraction (x ∷ xs) after back rest n some first after-is n-is back-is rest-is =
    after_is x n xs after back rest first (after-is ∙ take_all (length (x ∷ xs) - 1) xs (omega arith)) n-is back-is rest-is

pub cut_of : (text front behind back rest : List ℕ) (n : ℕ) → n ≡ prefix_len is_digit text → front ≡ take n text → behind ≡ drop n text → IsFraction behind back rest → IsCut text front back rest
cut_of text front behind back rest n n-is front-is behind-is f =
    let cut = passing_in_front is_digit text in
    let front' : front ≡ take (prefix_len is_digit text) text = front-is ∙ ap (λ (k : ℕ). take k text) n-is in
    let behind' : behind ≡ drop (prefix_len is_digit text) text = behind-is ∙ ap (λ (k : ℕ). drop k text) n-is in
    record {
      behind = behind;
      whole = rw (front', behind') (sym (take-append-drop (prefix_len is_digit text) text));
      digits = rw front' cut.0;
      stops = rw behind' cut.1;
      fraction = f;
    }
