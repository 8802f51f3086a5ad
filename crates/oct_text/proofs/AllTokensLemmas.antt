-- One token after another is all tokens.
use Rattle.std.proofs.Common.{◌≡◌, ℕ, zero, suc, ◌<◌, ◌≤◌, Bool, true, false, not, eqb, ltb, List, [], ◌∷◌, ◌++◌, length, take, drop, Option, Some, None, refl, sym, ap, ◌∙◌, arith}
use Rattle.std.specs.List.{prefix_len, list_all}
use Rattle.std.proofs.lemmas.List.{length-drop, length-take-le, take-append-drop, nil_from_length, append-nil}
use Rattle.std.proofs.lemmas.List.Sums.{prefix_len-le-length}
use Rattle.std.proofs.lemmas.Bool.{lt-ltb, eqb-true}
use Rattle.oct_text.specs.Rest.{is_blank, ends_word, solid_len, Left, Token, Rest, beyond, after_blanks, token_at_front, next_token, continued, past_blanks, MayCome}
use Rattle.oct_text.specs.Taken.{token_taken, Takes, IsAtEnd, Waits}
use Rattle.oct_text.specs.Parts.{starts}
use Rattle.oct_text.specs.AllTokens.{IsLongestRun, and_then, first_tokens, tokens}
use Rattle.oct_text.proofs.PartsLemmas.{passing_in_front}
use Rattle.oct_text.proofs.TokenLemmas.{solid_there, next_token-past}

-- less is left behind a token than before it
abbrev pub IsShorter : Left → Option (Token × Left) → Type 0
IsShorter l None = Unit {0}
IsShorter l (Some t) = length t.1.bytes < length l.bytes

some_bytes : (bytes : List ℕ) → eqb (length bytes) 0 ≡ false → 0 < length bytes
some_bytes [] e = absurd cc
some_bytes (b ∷ bs) e = omega arith

shorter_by : (l : Left) (b : Bool) → eqb (length (after_blanks l).bytes) 0 ≡ b → IsShorter l (next_token l)
unfolding token_at_front
shorter_by l true e = rw e tt
shorter_by l false e =
    let bytes = (after_blanks l).bytes in
    let some : 0 < length bytes = some_bytes bytes e in
    rw e (omega (arith, solid_there l.bytes some, length-drop (solid_len bytes) bytes, length-drop (prefix_len is_blank l.bytes) l.bytes))

pub next_token-shorter : (l : Left) → IsShorter l (next_token l)
next_token-shorter l = shorter_by l (eqb (length (after_blanks l).bytes) 0) refl

same_first : (m n : ℕ) (l : Left) (o : Option (Token × Left)) → IsShorter l o → length l.bytes ≤ suc m → length l.bytes ≤ suc n
    → ((k : Left) → length k.bytes ≤ m → length k.bytes ≤ n → first_tokens m k ≡ first_tokens n k) → and_then o (first_tokens m) ≡ and_then o (first_tokens n)
same_first m n l None s a b later = refl
same_first m n l (Some t) s a b later = ap (λ (ts : List Token). t.0 ∷ ts) (later t.1 (omega (arith, s)) (omega (arith, s)))

none_at : (l : Left) (o : Option (Token × Left)) → IsShorter l o → length l.bytes ≤ 0 → o ≡ None
none_at l None s le = refl
none_at l (Some t) s le = absurd (omega (arith, s))

-- any two numbers that are not too small do the same
enough : (m n : ℕ) (l : Left) → length l.bytes ≤ m → length l.bytes ≤ n → first_tokens m l ≡ first_tokens n l
unfolding first_tokens
enough zero zero l a b = refl
enough zero (suc n) l a b = rw (none_at l (next_token l) (next_token-shorter l) a) refl
enough (suc m) zero l a b = rw (none_at l (next_token l) (next_token-shorter l) b) refl
enough (suc m) (suc n) l a b = same_first m n l (next_token l) (next_token-shorter l) a b (enough m n)

one_first : (n : ℕ) (l : Left) → length l.bytes ≤ n → first_tokens (suc n) l ≡ tokens l
unfolding tokens
one_first n l le = enough (suc n) (length l.bytes) l (omega arith) (omega arith)

-- the first token, and those behind it
pub tokens-next : (l : Left) (t : Token × Left) → next_token l ≡ Some t → tokens l ≡ t.0 ∷ tokens t.1
unfolding tokens first_tokens
tokens-next l t e =
    let s : length t.1.bytes < length l.bytes = (let s = next_token-shorter l in rw e at s) in
    sym (one_first (length l.bytes) l (omega arith)) ∙ rw e (ap (λ (ts : List Token). t.0 ∷ ts) (enough (length l.bytes) (length t.1.bytes) t.1 (omega arith) (omega arith)))

pub tokens-none : (l : Left) → next_token l ≡ None → tokens l ≡ []
unfolding first_tokens
tokens-none l e = sym (one_first (length l.bytes) l (omega arith)) ∙ rw e refl

same_tokens : (k l : Left) (o : Option (Token × Left)) → next_token l ≡ o → next_token k ≡ o → tokens k ≡ tokens l
same_tokens k l None e f = tokens-none k f ∙ sym (tokens-none l e)
same_tokens k l (Some t) e f = tokens-next k t f ∙ sym (tokens-next l t e)

-- where the next token is the same, all are
pub tokens-same : (k l : Left) → next_token k ≡ next_token l → tokens k ≡ tokens l
tokens-same k l e = same_tokens k l (next_token l) refl e

nothing_there : (place : ℕ) → next_token (record { place = place; bytes = [] }) ≡ None
unfolding token_at_front
nothing_there place = refl

pub tokens-nothing : (place : ℕ) → tokens (record { place = place; bytes = [] }) ≡ []
tokens-nothing place = tokens-none (record { place = place; bytes = [] }) (nothing_there place)

-- ---- the next token is a longest run

ends_at : (rest : List ℕ) → starts (λ b. not (is_blank b)) rest ≡ false → ends_word rest ≡ true
ends_at [] h = refl
ends_at (b ∷ bs) h = by_blank (is_blank b) h
  where
    by_blank : (x : Bool) → not x ≡ false → x ≡ true
    by_blank true e = refl
    by_blank false e = absurd cc

run_at : (l : Left) → 0 < length (after_blanks l).bytes → IsLongestRun l (token_taken (after_blanks l).place (take (solid_len (after_blanks l).bytes) (after_blanks l).bytes)) (beyond (solid_len (after_blanks l).bytes) (after_blanks l))
run_at l some =
    let n = prefix_len is_blank l.bytes in
    let rest = drop n l.bytes in
    let k = solid_len rest in
    let blank = passing_in_front is_blank l.bytes in
    let word = passing_in_front (λ b. not (is_blank b)) rest in
    let le : k ≤ length rest = prefix_len-le-length (λ b. not (is_blank b)) rest in
    let len : length (take k rest) ≡ k = length-take-le k rest le in
    let before : length (take n l.bytes) ≡ n = length-take-le n l.bytes (prefix_len-le-length is_blank l.bytes) in
    let there : 0 < k = solid_there l.bytes some in
    let some_text : ltb 0 (length (take k rest)) ≡ true = lt-ltb 0 (length (take k rest)) (omega (arith, len, there)) in
    record {
      blanks = take n l.bytes;
      are_blank = blank.0;
      is_a_word = rw (some_text, word.0) refl;
      is_longest = ends_at (drop k rest) word.1;
      joined = sym (ap (λ (x : List ℕ). take n l.bytes ++ x) (take-append-drop k rest) ∙ take-append-drop n l.bytes);
      begins = rw before refl;
      ends = rw len refl;
    }

-- what the next token is, where there is one
abbrev pub IsNextRun : Left → Option (Token × Left) → Type 0
IsNextRun l None = list_all is_blank l.bytes ≡ true
IsNextRun l (Some t) = IsLongestRun l t.0 t.1

nothing_left : (bytes : List ℕ) → length (drop (prefix_len is_blank bytes) bytes) ≡ 0 → list_all is_blank bytes ≡ true
nothing_left bytes h =
    let n = prefix_len is_blank bytes in
    let none : drop n bytes ≡ [] = nil_from_length (drop n bytes) h in
    let all : take n bytes ≡ bytes = sym (append-nil (take n bytes)) ∙ ap (λ (x : List ℕ). take n bytes ++ x) (sym none) ∙ take-append-drop n bytes in
    ap (list_all is_blank) (sym all) ∙ (passing_in_front is_blank bytes).0

run_by : (l : Left) (b : Bool) → eqb (length (after_blanks l).bytes) 0 ≡ b → IsNextRun l (next_token l)
unfolding token_at_front
run_by l true e = rw e (nothing_left l.bytes (eqb-true _ 0 e))
run_by l false e =
    let some : 0 < length (after_blanks l).bytes = some_bytes (after_blanks l).bytes e in
    rw e (run_at l some)

pub next_token-run : (l : Left) → IsNextRun l (next_token l)
next_token-run l = run_by l (eqb (length (after_blanks l).bytes) 0) refl

pub run-token : (l : Left) (t : Token × Left) → next_token l ≡ Some t → IsLongestRun l t.0 t.1
run-token l t e = let r = next_token-run l in rw e at r

pub run-none : (l : Left) → next_token l ≡ None → list_all is_blank l.bytes ≡ true
run-none l e = let r = next_token-run l in rw e at r

-- ---- of a text in pieces

pub tokens-takes : (old new : Rest) (token : Token) → Takes old token new → (more : List ℕ) → MayCome old more → tokens (continued old more) ≡ token ∷ tokens (continued new more)
tokens-takes old new token t more may = tokens-next (continued old more) (token, continued new more) (t.again more may)

pub tokens-past : (r : Rest) (more : List ℕ) → tokens (continued (past_blanks r) more) ≡ tokens (continued r more)
tokens-past r more = tokens-same (continued (past_blanks r) more) (continued r more) (next_token-past r more)

pub tokens-waits : (old new : Rest) → Waits old new → (more : List ℕ) → tokens (continued new more) ≡ tokens (continued old more)
tokens-waits old new w more = ap (λ (r : Rest). tokens (continued r more)) w.left ∙ tokens-past old more

pub tokens-at_end : (old : Rest) (place : ℕ) (new : Rest) → IsAtEnd old place new → tokens (continued old []) ≡ []
tokens-at_end old place new e =
    sym (tokens-past old []) ∙ sym (ap (λ (r : Rest). tokens (continued r [])) e.left) ∙ ap (λ (bytes : List ℕ). tokens (record { place = new.place; bytes = bytes ++ [] })) e.nothing ∙ tokens-nothing new.place
