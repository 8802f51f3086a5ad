-- Reading leaves no more bytes than there were, so the bound on the number of blocks does not matter.
use Rattle.std.proofs.Common.{◌≡◌, ℕ, zero, suc, ◌+◌, ◌*◌, ◌<◌, ◌≤◌, Bool, true, false, cond, eqb, ltb, length, drop, take, Option, Some, None, Result, Ok, Err, refl, ap, ◌∙◌, arith}
use Rattle.std.specs.Prelude.{codes}
use Rattle.std.specs.List.{prefix_len, position_or_len}
use Rattle.std.proofs.lemmas.List.{length-drop}
use Rattle.std.proofs.lemmas.Bool.{eqb-false}
use Rattle.oct_text.specs.Rest.{is_blank, solid_len, Left, Token, next_token, token_at_front, is_lf, after_line, beyond, after_blanks, end_of}
use Rattle.oct_text.specs.Numbers.{count_of}
use Rattle.oct_text.specs.declared.numbers.CountFault.{CountFault}
use Rattle.oct_text.specs.declared.numbers.CountFault.TheVariants as count_faults
use Rattle.oct_text.proofs.TokenLemmas.{solid_there}
use Rattle.vtk_legacy.specs.declared.fault.MeshKind.{MeshKind}
use Rattle.vtk_legacy.specs.declared.fault.MeshKind.TheVariants as kinds
use Rattle.vtk_legacy.specs.Words.{word_is, is_numeric}
use Rattle.vtk_legacy.specs.MeshText.{Fault, fault, ◌>>=◌, Read, or_truncated, token, counted, count, count_taken, most_count, numeric, numeric_taken, skip, array, arrays, field, metadata, blank_line_len, on_block, blocks_within, blocks}

-- ---- a token

guarded : {A : Type 0} (c : Bool) (x y : A) → cond c None (Some x) ≡ Some y → (c ≡ false) × (x ≡ y)
guarded true x y e = absurd cc
guarded false x y e = (refl, cc)

front-shorter : (b : Left) (t : Token × Left) → (0 < length b.bytes → 0 < solid_len b.bytes) → token_at_front b ≡ Some t → length t.1.bytes < length b.bytes
unfolding token_at_front
front-shorter b t solid e =
    let g = guarded (eqb (length b.bytes) 0) (record { place = b.place; text = take (solid_len b.bytes) b.bytes }, beyond (solid_len b.bytes) b) t e in
    let some : 0 < length b.bytes = omega (arith, eqb-false (length b.bytes) 0 g.0) in
    let left : length (drop (solid_len b.bytes) b.bytes) ≡ length t.1.bytes = ap (λ (x : Token × Left). length x.1.bytes) g.1 in
    omega (arith, left, length-drop (solid_len b.bytes) b.bytes, solid some)

-- what is left behind a token is shorter
pub next_token-shorter : (l : Left) (t : Token × Left) → next_token l ≡ Some t → length t.1.bytes < length l.bytes
next_token-shorter l t e =
    omega (arith, front-shorter (after_blanks l) t (solid_there l.bytes) e, length-drop (prefix_len is_blank l.bytes) l.bytes)

-- ---- readers

-- nothing is added to what is left
abbrev pub Shrinks : ℕ → Result Left Fault → Type 0
Shrinks n (Ok l) = length l.bytes ≤ n
Shrinks n (Err e) = Unit {0}

abbrev pub ShrinksRead : {A : Type 0} → ℕ → Read A → Type 0
ShrinksRead n (Ok x) = length x.1.bytes ≤ n
ShrinksRead n (Err e) = Unit {0}

Shrinks-read : {A : Type 0} (n : ℕ) (r : Read A) (f : A × Left → Result Left Fault) → ShrinksRead n r → ((x : A × Left) → length x.1.bytes ≤ n → Shrinks n (f x)) → Shrinks n (r >>= f)
Shrinks-read n (Ok x) f h later = later x h
Shrinks-read n (Err e) f h later = tt

Shrinks-then : (n : ℕ) (r : Result Left Fault) (f : Left → Result Left Fault) → Shrinks n r → ((l : Left) → length l.bytes ≤ n → Shrinks n (f l)) → Shrinks n (r >>= f)
Shrinks-then n (Ok l) f h later = later l h
Shrinks-then n (Err e) f h later = tt

token_from : (n place : ℕ) (o : Option (Token × Left)) → ((t : Token × Left) → o ≡ Some t → length t.1.bytes ≤ n) → ShrinksRead n (or_truncated place o)
token_from n place None h = tt
token_from n place (Some t) h = h t refl

token-shrinks : (n : ℕ) (l : Left) → length l.bytes ≤ n → ShrinksRead n (token l)
token-shrinks n l h = token_from n (end_of l) (next_token l) (λ t e. omega (arith, next_token-shorter l t e))

counted-shrinks : (n : ℕ) (t : Token × Left) (r : Result ℕ CountFault) → length t.1.bytes ≤ n → ShrinksRead n (counted t r)
counted-shrinks n t (Ok c) h = h
counted-shrinks n t (Err count_faults.Bad) h = tt
counted-shrinks n t (Err count_faults.Over) h = tt

ShrinksRead-read : {A B : Type 0} (n : ℕ) (r : Read A) (f : A × Left → Read B) → ShrinksRead n r → ((x : A × Left) → length x.1.bytes ≤ n → ShrinksRead n (f x)) → ShrinksRead n (r >>= f)
ShrinksRead-read n (Ok x) f h later = later x h
ShrinksRead-read n (Err e) f h later = tt

count-shrinks : (n most : ℕ) (l : Left) → length l.bytes ≤ n → ShrinksRead n (count most l)
count-shrinks n most l h = ShrinksRead-read n (token l) (count_taken most) (token-shrinks n l h) (λ t le. counted-shrinks n t (count_of t.0.text most) le)

tested-shrinks : (n : ℕ) (b : Bool) (l : Left) (e : Fault) → length l.bytes ≤ n → Shrinks n (cond b (Ok l) (Err e))
tested-shrinks n true l e h = h
tested-shrinks n false l e h = tt

numeric-shrinks : (n : ℕ) (kind : MeshKind) (l : Left) → length l.bytes ≤ n → Shrinks n (numeric kind l)
numeric-shrinks n kind l h = Shrinks-read n (token l) (numeric_taken kind) (token-shrinks n l h) (λ t le. tested-shrinks n (is_numeric t.0.text) t.1 (fault kind t.0.place) le)

skip-shrinks : (n v : ℕ) (l : Left) → length l.bytes ≤ n → Shrinks n (skip v l)
unfolding skip
skip-shrinks n zero l h = h
skip-shrinks n (suc v) l h = Shrinks-read n (token l) (λ t. skip v t.1) (token-shrinks n l h) (λ t le. skip-shrinks n v t.1 le)

array-shrinks : (n : ℕ) (l : Left) → length l.bytes ≤ n → Shrinks n (array l)
array-shrinks n l h =
    Shrinks-read n (token l) _ (token-shrinks n l h) (λ name le.
    Shrinks-read n (count most_count name.1) _ (count-shrinks n most_count name.1 le) (λ c le1.
    Shrinks-read n (count most_count c.1) _ (count-shrinks n most_count c.1 le1) (λ t le2.
    Shrinks-then n (numeric kinds.Field t.1) _ (numeric-shrinks n kinds.Field t.1 le2) (λ v le3. skip-shrinks n (c.0 * t.0) v le3))))

arrays-shrinks : (n k : ℕ) (l : Left) → length l.bytes ≤ n → Shrinks n (arrays k l)
unfolding arrays
arrays-shrinks n zero l h = h
arrays-shrinks n (suc k) l h = Shrinks-then n (array l) (arrays k) (array-shrinks n l h) (λ r le. arrays-shrinks n k r le)

pub field-shrinks : (n : ℕ) (l : Left) → length l.bytes ≤ n → Shrinks n (field l)
field-shrinks n l h =
    Shrinks-read n (token l) _ (token-shrinks n l h) (λ name le.
    Shrinks-read n (count most_count name.1) _ (count-shrinks n most_count name.1 le) (λ k le1. arrays-shrinks n k.0 k.1 le1))

beyond-shrinks : (k : ℕ) (l : Left) → length (beyond k l).bytes ≤ length l.bytes
beyond-shrinks k l = omega (arith, length-drop k l.bytes)

after_line-shrinks : (l : Left) → length (after_line l).bytes ≤ length l.bytes
after_line-shrinks l = at_lf (ltb (position_or_len is_lf l.bytes) (length l.bytes))
  where
    at_lf : (b : Bool) → length (cond b (beyond (position_or_len is_lf l.bytes + 1) l) (beyond (length l.bytes) l)).bytes ≤ length l.bytes
    at_lf true = beyond-shrinks (position_or_len is_lf l.bytes + 1) l
    at_lf false = beyond-shrinks (length l.bytes) l

pub metadata-shrinks : (l : Left) → length (metadata l).bytes ≤ length l.bytes
metadata-shrinks l = omega (arith, after_line-shrinks l, beyond-shrinks (blank_line_len true (after_line l).bytes) (after_line l))

-- ---- the bound on the number of blocks

same-then : (n : ℕ) (r : Result Left Fault) (f g : Left → Result Left Fault) → Shrinks n r → ((l : Left) → length l.bytes ≤ n → f l ≡ g l) → (r >>= f) ≡ (r >>= g)
same-then n (Ok l) f g h same = same l h
same-then n (Err e) f g h same = refl

same_at_word : (x y : Bool) (l : Left) (t : Left) (n : ℕ) (f g : Left → Result Left Fault) → length t.bytes ≤ n
    → ((l : Left) → length l.bytes ≤ n → f l ≡ g l) → cond x (field t >>= f) (cond y (f (metadata t)) (Ok l)) ≡ cond x (field t >>= g) (cond y (g (metadata t)) (Ok l))
same_at_word true y l t n f g le same = same-then n (field t) f g (field-shrinks n t le) same
same_at_word false true l t n f g le same = same (metadata t) (omega (arith, metadata-shrinks t, le))
same_at_word false false l t n f g le same = refl

same-block : (l : Left) (o : Option (Token × Left)) (n : ℕ) (f g : Left → Result Left Fault) → ((t : Token × Left) → o ≡ Some t → length t.1.bytes < n)
    → ((x : Left) → length x.bytes < n → f x ≡ g x) → on_block o l f ≡ on_block o l g
same-block l None n f g shorter same = refl
same-block l (Some t) n f g shorter same =
    let lt : length t.1.bytes < n = shorter t refl in
    same_at_word (word_is t.0.text (codes "field")) (word_is t.0.text (codes "metadata")) l t.1 (length t.1.bytes) f g (omega arith) (λ x le. same x (omega (arith, lt, le)))

-- any two bounds that are large enough do the same
pub blocks_within-enough : (n m : ℕ) (l : Left) → length l.bytes < n → length l.bytes < m → blocks_within n l ≡ blocks_within m l
unfolding blocks_within
blocks_within-enough zero m l h k = absurd (omega arith)
blocks_within-enough (suc n) zero l h k = absurd (omega arith)
blocks_within-enough (suc n) (suc m) l h k =
    same-block l (next_token l) (length l.bytes) (blocks_within n) (blocks_within m) (next_token-shorter l)
    (λ x lt. blocks_within-enough n m x (omega (arith, h, lt)) (omega (arith, k, lt)))

-- the blocks that are left, where a token is there
pub blocks-at : (l : Left) (t : Token × Left) → next_token l ≡ Some t → blocks l ≡ on_block (Some t) l blocks
unfolding blocks_within
blocks-at l t e =
    same-block l (next_token l) (length l.bytes) (blocks_within (length l.bytes)) blocks (next_token-shorter l)
    (λ x lt. blocks_within-enough (length l.bytes) (suc (length x.bytes)) x lt (omega arith))
    ∙ ap (λ (o : Option (Token × Left)). on_block o l blocks) e
