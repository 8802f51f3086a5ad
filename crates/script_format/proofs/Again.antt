-- The lines of a printed script are read again.
use Rattle.std.proofs.Common.{◌≡◌, ℕ, zero, suc, ◌-◌, ◌<◌, Bool, true, false, not, List, [], ◌∷◌, ◌++◌, length, get_or, map, refl, sym, ap, ◌∙◌, arith, append_assoc, length-append}
use Rattle.std.specs.Prelude.{◌==◌, ◌&&◌, nat_lt, filter, All}
use Rattle.std.specs.List.{list_all, slice_split, AllByRecursion}
use Rattle.std.proofs.lemmas.Bool.{ltb-true, lt-ltb}
use Rattle.std.proofs.lemmas.Bool.Decides.{nat_tests}
use Rattle.std.proofs.lemmas.List.{append-nil}
use Rattle.std.proofs.Math.Seq.{take-length}
use Rattle.std.proofs.lemmas.List.Splits.{slice_split_at, slice_split_none, length-slice_split}
use Rattle.std.proofs.lemmas.List.Elements.{All-from_recursion}
use Rattle.oct_text.specs.Rest.{is_blank, is_word}
use Rattle.oct_text.specs.Line.{without_cr}
use Rattle.script_format.specs.ScriptText.{Word, is_lf, is_space, without_empty_end, lines, words}
use Rattle.script_format.specs.Printed.{AreWords, spaced, line_spelling}

-- ---- words: bytes that are no blanks

abbrev pub solid : ℕ → Bool
solid b = not (is_blank b)

-- each byte is solid
abbrev pub AllSolid : List ℕ → Type 0
AllSolid [] = Unit {0}
AllSolid (b ∷ bs) = (solid b ≡ true) × AllSolid bs

pub record IsWord (w : List ℕ) : Type 0 where
  pub some : 0 < length w
  pub solid : AllSolid w

and-both : (a b : Bool) → (a && b) ≡ true → (a ≡ true) × (b ≡ true)
and-both true b e = (refl, e)
and-both false b e = absurd (cc)

all-solid : (w : List ℕ) → list_all solid w ≡ true → AllSolid w
all-solid [] e = tt
all-solid (b ∷ bs) e = let p = and-both (solid b) (list_all solid bs) e in (p.0, all-solid bs p.1)

pub word-is : (w : List ℕ) → is_word w ≡ true → IsWord w
word-is w e = let p = and-both (nat_lt 0 (length w)) (list_all solid w) e in record { some = ltb-true _ _ p.0; solid = all-solid w p.1 }

-- ---- bytes of a line: solid ones, and spaces between words

abbrev InLine : ℕ → Type 0
InLine b = (is_lf b ≡ false) × ((b == 13) ≡ false)

solid-space : (b : ℕ) → solid b ≡ true → is_space b ≡ false
solid-space b e = grind (arith, nat_tests)

solid-line : (b : ℕ) → solid b ≡ true → InLine b
solid-line b e = (grind (arith, nat_tests), grind (arith, nat_tests))

none-of : (p : ℕ → Bool) (w : List ℕ) → AllByRecursion (λ b. p b ≡ false) w → All (λ b. p b ≡ false) w
none-of p w a = All-from_recursion (λ b. p b ≡ false) w a

spaces-none : (w : List ℕ) → AllSolid w → AllByRecursion (λ b. is_space b ≡ false) w
spaces-none [] a = tt
spaces-none (b ∷ bs) a = (solid-space b a.0, spaces-none bs a.1)

-- ---- words

abbrev pub AllWords : List Word → Type 0
AllWords ws = AllByRecursion IsWord ws

split-words : (w : Word) (ws : List Word) → IsWord w → AllWords ws → slice_split is_space (w ++ spaced ws) ≡ w ∷ ws
split-words w [] i a = ap (slice_split is_space) (append-nil w) ∙ slice_split_none is_space w (none-of is_space w (spaces-none w i.solid))
split-words w (v ∷ vs) i a =
    slice_split_at is_space w 32 (v ++ spaced vs) (none-of is_space w (spaces-none w i.solid)) refl
    ∙ ap (λ (l : List Word). w ∷ l) (split-words v vs a.0 a.1)

keep-words : (ws : List Word) → AllWords ws → filter (λ w. nat_lt 0 (length w)) ws ≡ ws
keep-words [] a = refl
keep-words (w ∷ ws) a = rw (lt-ltb 0 (length w) (a.0).some) (ap (λ (l : List Word). w ∷ l) (keep-words ws a.1))

-- the words of a line are those that were printed
pub words-spaced : (w : Word) (ws : List Word) → IsWord w → AllWords ws → words (w ++ spaced ws) ≡ w ∷ ws
unfolding words
words-spaced w ws i a = ap (filter (λ v. nat_lt 0 (length v))) (split-words w ws i a) ∙ keep-words (w ∷ ws) (i, a)

-- ---- lines

solid-in : (w : List ℕ) → AllSolid w → AllByRecursion InLine w
solid-in [] a = tt
solid-in (b ∷ bs) a = (solid-line b a.0, solid-in bs a.1)

in-append : (xs ys : List ℕ) → AllByRecursion InLine xs → AllByRecursion InLine ys → AllByRecursion InLine (xs ++ ys)
in-append [] ys a b = b
in-append (x ∷ xs) ys a b = (a.0, in-append xs ys a.1 b)

line-in : (w : Word) (ws : List Word) → IsWord w → AllWords ws → AllByRecursion InLine (w ++ spaced ws)
line-in w [] i a = in-append w [] (solid-in w i.solid) tt
line-in w (v ∷ vs) i a = in-append w (32 ∷ (v ++ spaced vs)) (solid-in w i.solid) ((refl, refl), line-in v vs a.0 a.1)

no-lf : (bs : List ℕ) → AllByRecursion InLine bs → AllByRecursion (λ b. is_lf b ≡ false) bs
no-lf [] a = tt
no-lf (b ∷ bs) a = ((a.0).0, no-lf bs a.1)

last-in : (bs : List ℕ) (i : ℕ) → AllByRecursion InLine bs → i < length bs → (get_or bs i 0 == 13) ≡ false
last-in [] i a lt = absurd (omega arith)
last-in (b ∷ bs) zero a lt = (a.0).1
last-in (b ∷ bs) (suc i) a lt = last-in bs i a.1 (omega arith)

no-cr : (bs : List ℕ) → AllByRecursion InLine bs → 0 < length bs → without_cr bs ≡ bs
no-cr bs a lt =
    rw (lt-ltb 0 (length bs) lt, last-in bs (length bs - 1) a (omega arith)) (take-length bs)

more-lines : (p : List ℕ) (ps : List (List ℕ)) → 0 < length ps → without_empty_end (p ∷ ps) ≡ p ∷ without_empty_end ps
more-lines p [] lt = absurd (omega arith)
more-lines p (q ∷ ps) lt = refl

-- the first line of a text that begins with a printed line
pub lines-spelled : (w : Word) (ws : List Word) (rest : List ℕ) → IsWord w → AllWords ws → lines (line_spelling (w ∷ ws) ++ rest) ≡ (w ++ spaced ws) ∷ lines rest
unfolding lines
lines-spelled w ws rest i a =
    let content = w ++ spaced ws in
    let inside = line-in w ws i a in
    let some : 0 < length (w ++ spaced ws) = let s = i.some in omega (arith, length-append w (spaced ws)) in
    let count = length-slice_split is_lf rest in
    ap lines-of (append_assoc w (spaced ws ++ 10 ∷ []) rest ∙ (ap (λ (l : List ℕ). w ++ l) (append_assoc (spaced ws) (10 ∷ []) rest) ∙ sym (append_assoc w (spaced ws) (10 ∷ rest))))
    ∙ (ap (λ (ps : List (List ℕ)). map without_cr (without_empty_end ps)) (slice_split_at is_lf content 10 rest (none-of is_lf content (no-lf content inside)) refl)
    ∙ (ap (map without_cr) (more-lines content (slice_split is_lf rest) (omega arith)) ∙ ap (λ (l : List ℕ). l ∷ map without_cr (without_empty_end (slice_split is_lf rest))) (no-cr content inside some)))
  where
    lines-of : List ℕ → List (List ℕ)
    lines-of text = map without_cr (without_empty_end (slice_split is_lf text))

-- ---- the same of what is printed

pub are-words : (ws : List Word) → AreWords ws → AllWords ws
are-words [] a = tt
are-words (w ∷ ws) a = (word-is w a.0, are-words ws a.1)

pub line-again : (w : Word) (ws : List Word) (rest : List ℕ) → AreWords (w ∷ ws) → lines (line_spelling (w ∷ ws) ++ rest) ≡ (w ++ spaced ws) ∷ lines rest
line-again w ws rest a = lines-spelled w ws rest (word-is w a.0) (are-words ws a.1)

pub words-again : (w : Word) (ws : List Word) → AreWords (w ∷ ws) → words (w ++ spaced ws) ≡ w ∷ ws
words-again w ws a = words-spaced w ws (word-is w a.0) (are-words ws a.1)
