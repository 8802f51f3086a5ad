-- The words that are left of a text, whatever their places, and those of lines.
use Rattle.std.proofs.Common.{◌≡◌, ℕ, ◌+◌, true, List, [], ◌∷◌, ◌++◌, length, flat_map, Some, None, refl, sym, subst, ◌∙◌, append_assoc}
use Rattle.oct_text.specs.Rest.{Left, Token, next_token, token_at_front, is_word, is_blank, ends_word}
use Rattle.oct_text.specs.Taken.{token_taken}
use Rattle.oct_text.proofs.Written.{next_token-word, next_token-blank}
use Rattle.vtk_legacy.specs.Written.{line}

abbrev pub left_at : ℕ → List ℕ → Left
left_at place bytes = record { place = place; bytes = bytes }

-- the next token is this word, and then this holds of what is left
pub record First (word : List ℕ) (l : Left) (Then : Left → Type 0) : Type 0 where
  pub token : Token × Left
  pub is : next_token l ≡ Some token
  pub text : token.0.text ≡ word
  pub rest : Then token.1

-- the tokens that are left are these words
abbrev pub Follows : List (List ℕ) → Left → Type 0
Follows [] l = next_token l ≡ None
Follows (w ∷ ws) l = First w l (Follows ws)

-- ---- of a text

pub follows-end : (place : ℕ) → Follows [] (left_at place [])
unfolding token_at_front
follows-end place = refl

pub follows-blank : (ws : List (List ℕ)) (place b : ℕ) (rest : List ℕ) → is_blank b ≡ true → Follows ws (left_at (place + 1) rest) → Follows ws (left_at place (b ∷ rest))
follows-blank [] place b rest h f = next_token-blank place b rest h ∙ f
follows-blank (w ∷ ws) place b rest h f = record { token = f.token; is = next_token-blank place b rest h ∙ f.is; text = f.text; rest = f.rest }

pub follows-word : (w : List ℕ) (ws : List (List ℕ)) (place : ℕ) (rest : List ℕ) → is_word w ≡ true → ends_word rest ≡ true → Follows ws (left_at (place + length w) rest) → Follows (w ∷ ws) (left_at place (w ++ rest))
follows-word w ws place rest h e f = record { token = (token_taken place w, left_at (place + length w) rest); is = next_token-word place w rest h e; text = refl; rest = f }

-- at least one word, and each is one
abbrev pub IsLineOfWords : List (List ℕ) → Type 0
IsLineOfWords [] = ⊥
IsLineOfWords (w ∷ []) = is_word w ≡ true
IsLineOfWords (w ∷ v ∷ ws) = (is_word w ≡ true) × IsLineOfWords (v ∷ ws)

follows-line : (words more : List (List ℕ)) (rest : List ℕ) → IsLineOfWords words → ((place : ℕ) → Follows more (left_at place rest)) → (place : ℕ) → Follows (words ++ more) (left_at place (line words ++ rest))
follows-line [] more rest h f place = absurd h
follows-line (w ∷ []) more rest h f place =
    subst (λ (bytes : List ℕ). Follows (w ∷ more) (left_at place bytes)) (sym (append_assoc w (10 ∷ []) rest))
    (follows-word w more place (10 ∷ rest) h refl (follows-blank more (place + length w) 10 rest refl (f (place + length w + 1))))
follows-line (w ∷ v ∷ ws) more rest h f place =
    let later = follows-line (v ∷ ws) more rest h.1 f (place + length w + 1) in
    let whole : line (w ∷ v ∷ ws) ++ rest ≡ w ++ (32 ∷ (line (v ∷ ws) ++ rest)) = simp append_assoc in
    subst (λ (bytes : List ℕ). Follows (w ∷ v ∷ ws ++ more) (left_at place bytes)) (sym whole)
    (follows-word w (v ∷ ws ++ more) place (32 ∷ (line (v ∷ ws) ++ rest)) h.0 refl (follows-blank (v ∷ ws ++ more) (place + length w) 32 (line (v ∷ ws) ++ rest) refl later))

-- each line has words
abbrev pub AreLines : List (List (List ℕ)) → Type 0
AreLines [] = Unit {0}
AreLines (l ∷ ls) = IsLineOfWords l × AreLines ls

pub AreLines-append : (a b : List (List (List ℕ))) → AreLines a → AreLines b → AreLines (a ++ b)
AreLines-append [] b h g = g
AreLines-append (l ∷ a) b h g = (h.0, AreLines-append a b h.1 g)

-- the words of lines, one after another
abbrev pub words_of : List (List (List ℕ)) → List (List ℕ)
words_of lines = flat_map (λ l. l) lines

-- the words of lines are what is left of their text
pub follows-lines : (lines : List (List (List ℕ))) → AreLines lines → (place : ℕ) → Follows (words_of lines) (left_at place (flat_map line lines))
follows-lines [] h place = follows-end place
follows-lines (l ∷ lines) h place = follows-line l (words_of lines) (flat_map line lines) h.0 (follows-lines lines h.1) place
