-- All tokens of a text.
use Rattle.std.specs.Prelude.{◌≡◌, ℕ, zero, suc, ◌+◌, true, List, [], ◌∷◌, ◌++◌, length, map, Option, Some, None}
use Rattle.std.specs.List.{list_all}
use Rattle.oct_text.specs.Rest.{Left, Token, next_token, is_blank, is_word, ends_word}

-- The token is a longest run of bytes that are no blanks, with only blanks before it.
pub record IsLongestRun (left : Left) (token : Token) (after : Left) : Type 0 where
  pub blanks : List ℕ
  pub are_blank : list_all is_blank blanks ≡ true
  pub is_a_word : is_word token.text ≡ true
  pub is_longest : ends_word after.bytes ≡ true
  pub joined : left.bytes ≡ blanks ++ (token.text ++ after.bytes)
  pub begins : token.place ≡ left.place + length blanks
  pub ends : after.place ≡ token.place + length token.text

abbrev pub and_then : Option (Token × Left) → (Left → List Token) → List Token
and_then None later = []
and_then (Some t) later = t.0 ∷ later t.1

-- the first n tokens that are left
unfoldable pub first_tokens : ℕ → Left → List Token
first_tokens zero l = []
first_tokens (suc n) l = and_then (next_token l) (first_tokens n)

-- The tokens that are left, in order, with their places. There are no more than bytes.
unfoldable pub tokens : Left → List Token
tokens l = first_tokens (length l.bytes) l

abbrev pub texts_of : List Token → List (List ℕ)
texts_of ts = map (λ t. t.text) ts
