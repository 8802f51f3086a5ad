-- What is left of a text, and the token at its front.
use Rattle.std.specs.Prelude.{◌≡◌, ℕ, ◌+◌, Bool, true, not, ◌||◌, ◌&&◌, ◌==◌, nat_lt, if◌then◌else◌, List, [], ◌∷◌, ◌++◌, length, take, drop, Option, Some, None}
use Rattle.std.specs.List.{prefix_len, position_or_len, list_all}

-- a space, tab, LF, vertical tab, form feed or CR
abbrev pub is_blank : ℕ → Bool
is_blank b = (b == 32) || (nat_lt 8 b && nat_lt b 14)

-- how many bytes stand before the first blank
abbrev pub solid_len : List ℕ → ℕ
solid_len bytes = position_or_len is_blank bytes

-- at least one byte, and no blank
abbrev pub is_word : List ℕ → Bool
is_word text = nat_lt 0 (length text) && list_all (λ b. not (is_blank b)) text

-- nothing follows, or a blank
abbrev pub ends_word : List ℕ → Bool
ends_word [] = true
ends_word (b ∷ bs) = is_blank b

-- ---- of a whole text

-- what is left of a text, and the place of its first byte
pub record Left : Type 0 where
  pub place : ℕ
  pub bytes : List ℕ

abbrev pub beyond : ℕ → Left → Left
beyond n l = record { place = l.place + n; bytes = drop n l.bytes }

-- what is left from the first byte on that is not blank
abbrev pub after_blanks : Left → Left
after_blanks l = beyond (prefix_len is_blank l.bytes) l

-- the place of the end of the text
abbrev pub end_of : Left → ℕ
end_of l = l.place + length l.bytes

-- a longest run of bytes that are not blank, and the place of its first byte
pub record Token : Type 0 where
  pub place : ℕ
  pub text : List ℕ

-- the token at the front, and what is left behind it
unfoldable pub token_at_front : Left → Option (Token × Left)
token_at_front l =
    if length l.bytes == 0 then None
    else Some (record { place = l.place; text = take (solid_len l.bytes) l.bytes }, beyond (solid_len l.bytes) l)

-- the first token that is left, and what is left behind it
abbrev pub next_token : Left → Option (Token × Left)
next_token l = token_at_front (after_blanks l)

-- how many bytes stand before the first LF
abbrev pub is_lf : ℕ → Bool
is_lf b = b == 10

abbrev pub line_len : List ℕ → ℕ
line_len bytes = position_or_len is_lf bytes

-- what is left behind the first LF, or at the end where there is none
abbrev pub after_line : Left → Left
after_line l = if nat_lt (line_len l.bytes) (length l.bytes) then beyond (line_len l.bytes + 1) l
    else beyond (length l.bytes) l

-- the bytes before the first LF are blank
abbrev pub is_blank_line : List ℕ → Bool
is_blank_line bytes = list_all is_blank (take (line_len bytes) bytes)

-- ---- of a text that comes in pieces

-- what came and was not taken, the place of its first byte, and whether the text ends with it
pub record Rest : Type 0 where
  pub place : ℕ
  pub bytes : List ℕ
  pub ended : Bool

-- the rest behind its first n bytes
abbrev pub behind : ℕ → Rest → Rest
behind n r = record { place = r.place + n; bytes = drop n r.bytes; ended = r.ended }

-- the rest from its first byte on that is not blank
abbrev pub past_blanks : Rest → Rest
past_blanks r = behind (prefix_len is_blank r.bytes) r

-- what is left of the whole text, if it goes on with these bytes
abbrev pub continued : Rest → List ℕ → Left
continued r more = record { place = r.place; bytes = r.bytes ++ more }

-- these bytes may come: none where the text has ended
abbrev pub MayCome : Rest → List ℕ → Type 0
MayCome r more = r.ended ≡ true → more ≡ []

-- What stands at the front of a rest: a whole token, what more bytes decide, or the end at this place.
pub data Front : Type 0 where
  Whole : Token → Front
  Unknown : Front
  Ended : ℕ → Front

-- of a rest that does not begin with a blank
abbrev pub front_of : Rest → Front
front_of r =
    if nat_lt (solid_len r.bytes) (length r.bytes) || (r.ended && nat_lt 0 (length r.bytes))
    then Whole (record { place = r.place; text = take (solid_len r.bytes) r.bytes })
    else if r.ended then Ended r.place else Unknown
