-- Lines of at most so many bytes.
use Rattle.std.specs.Prelude.{◌≡◌, ℕ, ◌+◌, ◌<◌, ◌-◌, true, false, ◌&&◌, ◌==◌, nat_lt, nat_le, if◌then◌else◌, List, ◌++◌, length, take, slice_index}
use Rattle.oct_text.specs.Rest.{Rest, line_len, after_line, continued, MayCome}
use Rattle.oct_text.specs.declared.tokens.LineTaken.{LineTaken}
use Rattle.oct_text.specs.declared.tokens.LineTaken.TheVariants as taken

-- without one CR at its end
abbrev pub without_cr : List ℕ → List ℕ
without_cr line = take (if nat_lt 0 (length line)
    && (slice_index line (length line - 1) == 13) then length line - 1 else length line) line

-- What stands at the front of a text: a line, one that is too long, or the end of the text.
pub data LineFront : Type 0 where
  IsLine : List ℕ → LineFront
  IsLong : LineFront
  NoLine : LineFront

abbrev pub short_or_long : ℕ → List ℕ → LineFront
short_or_long most line = if nat_le (length line) most then IsLine line else IsLong

-- the line at the front, by the first most + 2 bytes
unfoldable pub line_front : ℕ → List ℕ → LineFront
line_front most bytes =
    if nat_lt (line_len bytes) (length bytes) && nat_lt (line_len bytes) (most + 2)
    then short_or_long most (without_cr (take (line_len bytes) bytes))
    else if nat_le (most + 2) (length bytes) then IsLong
    else NoLine

-- A line was taken: it is that of the whole text, however the text goes on.
pub record TakesLine (most : ℕ) (old : Rest) (at : ℕ) (text : List ℕ) (new : Rest) : Type 0 where
  pub place : at ≡ old.place
  pub ended : new.ended ≡ old.ended
  pub shorter : length new.bytes < length old.bytes
  pub end : new.place + length new.bytes ≡ old.place + length old.bytes
  pub line : (more : List ℕ) → MayCome old more → line_front most (old.bytes ++ more) ≡ IsLine text
  pub behind : (more : List ℕ) → MayCome old more → after_line (continued old more) ≡ continued new more

-- The line of the whole text is long, however the text goes on.
pub record HasLong (most : ℕ) (old : Rest) (at : ℕ) (new : Rest) : Type 0 where
  pub place : at ≡ old.place
  pub same : new ≡ old
  pub long : (more : List ℕ) → MayCome old more → line_front most (old.bytes ++ more) ≡ IsLong

-- more bytes decide
pub record WaitsForLine (most : ℕ) (old new : Rest) : Type 0 where
  pub same : new ≡ old
  pub unended : old.ended ≡ false
  pub undecided : line_front most old.bytes ≡ NoLine

pub record HasNoMore (most : ℕ) (old : Rest) (at : ℕ) (new : Rest) : Type 0 where
  pub same : new ≡ old
  pub ended : old.ended ≡ true
  pub none : line_front most old.bytes ≡ NoLine
  pub place : at ≡ old.place + length old.bytes

abbrev pub LineBy : ℕ → Rest → LineTaken → Rest → Type 0
LineBy most old (taken.Line place text) new = TakesLine most old place text.now new
LineBy most old (taken.Long place) new = HasLong most old place new
LineBy most old taken.More new = WaitsForLine most old new
LineBy most old (taken.End place) new = HasNoMore most old place new
