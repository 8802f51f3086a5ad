-- What `next` gives, and what it leaves.
use Rattle.std.specs.Prelude.{◌≡◌, ℕ, ◌+◌, ◌<◌, Bool, true, false, List, [], ◌++◌, length, Some}
use Rattle.oct_text.specs.Rest.{Rest, Token, Front, Whole, Unknown, Ended, past_blanks, continued, MayCome, next_token, after_line, is_blank_line, line_len}
use Rattle.oct_text.specs.declared.tokens.Skipped.{Skipped}
use Rattle.oct_text.specs.declared.tokens.Skipped.TheVariants as skipped
use Rattle.oct_text.specs.declared.tokens.Taken.{Taken}
use Rattle.oct_text.specs.declared.tokens.Taken.TheVariants as taken

-- the answer of next, seen without where it lies in memory
abbrev pub front_taken : Taken → Front
front_taken (taken.Token place text) = Whole (record { place = place; text = text.now })
front_taken taken.More = Unknown
front_taken (taken.End place) = Ended place

abbrev pub token_taken : ℕ → List ℕ → Token
token_taken place text = record { place = place; text = text }

-- A token was taken: it is that of the whole text, however the text goes on.
pub record Takes (old : Rest) (token : Token) (new : Rest) : Type 0 where
  pub ended : new.ended ≡ old.ended
  pub shorter : length new.bytes < length old.bytes
  pub end : new.place + length new.bytes ≡ old.place + length old.bytes
  pub again : (more : List ℕ) → MayCome old more → next_token (continued old more) ≡ Some (token, continued new more)

-- Blanks were passed, and more bytes decide what comes.
pub record Waits (old new : Rest) : Type 0 where
  pub left : new ≡ past_blanks old
  pub unended : old.ended ≡ false

-- Blanks were passed, and nothing is left.
pub record IsAtEnd (old : Rest) (place : ℕ) (new : Rest) : Type 0 where
  pub left : new ≡ past_blanks old
  pub ended : old.ended ≡ true
  pub nothing : new.bytes ≡ []
  pub at_end : new.place ≡ place

-- from old, next gives this answer and leaves new
abbrev pub LeftBy : Rest → Taken → Rest → Type 0
LeftBy old (taken.Token place text) new = Takes old (token_taken place text.now) new
LeftBy old taken.More new = Waits old new
LeftBy old (taken.End place) new = IsAtEnd old place new

-- A line was passed: it is that of the whole text, however the text goes on.
pub record Skips (old : Rest) (blank : Bool) (new : Rest) : Type 0 where
  pub ended : new.ended ≡ old.ended
  pub shorter : length new.bytes < length old.bytes
  pub end : new.place + length new.bytes ≡ old.place + length old.bytes
  pub again : (more : List ℕ) → MayCome old more → after_line (continued old more) ≡ continued new more
  pub blanks : (more : List ℕ) → MayCome old more → is_blank_line (old.bytes ++ more) ≡ blank

-- more bytes decide where the line ends
pub record HasNoLine (old new : Rest) : Type 0 where
  pub same : new ≡ old
  pub unended : old.ended ≡ false
  pub no_lf : line_len old.bytes ≡ length old.bytes

pub record HasNothing (old new : Rest) : Type 0 where
  pub same : new ≡ old
  pub ended : old.ended ≡ true
  pub nothing : old.bytes ≡ []

-- from old, skip_line gives this answer and leaves new
abbrev pub SkippedBy : Rest → Skipped → Rest → Type 0
SkippedBy old skipped.Blank new = Skips old true new
SkippedBy old skipped.Text new = Skips old false new
SkippedBy old skipped.More new = HasNoLine old new
SkippedBy old skipped.End new = HasNothing old new
