-- What is printed of a list of numbers.
use Rattle.std.specs.Prelude.{ℕ, List, map}
use Rattle.std.specs.List.{join_with_byte}
use Rattle.std.specs.Fmt.{decimal}

-- the numbers in decimal, with one space between each two
unfoldable pub list_spelling : List ℕ → List ℕ
list_spelling numbers = join_with_byte 32 (map decimal numbers)
