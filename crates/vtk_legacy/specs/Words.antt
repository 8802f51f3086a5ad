-- Words that are compared without regard to ASCII case.
use Rattle.std.specs.Prelude.{ℕ, Bool, true, false, ◌&&◌, ◌||◌, ◌==◌, List, [], ◌∷◌, take, codes}
use Rattle.std.specs.Char.{to_ascii_lowercase}

-- the text is the word, which is in lower case
abbrev pub word_is : List ℕ → List ℕ → Bool
word_is [] [] = true
word_is (b ∷ text) (w ∷ word) = (to_ascii_lowercase b == w) && word_is text word
word_is [] (w ∷ word) = false
word_is (b ∷ text) [] = false

-- the words of the types of numbers: VTK's own types are all that begin with vtk
unfoldable pub is_unsigned : List ℕ → Bool
is_unsigned text =
    word_is text (codes "unsigned_char") || word_is text (codes "unsigned_short")
    || word_is text (codes "unsigned_int") || word_is text (codes "unsigned_long")

unfoldable pub is_signed : List ℕ → Bool
is_signed text = word_is text (codes "char") || word_is text (codes "short") || word_is text (codes "int")
    || word_is text (codes "long")

unfoldable pub is_real : List ℕ → Bool
is_real text = word_is text (codes "float") || word_is text (codes "double")

unfoldable pub is_vtk_type : List ℕ → Bool
is_vtk_type text = word_is (take 3 text) (codes "vtk")

abbrev pub is_numeric : List ℕ → Bool
is_numeric text = is_unsigned text || is_signed text || is_real text || is_vtk_type text
