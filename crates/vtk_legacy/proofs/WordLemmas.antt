use Rattle.std.proofs.Common.{◌≡◌, ℕ, suc, ◌≢◌, Bool, true, false, List, [], ◌∷◌, length, ap, refl}
use Rattle.std.specs.Prelude.{◌&&◌, ◌==◌}
use Rattle.std.specs.Char.{to_ascii_lowercase}
use Rattle.vtk_legacy.specs.Words.{word_is}

pub and_false : (b : Bool) → (b && false) ≡ false
and_false true = refl
and_false false = refl

pub word_is-longer : (text word : List ℕ) → length text ≢ length word → word_is text word ≡ false
word_is-longer [] [] ne = absurd (ne refl)
word_is-longer (b ∷ text) (w ∷ word) ne = rw (word_is-longer text word (λ e. ne (ap suc e))) (and_false (to_ascii_lowercase b == w))
word_is-longer [] (w ∷ word) ne = refl
word_is-longer (b ∷ text) [] ne = refl
