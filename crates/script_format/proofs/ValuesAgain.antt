-- Printed values are read again, and printed words are words.
use Rattle.std.proofs.Common.{◌≡◌, ℕ, ◌-◌, ◌^◌, ◌<◌, ◌≤◌, Bool, true, cond, List, [], ◌∷◌, length, map, Ok, Err, ℤ, pos, neg_ℤ, refl, ap, arith}
use Rattle.std.specs.Prelude.{◌≤ℤ◌, ◌&&◌, int_le, unsigned_abs, FitsSigned, All}
use Rattle.std.specs.List.{AllByRecursion}
use Rattle.std.specs.Int.{w64}
use Rattle.std.specs.Fmt.{signed_decimal}
use Rattle.std.proofs.lemmas.Int.{ints}
use Rattle.std.proofs.lemmas.List.Elements.{recursion_from_All}
use Rattle.mesh_base.specs.Place.{Place, Area, IsCoordinate, IsPlace, IsArea}
use Rattle.mesh_base.specs.declared.edit.Axis.{Axis}
use Rattle.mesh_base.specs.declared.edit.Axis.TheVariants as axis
use Rattle.oct_text.specs.Rest.{is_word}
use Rattle.oct_text.proofs.Written.{signed_of-decimal, is_word-signed_decimal}
use Rattle.run_script.specs.declared.fault.ScriptKind.TheVariants as kinds
use Rattle.script_format.specs.ScriptText.{Word, valued, signed, number, coordinate, index, place, corners, axis_of, area_of}
use Rattle.script_format.specs.Printed.{number_word, axis_word, AreWords}

-- ---- numbers

-- far within the numbers of the text
abbrev pub IsSmall : ℤ → Type 0
IsSmall z = (neg_ℤ (pos (2 ^ 32)) ≤ℤ z) × (z ≤ℤ pos (2 ^ 32))

fits : (z : ℤ) → IsSmall z → FitsSigned w64 z
fits z s = omega (arith, ints, s.0, s.1)

pub word-signed : (z : ℤ) → IsSmall z → is_word (signed_decimal z) ≡ true
word-signed z s = is_word-signed_decimal z (fits z s)

pub signed-again : (least most z : ℤ) (ws : List Word) → IsSmall z → least ≤ℤ z → z ≤ℤ most → signed least most (signed_decimal z ∷ ws) ≡ Ok (z, ws)
signed-again least most z ws s low high = ap (valued ws (λ z. z)) (signed_of-decimal z least most (fits z s) low high)

small : (n : ℕ) → n < 2 ^ 32 → IsSmall (pos n)
small n lt = (omega (arith, ints), omega (arith, ints))

pub word-number : (n : ℕ) → n < 2 ^ 32 → is_word (number_word n) ≡ true
word-number n lt = word-signed (pos n) (small n lt)

pub number-again : (most n : ℕ) (ws : List Word) → n < 2 ^ 32 → n ≤ most → number most (number_word n ∷ ws) ≡ Ok (n, ws)
number-again most n ws lt le = ap (valued ws unsigned_abs) (signed_of-decimal (pos n) (pos 0) (pos most) (fits (pos n) (small n lt)) (omega (arith, ints)) (omega (arith, ints)))

pub index-again : (n : ℕ) (ws : List Word) → n < 2 ^ 32 → index (number_word n ∷ ws) ≡ Ok (n, ws)
index-again n ws lt = number-again (2 ^ 32 - 1) n ws lt (omega arith)

-- ---- places

near : (z : ℤ) → IsCoordinate z → IsSmall z
near z c = (omega (arith, ints, c.0, c.1), omega (arith, ints, c.0, c.1))

coordinate-again : (z : ℤ) (ws : List Word) → IsCoordinate z → coordinate (signed_decimal z ∷ ws) ≡ Ok (z, ws)
coordinate-again z ws c = signed-again (neg_ℤ (pos (2 ^ 30))) (pos (2 ^ 30)) z ws (near z c) c.0 c.1

pub place-again : (p : Place) (ws : List Word) → IsPlace p → place (signed_decimal p.0 ∷ signed_decimal p.1 ∷ signed_decimal p.2 ∷ ws) ≡ Ok (p, ws)
unfolding place
place-again p ws i =
    let x = coordinate-again p.0 (signed_decimal p.1 ∷ signed_decimal p.2 ∷ ws) i.0 in
    let y = coordinate-again p.1 (signed_decimal p.2 ∷ ws) i.1 in
    let z = coordinate-again p.2 ws i.2 in
    rw (x, y, z) refl

pub place-words : (p : Place) (ws : List Word) → IsPlace p → AreWords ws → AreWords (signed_decimal p.0 ∷ signed_decimal p.1 ∷ signed_decimal p.2 ∷ ws)
place-words p ws i a = (word-signed p.0 (near p.0 i.0), (word-signed p.1 (near p.1 i.1), (word-signed p.2 (near p.2 i.2), a)))

area_by : (area : Area) (a b c : Bool) → a ≡ true → b ≡ true → c ≡ true → (cond (a && (b && c)) (Ok area) (Err kinds.Box)) ≡ Ok area
area_by area a b c e f g = rw (e, f, g) refl

pub area-again : (area : Area) → IsArea area.lo area.hi → area_of area.lo area.hi ≡ Ok area
area-again area i = area_by area (int_le area.lo.0 area.hi.0) (int_le area.lo.1 area.hi.1) (int_le area.lo.2 area.hi.2) (grind (arith, ints, i.0)) (grind (arith, ints, i.1)) (grind (arith, ints, i.2))

-- ---- corners, axes

pub corners-again : (cs : List ℕ) → length cs ≡ 4 → All (λ c. c < 2 ^ 32) cs → corners (map number_word cs) ≡ Ok cs
unfolding corners
corners-again cs e a = by cs e (recursion_from_All (λ c. c < 2 ^ 32) cs a)
  where
    by : (cs : List ℕ) → length cs ≡ 4 → AllByRecursion (λ c. c < 2 ^ 32) cs → corners (map number_word cs) ≡ Ok cs
    by (a ∷ b ∷ c ∷ d ∷ []) e h =
        let p = index-again a (number_word b ∷ number_word c ∷ number_word d ∷ []) h.0 in
        let q = index-again b (number_word c ∷ number_word d ∷ []) (h.1).0 in
        let r = index-again c (number_word d ∷ []) ((h.1).1).0 in
        let s = index-again d [] (((h.1).1).1).0 in
        rw (p, q, r, s) refl
    by [] e h = absurd (omega arith)
    by (a ∷ []) e h = absurd (omega arith)
    by (a ∷ b ∷ []) e h = absurd (omega arith)
    by (a ∷ b ∷ c ∷ []) e h = absurd (omega arith)
    by (a ∷ b ∷ c ∷ d ∷ x ∷ xs) e h = absurd (omega arith)

pub corners-words : (cs : List ℕ) → AllByRecursion (λ c. c < 2 ^ 32) cs → AreWords (map number_word cs)
corners-words [] h = tt
corners-words (c ∷ cs) h = (word-number c h.0, corners-words cs h.1)

pub axis-again : (a : Axis) → axis_of (axis_word a ∷ []) ≡ Ok a
axis-again axis.X = refl
axis-again axis.Y = refl
axis-again axis.Z = refl

pub axis-words : (a : Axis) → is_word (axis_word a) ≡ true
axis-words axis.X = refl
axis-words axis.Y = refl
axis-words axis.Z = refl
