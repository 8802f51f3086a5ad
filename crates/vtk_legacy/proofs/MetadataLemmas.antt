-- The lines behind the word METADATA, one after another.
use Rattle.std.proofs.Common.{◌≡◌, ℕ, suc, ◌+◌, Bool, true, false, cond, ltb, List, [], ◌∷◌, length, drop, take, refl, sym, ap, ◌∙◌, arith, inl, inr}
use Rattle.std.specs.Prelude.{◌&&◌}
use Rattle.std.specs.List.{list_all}
use Rattle.std.proofs.lemmas.Bool.{cases_lt, lt-ltb, le-ltb}
use Rattle.std.proofs.lemmas.List.{drop-drop, drop_all}
use Rattle.oct_text.specs.Rest.{Left, Rest, continued, beyond, is_blank, is_lf, line_len, after_line, is_blank_line}
use Rattle.oct_text.specs.Taken.{Skips}
use Rattle.vtk_legacy.specs.declared.stage.Section.{Section}
use Rattle.vtk_legacy.specs.declared.stage.Stage.TheVariants as stage
use Rattle.vtk_legacy.specs.MeshText.{blank_line_len, after_blank_line}
use Rattle.vtk_legacy.specs.Kept.{Parts}
use Rattle.vtk_legacy.specs.Machine.{goes_on, in_between, Keeps}

-- the line in front ends here, and the rest follows
abbrev to_blank : Bool → List ℕ → ℕ
to_blank blank bytes = cond (ltb (line_len bytes) (length bytes)) (line_len bytes + 1 + cond (blank && list_all is_blank (take (line_len bytes) bytes)) 0 (blank_line_len true (drop (line_len bytes + 1) bytes))) (length bytes)

and_assoc : (a b c : Bool) → ((a && b) && c) ≡ (a && (b && c))
and_assoc true b c = refl
and_assoc false b c = refl

and_true : (a : Bool) → (a && true) ≡ a
and_true true = refl
and_true false = refl

one_more : (n : ℕ) → 1 + n ≡ suc n
one_more n = omega arith

add_one : (n : ℕ) → n + 1 ≡ suc n
add_one n = omega arith

within_more : (b : ℕ) (bs : List ℕ) (blank : Bool) → is_lf b ≡ false → to_blank (blank && is_blank b) bs + 1 ≡ to_blank blank (b ∷ bs)
within_more b bs blank e =
    let n = line_len bs in
    let head : line_len (b ∷ bs) ≡ suc n = rw e (one_more n) in
    elim (cases_lt n (length bs)) [
      | inl lt ↦
          let t : ltb n (length bs) ≡ true = lt-ltb n (length bs) lt in
          let t2 : ltb (suc n) (length (b ∷ bs)) ≡ true = lt-ltb (suc n) (suc (length bs)) (omega arith) in
          rw (t, head, t2, add_one (suc n), add_one n, and_assoc blank (is_blank b) (list_all is_blank (take n bs))) (omega arith)
      | inr le ↦
          let t : ltb n (length bs) ≡ false = le-ltb n (length bs) le in
          let t2 : ltb (suc n) (length (b ∷ bs)) ≡ false = le-ltb (suc n) (suc (length bs)) (omega arith) in
          rw (t, head, t2) (omega arith)
    ]

by_lf : (x : Bool) (b : ℕ) (bs : List ℕ) (blank : Bool) → is_lf b ≡ x → blank_line_len (blank && is_blank b) bs ≡ to_blank (blank && is_blank b) bs → blank_line_len blank (b ∷ bs) ≡ to_blank blank (b ∷ bs)
by_lf true b bs blank e later =
    let t : ltb 0 (suc (length bs)) ≡ true = lt-ltb 0 (suc (length bs)) (omega arith) in
    rw (e, t, and_true blank) refl
by_lf false b bs blank e later =
    let step : blank_line_len blank (b ∷ bs) ≡ 1 + blank_line_len (blank && is_blank b) bs = rw e refl in
    omega (arith, step, later, within_more b bs blank e)

pub blank_line_len-line : (blank : Bool) (bytes : List ℕ) → blank_line_len blank bytes ≡ to_blank blank bytes
blank_line_len-line blank [] = refl
blank_line_len-line blank (b ∷ bs) = by_lf (is_lf b) b bs blank refl (blank_line_len-line (blank && is_blank b) bs)

left_is : {m n : ℕ} {xs ys : List ℕ} → m ≡ n → xs ≡ ys → let a : Left = record { place = m; bytes = xs } in let b : Left = record { place = n; bytes = ys } in a ≡ b
left_is e h = cc

beyond-beyond : (m k n : ℕ) (l : Left) → n ≡ m + k → beyond n l ≡ beyond k (beyond m l)
beyond-beyond m k n l e = left_is (omega (arith, e)) (ap (λ (x : ℕ). drop x l.bytes) e ∙ sym (drop-drop k m l.bytes))

after_blank-blank : (l : Left) → is_blank_line l.bytes ≡ true → after_blank_line l ≡ after_line l
after_blank-blank l blank =
    let len = blank_line_len-line true l.bytes in
    elim (cases_lt (line_len l.bytes) (length l.bytes)) [
      | inl lt ↦
          let t : ltb (line_len l.bytes) (length l.bytes) ≡ true = lt-ltb (line_len l.bytes) (length l.bytes) lt in
          let n : blank_line_len true l.bytes ≡ line_len l.bytes + 1 = len ∙ rw (t, blank) (omega arith) in
          rw (n, t) refl
      | inr le ↦
          let t : ltb (line_len l.bytes) (length l.bytes) ≡ false = le-ltb (line_len l.bytes) (length l.bytes) le in
          let n : blank_line_len true l.bytes ≡ length l.bytes = len ∙ rw t refl in
          rw (n, t) refl
    ]

after_blank-text : (l : Left) → is_blank_line l.bytes ≡ false → after_blank_line l ≡ after_blank_line (after_line l)
after_blank-text l text =
    let len = blank_line_len-line true l.bytes in
    elim (cases_lt (line_len l.bytes) (length l.bytes)) [
      | inl lt ↦
          let t : ltb (line_len l.bytes) (length l.bytes) ≡ true = lt-ltb (line_len l.bytes) (length l.bytes) lt in
          let n : blank_line_len true l.bytes ≡ line_len l.bytes + 1 + blank_line_len true (drop (line_len l.bytes + 1) l.bytes) = len ∙ rw (t, text) refl in
          rw t (beyond-beyond (line_len l.bytes + 1) (blank_line_len true (drop (line_len l.bytes + 1) l.bytes)) (blank_line_len true l.bytes) l n)
      | inr le ↦
          let t : ltb (line_len l.bytes) (length l.bytes) ≡ false = le-ltb (line_len l.bytes) (length l.bytes) le in
          let none : drop (length l.bytes) l.bytes ≡ [] = drop_all (length l.bytes) l.bytes (omega arith) in
          let n : blank_line_len true l.bytes ≡ length l.bytes = len ∙ rw t refl in
          let zero_len : blank_line_len true (drop (length l.bytes) l.bytes) ≡ 0 = ap (λ (x : List ℕ). blank_line_len true x) none in
          rw t (beyond-beyond (length l.bytes) (blank_line_len true (drop (length l.bytes) l.bytes)) (blank_line_len true l.bytes) l (omega (arith, n, zero_len)))
    ]

-- ---- the answers of skip_line

pub skipped_first : (s : Section) (got : Parts) (r r' : Rest) (blank : Bool) → Skips r blank r' → Keeps (stage.MetadataLine s) got r (stage.MetadataLines s) got r'
unfolding goes_on
skipped_first s got r r' blank h more may = ap (λ (l : Left). in_between s got (after_blank_line l)) (h.again more may)

pub skipped_text : (s : Section) (got : Parts) (r r' : Rest) → Skips r false r' → Keeps (stage.MetadataLines s) got r (stage.MetadataLines s) got r'
unfolding goes_on
skipped_text s got r r' h more may =
    ap (in_between s got) (after_blank-text (continued r more) (h.blanks more may)) ∙ ap (λ (l : Left). in_between s got (after_blank_line l)) (h.again more may)

pub skipped_blank : (s : Section) (got : Parts) (r r' : Rest) → Skips r true r' → Keeps (stage.MetadataLines s) got r (stage.Between s) got r'
unfolding goes_on
skipped_blank s got r r' h more may =
    ap (in_between s got) (after_blank-blank (continued r more) (h.blanks more may) ∙ h.again more may)
