-- Where the lines of a METADATA part end, read off byte by byte.
use Rattle.std.proofs.Common.{◌≡◌, ℕ, ◌+◌, Bool, true, false, List, [], ◌∷◌, ◌++◌, length, refl, sym, ap, ◌∙◌, subst, arith, inl, inr, append_assoc}
use Rattle.std.specs.Prelude.{not, ◌&&◌, if◌then◌else◌}
use Rattle.std.specs.List.{list_all}
use Rattle.std.proofs.lemmas.List.{length-append}
use Rattle.std.proofs.lemmas.List.Elements.{All-nil, All-cons}
use Rattle.std.proofs.lemmas.List.Folds.{list_all-append}
use Rattle.oct_text.specs.Rest.{is_blank, is_lf}
use Rattle.vtk_legacy.specs.MeshText.{blank_line_len}
use Rattle.vtk_legacy.specs.Metadata.{is_one_line, IsFullLine, joined, EndsAtBlankLine}

and_true : (a : Bool) → (a && true) ≡ a
and_true true = refl
and_true false = refl

-- one byte more of a line
one-more : (line : List ℕ) (b : ℕ) → is_one_line line ≡ true → is_lf b ≡ false → is_one_line (line ++ (b ∷ [])) ≡ true
one-more line b one e = list_all-append (λ x. not (is_lf x)) line (b ∷ []) ∙ (rw (one, e) refl)

blank-more : (line : List ℕ) (b : ℕ) (blank : Bool) → list_all is_blank line ≡ blank → list_all is_blank (line ++ (b ∷ [])) ≡ (blank && is_blank b)
blank-more line b blank e = list_all-append is_blank line (b ∷ []) ∙ (ap (λ x. x && (is_blank b && true)) e ∙ ap (λ x. blank && x) (and_true (is_blank b)))

lf-is : (b : ℕ) → is_lf b ≡ true → b ≡ 10
lf-is b e = grind (arith, e)

-- the lines behind the first one, and the first one before them
with-line : (line : List ℕ) (bs : List ℕ) (n : ℕ) → is_one_line line ≡ true → list_all is_blank line ≡ false → EndsAtBlankLine bs n → EndsAtBlankLine (line ++ (10 ∷ bs)) (length line + (1 + n))
with-line line bs n one full rest =
    let first = line ++ (10 ∷ []) in
    record {
      lines = first ∷ rest.lines;
      last = rest.last;
      rest = rest.rest;
      text = ap (λ r. line ++ (10 ∷ r)) rest.text ∙ (sym (append_assoc line (10 ∷ []) (joined rest.lines ++ (rest.last ++ rest.rest))) ∙ sym (append_assoc first (joined rest.lines) (rest.last ++ rest.rest)));
      len = omega (arith, rest.len, length-append first (joined rest.lines), length-append line (10 ∷ []));
      full = All-cons IsFullLine first rest.lines (record { front = line; text = refl; one = one; full = full }) rest.full;
      ends = rest.ends;
    }

ended : (line : List ℕ) → length line + 1 ≡ length (line ++ (10 ∷ []))
ended line = sym (length-append line (10 ∷ []))

-- a line that ends
at-lf : (blank : Bool) (line bs : List ℕ) → is_one_line line ≡ true → list_all is_blank line ≡ blank → EndsAtBlankLine bs (blank_line_len true bs) → EndsAtBlankLine (line ++ (10 ∷ bs)) (length line + (1 + (if blank then 0 else blank_line_len true bs)))
at-lf true line bs one e rest =
    record {
      lines = [];
      last = line ++ (10 ∷ []);
      rest = bs;
      text = sym (append_assoc line (10 ∷ []) bs);
      len = omega (arith, ended line);
      full = All-nil IsFullLine;
      ends = inl (record { front = line; text = refl; one = one; blank = e });
    }
at-lf false line bs one e rest = with-line line bs (blank_line_len true bs) one e rest

moved-to : (a b : List ℕ) (m n : ℕ) → a ≡ b → m ≡ n → EndsAtBlankLine a m → EndsAtBlankLine b n
moved-to a b m n same count ends = subst (λ k. EndsAtBlankLine b k) count (subst (λ l. EndsAtBlankLine l m) same ends)

-- what holds for the bytes behind, whatever the line so far
abbrev Behind : List ℕ → Type 0
Behind bs = (line : List ℕ) (blank : Bool) → is_one_line line ≡ true → list_all is_blank line ≡ blank → EndsAtBlankLine (line ++ bs) (length line + blank_line_len blank bs)

at-byte : (b : ℕ) (bs line : List ℕ) (blank lf : Bool) → Behind bs → is_one_line line ≡ true → list_all is_blank line ≡ blank → is_lf b ≡ lf → EndsAtBlankLine (line ++ (b ∷ bs)) (length line + blank_line_len blank (b ∷ bs))
at-byte b bs line blank true next one e is =
    subst (λ x. EndsAtBlankLine (line ++ (x ∷ bs)) (length line + blank_line_len blank (x ∷ bs))) (sym (lf-is b is)) (at-lf blank line bs one e (moved-to bs bs (0 + blank_line_len true bs) (blank_line_len true bs) refl (omega arith) (next [] true refl refl)))
at-byte b bs line blank false next one e is =
    let n = blank_line_len (blank && is_blank b) bs in
    let count : blank_line_len blank (b ∷ bs) ≡ 1 + n = rw is refl in
    moved-to ((line ++ (b ∷ [])) ++ bs) (line ++ (b ∷ bs)) (length (line ++ (b ∷ [])) + n) (length line + blank_line_len blank (b ∷ bs))
    (append_assoc line (b ∷ []) bs)
    (omega (arith, count, length-append line (b ∷ [])))
    (next (line ++ (b ∷ [])) (blank && is_blank b) (one-more line b one is) (blank-more line b blank e))

-- the line so far is `line`, of which `blank` says whether it has blanks alone
ends-at : (bs : List ℕ) → Behind bs
ends-at [] line blank one e =
    record {
      lines = [];
      last = line;
      rest = [];
      text = refl;
      len = omega arith;
      full = All-nil IsFullLine;
      ends = inr (refl, one);
    }
ends-at (b ∷ bs) line blank one e = at-byte b bs line blank (is_lf b) (ends-at bs) one e refl

pub part-ends : (bytes : List ℕ) → EndsAtBlankLine bytes (blank_line_len true bytes)
part-ends bytes = moved-to bytes bytes (0 + blank_line_len true bytes) (blank_line_len true bytes) refl (omega arith) (ends-at bytes [] true refl refl)
