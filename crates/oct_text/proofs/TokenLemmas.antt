-- A token that is whole stays the same, however the text goes on.
use Rattle.std.proofs.Common.{◌≡◌, ℕ, suc, ◌+◌, ◌-◌, ◌^◌, ◌<◌, ◌≤◌, ◌⊎◌, inl, inr, Bool, true, false, not, eqb, List, [], ◌∷◌, ◌++◌, length, take, drop, Some, refl, sym, ap, subst, ◌∙◌, arith}
use Rattle.std.specs.Prelude.{nat_lt, ◌||◌, ◌&&◌}
use Rattle.std.specs.List.{prefix_len}
use Rattle.std.proofs.lemmas.List.{take-append-le, drop-append-le, drop-drop, append-nil, length-drop, length-append}
use Rattle.std.proofs.lemmas.List.Sums.{prefix_len-le-length}
use Rattle.std.proofs.lemmas.Bool.{ne_eqb, cases_lt}
use Rattle.std.proofs.lemmas.Bool.Decides.{nat_tests}
use Rattle.std.proofs.lemmas.List.Folds.{prefix_len-append}
use Rattle.oct_text.specs.Rest.{is_blank, is_lf, solid_len, Rest, after_blanks, token_at_front, next_token, behind, past_blanks, continued, end_of, Whole, front_of}
use Rattle.oct_text.specs.Kept.{IsKept}
use Rattle.oct_text.specs.Taken.{token_taken, Takes}

pub prefix_stays : (p : ℕ → Bool) (xs ys : List ℕ) → prefix_len p xs < length xs → prefix_len p (xs ++ ys) ≡ prefix_len p xs
prefix_stays p xs ys lt = grind (arith, prefix_len-append)

pub prefix_longer : (p : ℕ → Bool) (xs ys : List ℕ) → prefix_len p xs ≤ prefix_len p (xs ++ ys)
prefix_longer p xs ys = grind (arith, prefix_len-append, prefix_len-le-length p xs)

-- what is known of the bytes stays known when more come
pub IsKept-fed : (kept piece : List ℕ) (len at place solid unbroken : ℕ) → len ≡ length kept → IsKept kept len at place solid unbroken → place + length (drop at kept) + length piece < 2 ^ 64
    → IsKept (kept ++ piece) (len + length piece) at place solid unbroken
IsKept-fed kept piece len at place solid unbroken len-is k room =
    let left : drop at (kept ++ piece) ≡ drop at kept ++ piece = drop-append-le at kept piece (omega (arith, k.inside)) in
    record {
      inside = omega (arith, k.inside);
      room = omega (arith, k.inside, len-is, room, length-drop at kept);
      no_blank = rw left (omega (arith, k.no_blank, prefix_longer (λ b. not (is_blank b)) (drop at kept) piece));
      no_lf = rw left (omega (arith, k.no_lf, prefix_longer (λ b. not (is_lf b)) (drop at kept) piece));
    }

solid_stays : (rest more : List ℕ) (ended : Bool) → (ended ≡ true → more ≡ []) → ((solid_len rest < length rest) ⊎ (ended ≡ true)) → solid_len (rest ++ more) ≡ solid_len rest
solid_stays rest more ended none (inl lt) = prefix_stays (λ b. not (is_blank b)) rest more lt
solid_stays rest more ended none (inr e) = rw (none e, append-nil) refl

abbrev EndsThere : List ℕ → Bool → Type 0
EndsThere rest ended = (solid_len rest < length rest) ⊎ ((ended ≡ true) × (0 < length rest))

some_there : (rest : List ℕ) (ended : Bool) → EndsThere rest ended → 0 < length rest
some_there rest ended (inl lt) = omega arith
some_there rest ended (inr e) = e.1

stays : (rest more : List ℕ) (ended : Bool) → (ended ≡ true → more ≡ []) → EndsThere rest ended → solid_len (rest ++ more) ≡ solid_len rest
stays rest more ended none (inl lt) = solid_stays rest more ended none (inl lt)
stays rest more ended none (inr e) = solid_stays rest more ended none (inr e.0)

-- the token at the front of what is behind the blanks
pub whole_again : (place : ℕ) (bytes more : List ℕ) (ended : Bool) → (ended ≡ true → more ≡ []) → EndsThere (drop (prefix_len is_blank bytes) bytes) ended
    → next_token (record { place = place; bytes = bytes ++ more })
    ≡ Some (
      token_taken (place + prefix_len is_blank bytes) (take (solid_len (drop (prefix_len is_blank bytes) bytes)) (drop (prefix_len is_blank bytes) bytes)),
      record { place = place + prefix_len is_blank bytes + solid_len (drop (prefix_len is_blank bytes) bytes); bytes = drop (solid_len (drop (prefix_len is_blank bytes) bytes)) (drop (prefix_len is_blank bytes) bytes) ++ more },
    )
unfolding token_at_front
whole_again place bytes more ended none ends =
    let n = prefix_len is_blank bytes in
    let rest = drop n bytes in
    let len : length rest ≡ length bytes - n = length-drop n bytes in
    let inside : n < length bytes = omega (arith, some_there rest ended ends) in
    let blanks : prefix_len is_blank (bytes ++ more) ≡ n = prefix_stays is_blank bytes more inside in
    let left : drop n (bytes ++ more) ≡ rest ++ more = drop-append-le n bytes more (omega arith) in
    let solid : solid_len (rest ++ more) ≡ solid_len rest = stays rest more ended none ends in
    let le : solid_len rest ≤ length rest = prefix_len-le-length (λ b. not (is_blank b)) rest in
    let some : eqb (length (rest ++ more)) 0 ≡ false = ne_eqb (length (rest ++ more)) 0 (omega (arith, length-append rest more, some_there rest ended ends)) in
    rw (blanks, left, some, solid, take-append-le (solid_len rest) rest more le, drop-append-le (solid_len rest) rest more le) refl

ends_there : (rest : List ℕ) (ended : Bool) → (nat_lt (solid_len rest) (length rest) || (ended && nat_lt 0 (length rest))) ≡ true → EndsThere rest ended
ends_there rest true h =
    elim (cases_lt (solid_len rest) (length rest)) [ inl lt ↦ inl lt | inr le ↦ inr (refl, grind (arith, nat_tests)) ]
ends_there rest false h =
    elim (cases_lt (solid_len rest) (length rest)) [ inl lt ↦ inl lt | inr le ↦ absurd (grind (arith, nat_tests)) ]

one_more : (n : ℕ) → 1 + n ≡ suc n
one_more n = omega arith

dropped : (p : ℕ → Bool) (b : ℕ) (bs : List ℕ) → p b ≡ true → drop (prefix_len p (b ∷ bs)) (b ∷ bs) ≡ drop (prefix_len p bs) bs
dropped p b bs e = rw (e, one_more (prefix_len p bs)) refl

solid_first : (b : ℕ) (bs : List ℕ) (x : Bool) → is_blank b ≡ x
    → (0 < length (drop (prefix_len is_blank bs) bs) → 0 < solid_len (drop (prefix_len is_blank bs) bs))
    → 0 < length (drop (prefix_len is_blank (b ∷ bs)) (b ∷ bs)) → 0 < solid_len (drop (prefix_len is_blank (b ∷ bs)) (b ∷ bs))
solid_first b bs true e later some =
    let same = dropped is_blank b bs e in
    rw same (later (rw (← same) some))
solid_first b bs false e later some = rw (e, e) (omega arith)

-- behind the blanks there is a token, unless there is nothing
pub solid_there : (bytes : List ℕ) → 0 < length (drop (prefix_len is_blank bytes) bytes) → 0 < solid_len (drop (prefix_len is_blank bytes) bytes)
solid_there [] some = absurd (omega arith)
solid_there (b ∷ bs) some = solid_first b bs (is_blank b) refl (solid_there bs) some

abbrev IsNext : Rest → Rest → List ℕ → Rest → Type 0
IsNext old r text new = Takes old (token_taken r.place text) new × (Whole (token_taken r.place text) ≡ front_of (past_blanks old))

taken_from : (old : Rest) (len : ℕ) (text : List ℕ) (new : Rest) → len ≡ solid_len (past_blanks old).bytes
    → (nat_lt len (length (past_blanks old).bytes) || (old.ended && nat_lt 0 (length (past_blanks old).bytes))) ≡ true
    → text ≡ take len (past_blanks old).bytes → new ≡ behind len (past_blanks old)
    → IsNext old (past_blanks old) text new
taken_from old len text new len-is whole text-is new-is =
    let p = past_blanks old in
    let whole' : (nat_lt (solid_len p.bytes) (length p.bytes) || (old.ended && nat_lt 0 (length p.bytes))) ≡ true = rw (← len-is) whole in
    let ends = ends_there p.bytes old.ended whole' in
    let some : 0 < length p.bytes = some_there p.bytes old.ended ends in (
      record {
        ended = rw new-is refl;
        shorter = rw (new-is, len-is) (omega (arith, solid_there old.bytes some, length-drop (solid_len p.bytes) p.bytes, length-drop (prefix_len is_blank old.bytes) old.bytes));
        end = rw (new-is, len-is) (omega (arith, some, length-drop (solid_len p.bytes) p.bytes, length-drop (prefix_len is_blank old.bytes) old.bytes, prefix_len-le-length is_blank old.bytes, prefix_len-le-length (λ b. not (is_blank b)) p.bytes));
        again = λ more none. rw (new-is, text-is, len-is) (whole_again old.place old.bytes more old.ended none ends);
      },
      rw (whole', text-is, len-is) refl,
    )

pub is_taken : (old r : Rest) (len : ℕ) (text : List ℕ) (new : Rest) → r ≡ past_blanks old → len ≡ solid_len r.bytes
    → (nat_lt len (length r.bytes) || (r.ended && nat_lt 0 (length r.bytes))) ≡ true → text ≡ take len r.bytes → new ≡ behind len r
    → IsNext old r text new
is_taken old r len text new r-is =
    subst (λ (r : Rest). len ≡ solid_len r.bytes → (nat_lt len (length r.bytes) || (r.ended && nat_lt 0 (length r.bytes))) ≡ true → text ≡ take len r.bytes → new ≡ behind len r → IsNext old r text new)
    (sym r-is) (taken_from old len text new)

-- ---- passing blanks changes nothing

pub prefix_len-passed : (p : ℕ → Bool) (xs ys : List ℕ) → prefix_len p (xs ++ ys) ≡ prefix_len p xs + prefix_len p (drop (prefix_len p xs) xs ++ ys)
prefix_len-passed p [] ys = omega arith
prefix_len-passed p (x ∷ xs) ys = by_first (p x) refl (prefix_len-passed p xs ys)
  where
    by_first : (b : Bool) → p x ≡ b → prefix_len p (xs ++ ys) ≡ prefix_len p xs + prefix_len p (drop (prefix_len p xs) xs ++ ys)
        → prefix_len p (x ∷ xs ++ ys) ≡ prefix_len p (x ∷ xs) + prefix_len p (drop (prefix_len p (x ∷ xs)) (x ∷ xs) ++ ys)
    by_first true e later = rw (dropped p x xs e, e, later) (omega arith)
    by_first false e later = simp e refl

pair_is : {m n : ℕ} {xs ys : List ℕ} → m ≡ n → xs ≡ ys → let a : ℕ × List ℕ = (m, xs) in let b : ℕ × List ℕ = (n, ys) in a ≡ b
pair_is e h = cc

-- what is left from the first byte that is not blank
pub after_blanks-past : (r : Rest) (more : List ℕ) → after_blanks (continued (past_blanks r) more) ≡ after_blanks (continued r more)
after_blanks-past r more =
    let n = prefix_len is_blank r.bytes in
    let k = prefix_len is_blank (drop n r.bytes ++ more) in
    let sum : prefix_len is_blank (r.bytes ++ more) ≡ n + k = prefix_len-passed is_blank r.bytes more in
    let le : n ≤ length r.bytes = prefix_len-le-length is_blank r.bytes in
    let bytes : drop k (drop n r.bytes ++ more) ≡ drop (n + k) (r.bytes ++ more) = ap (λ (x : List ℕ). drop k x) (sym (drop-append-le n r.bytes more le)) ∙ drop-drop k n (r.bytes ++ more) in
    let place : r.place + n + k ≡ r.place + (n + k) = omega arith in
    rw sum (ap (λ (x : ℕ × List ℕ). record { place = x.0; bytes = x.1 }) (pair_is place bytes))

pub next_token-past : (r : Rest) (more : List ℕ) → next_token (continued (past_blanks r) more) ≡ next_token (continued r more)
next_token-past r more = ap token_at_front (after_blanks-past r more)

pub end_of-past : (r : Rest) (more : List ℕ) → end_of (continued (past_blanks r) more) ≡ end_of (continued r more)
end_of-past r more =
    omega (arith, length-append r.bytes more, length-append (drop (prefix_len is_blank r.bytes) r.bytes) more, length-drop (prefix_len is_blank r.bytes) r.bytes, prefix_len-le-length is_blank r.bytes)
