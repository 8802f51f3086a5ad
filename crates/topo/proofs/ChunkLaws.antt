-- lemmas on lists in chunks
use Rattle.std.proofs.Common.{◌≡◌, ℕ, zero, suc, ◌+◌, ◌*◌, ◌-◌, ◌/◌, ◌%◌, ◌<◌, ◌≤◌, min, List, [], ◌∷◌, ◌++◌, length, get_or, take, drop, flat_map, IfSome, refl, sym, ap, subst, ◌∙◌, arith, length-append}
use Rattle.std.proofs.Math.Seq.{take-add, drop-nil}
use Rattle.std.proofs.lemmas.List.{get_or_default, take_all, take_min, drop_all, length-take, length-drop, get_or-take, get_or-drop, take-append-le, drop-append-le}
use Rattle.std.proofs.lemmas.Option.{slice_get-get_or}
use Rattle.std.proofs.lemmas.Grind.{flat_map-append}
use Rattle.topo.specs.Chunks.{chunk_of, full_chunks, behind_full, Each, AreFront, AreChunks}

-- what holds of each entry
pub each-push : {C : Type 0} (P : ℕ → C → Type 0) (cs : List C) (c : C) → Each P cs → P (length cs) c → Each P (cs ++ c ∷ [])
each-push P [] c h p zero = p
each-push P [] c h p (suc k) = tt
each-push P (x ∷ cs) c h p zero = h zero
each-push P (x ∷ cs) c h p (suc k) = each-push (λ j. P (suc j)) cs c (λ j. h (suc j)) p k

pub each-take : {C : Type 0} (P : ℕ → C → Type 0) (n : ℕ) (cs : List C) → Each P cs → Each P (take n cs)
each-take P zero cs h k = tt
each-take P (suc n) [] h k = tt
each-take P (suc n) (x ∷ cs) h zero = h zero
each-take P (suc n) (x ∷ cs) h (suc k) = each-take (λ j. P (suc j)) n cs (λ j. h (suc j)) k

pub each-at : {C : Type 0} (P : ℕ → C → Type 0) (cs : List C) (k : ℕ) (c : C) → k < length cs → c ≡ get_or cs k c → Each P cs → P k c
each-at P cs k c lt e h = subst (P k) (sym e) (subst (λ o. IfSome o (P k)) (slice_get-get_or cs k c lt) (h k))

-- one chunk more in front
pub front-push : {A C : Type 0} (entries : C → List A) (xs : List A) (cs : List C) (c : C) → AreFront entries xs cs → entries c ≡ chunk_of xs (length cs) → AreFront entries xs (cs ++ c ∷ [])
front-push entries xs cs c h e =
    let n : 4096 * length (cs ++ c ∷ []) ≡ 4096 * length cs + 4096 = omega (arith, length-append cs (c ∷ [])) in
    let one : flat_map entries (c ∷ []) ≡ chunk_of xs (length cs) = append_nil (entries c) ∙ e in
    record {
      joined = flat_map-append entries cs (c ∷ []) ∙ ap (λ l. l ++ flat_map entries (c ∷ [])) h.joined ∙ ap (λ l. take (4096 * length cs) xs ++ l) one
          ∙ sym (take-add (4096 * length cs) 4096 xs) ∙ ap (λ k. take k xs) (sym n);
      each = each-push (λ k d. entries d ≡ chunk_of xs k) cs c h.each e;
    }
  where
    append_nil : {A : Type 0} (l : List A) → l ++ [] ≡ l
    append_nil [] = refl
    append_nil (x ∷ l) = ap (λ r. x ∷ r) (append_nil l)

-- the chunks together are the list
pub chunks-joined : {A C : Type 0} (entries : C → List A) (xs : List A) (cs : List C) → AreChunks entries xs cs → flat_map entries cs ≡ xs
chunks-joined entries xs cs h = h.front.joined ∙ take_all (4096 * length cs) xs h.all

-- how long a chunk is, and its entries
pub length-chunk : {A : Type 0} (xs : List A) (k j : ℕ) → j < 4096 → 4096 * k + j < length xs → j < length (chunk_of xs k)
length-chunk xs k j lt h = omega (arith, length-take 4096 (drop (4096 * k) xs), length-drop (4096 * k) xs)

pub get_or-chunk : {A : Type 0} (xs : List A) (k j : ℕ) (d : A) → j < 4096 → get_or (chunk_of xs k) j d ≡ get_or xs (4096 * k + j) d
get_or-chunk xs k j d lt = get_or-take 4096 (drop (4096 * k) xs) j d lt ∙ get_or-drop (4096 * k) xs j d

-- a part that reaches to the end of the chunk or of the list is the chunk
pub part-chunk : {A : Type 0} (xs : List A) (k s m : ℕ) → s ≡ 4096 * k → m ≡ min 4096 (length xs - s) → take m (drop s xs) ≡ chunk_of xs k
part-chunk xs k s m e f = ap (λ i. take i (drop s xs)) (f ∙ ap (min 4096) (sym (length-drop s xs))) ∙ take_min 4096 (drop s xs) ∙ ap (λ i. take 4096 (drop i xs)) e

-- entry v of a list is in chunk v / 4096, at v % 4096
module _ {A : Type 0} (xs : List A) (v : ℕ) (within : v < length xs) where
  pub chunk-holding : {C : Type 0} (entries : C → List A) (cs : List C) (c : C) → AreChunks entries xs cs → c ≡ get_or cs (v / 4096) c → entries c ≡ chunk_of xs (v / 4096)
  chunk-holding entries cs c h e = each-at (λ k d. entries d ≡ chunk_of xs k) cs (v / 4096) c (omega (arith, within, h.all)) e h.front.each

  module _ (part : List A) (is : part ≡ chunk_of xs (v / 4096)) where
    pub within-chunk : v % 4096 < length part
    within-chunk = omega (arith, ap length is, length-chunk xs (v / 4096) (v % 4096) (omega arith) (omega (arith, within)))

    pub entry-chunk : (r d : A) → r ≡ get_or part (v % 4096) r → r ≡ get_or xs v d
    entry-chunk r d e =
        let at : 4096 * (v / 4096) + v % 4096 ≡ v = omega arith in
        e ∙ ap (λ l. get_or l (v % 4096) r) is ∙ get_or-chunk xs (v / 4096) (v % 4096) r (omega arith) ∙ ap (λ k. get_or xs k r) at ∙ get_or_default xs v r d within

-- what stands behind the full chunks, which is less than a chunk
pub behind-chunk : {A C : Type 0} (entries : C → List A) (xs : List A) (cs : List C) (c : C) → full_chunks xs < length cs → c ≡ get_or cs (full_chunks xs) c → AreChunks entries xs cs → entries c ≡ behind_full xs
behind-chunk entries xs cs c lt e h = each-at (λ k d. entries d ≡ chunk_of xs k) cs (full_chunks xs) c lt e h.front.each
    ∙ take_all 4096 (behind_full xs) (omega (arith, length-drop (4096 * full_chunks xs) xs))

pub behind-none : {A : Type 0} (xs : List A) (n : ℕ) → length xs ≤ 4096 * n → n ≤ full_chunks xs → behind_full xs ≡ []
behind-none xs n all le = drop_all (4096 * full_chunks xs) xs (omega (arith, all, le))

-- the chunks of a list with another behind it: the full ones of the first, and then those of what stands behind these
pub chunk-longer : {A : Type 0} (xs ys : List A) (k : ℕ) → k < full_chunks xs → chunk_of (xs ++ ys) k ≡ chunk_of xs k
chunk-longer xs ys k lt =
    ap (take 4096) (drop-append-le (4096 * k) xs ys (omega (arith, lt)))
    ∙ take-append-le 4096 (drop (4096 * k) xs) ys (omega (arith, lt, length-drop (4096 * k) xs))

pub chunk-behind : {A : Type 0} (xs ys rest : List A) (k : ℕ) → rest ≡ behind_full xs ++ ys → chunk_of rest k ≡ chunk_of (xs ++ ys) (full_chunks xs + k)
chunk-behind xs ys rest k e =
    let n = 4096 * full_chunks xs in
    let at : 4096 * (full_chunks xs + k) ≡ n + 4096 * k = omega arith in
    ap (λ l. chunk_of l k) (e ∙ sym (drop-append-le n xs ys (omega arith)))
    ∙ ap (take 4096) (sym (drop-sum n (4096 * k) (xs ++ ys)) ∙ ap (λ i. drop i (xs ++ ys)) (sym at))
  where
    drop-sum : {A : Type 0} (a b : ℕ) (l : List A) → drop (a + b) l ≡ drop b (drop a l)
    drop-sum zero b l = ap (λ n. drop n l) (omega arith)
    drop-sum (suc a) b [] = drop-nil (suc a + b) ∙ sym (drop-nil b)
    drop-sum (suc a) b (x ∷ l) =
        let n : suc a + b ≡ suc (a + b) = omega arith in
        ap (λ n. drop n (x ∷ l)) n ∙ drop-sum a b l
