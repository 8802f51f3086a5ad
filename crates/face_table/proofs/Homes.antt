-- faces in a list in ascending order, and others in a map
use Rattle.std.proofs.Common.{◌≡◌, ◌⊎◌, ℕ, zero, suc, ◌+◌, ◌<◌, inl, inr, Bool, true, false, cond, [], ◌∷◌, ◌++◌, length, get_or, set, unwrap_or, Option, Some, None, Result, Ok, Err, OnOk, refl, sym, ap, subst, ◌∙◌, arith}
use Rattle.std.specs.Map.{lookup, keys_of}
use Rattle.std.specs.List.{IsDistinct, AllByRecursion, slice_get}
use Rattle.std.proofs.lemmas.Map.Keys.{IsDistinct-from_apart}
use Rattle.std.proofs.lemmas.List.Sums.{sum_by-append}
use Rattle.std.proofs.lemmas.List.{append-nil}
use Rattle.mesh_base.specs.Mesh.{Face, face_eq}
use Rattle.face_table.specs.Tally.{Counts, tally_in, single_share, single_count}
use Rattle.face_table.specs.Known.{rank_of, IsAscending, AreApart, AreHomes, IsBetween, IsFirstAt}
use Rattle.face_table.proofs.Sums.{face_same, face_eq-refl, face_eq-sym, lookup-insert_entry, insert-tally, insert-share}
use Rattle.face_table.proofs.KnownLemmas.{apart_below, found_here, found_nowhere, found_value, found_set, lookup-known, lookup-past, none_tally, both_tally}

-- homes after a count in the list, and after one in the map
-- a write at a face's place leaves each place its face
same_face : (es : Counts) (f : Face) (i x k : ℕ) (d : Face × ℕ) → i < length es → ((d : Face × ℕ) → face_eq f (get_or es i d).0 ≡ true) → k < length es → (get_or (set es i (f, x)) k d).0 ≡ (get_or es k d).0
same_face [] f i x k d lt h l = absurd (omega arith)
same_face (e ∷ es) f zero x zero d lt h l = face_same f e.0 (h d)
same_face (e ∷ es) f zero x (suc k) d lt h l = refl
same_face (e ∷ es) f (suc i) x zero d lt h l = refl
same_face (e ∷ es) f (suc i) x (suc k) d lt h l = same_face es f i x k d (omega arith) h (omega arith)

len_set : (es : Counts) (i : ℕ) (p : Face × ℕ) → length (set es i p) ≡ length es
len_set [] i p = refl
len_set (e ∷ es) zero p = refl
len_set (e ∷ es) (suc i) p = ap suc (len_set es i p)

pub homes_set : (es fs : Counts) (f : Face) (i x : ℕ) → IsFirstAt es f i → AreHomes es fs → AreHomes (set es i (f, x)) fs
homes_set es fs f i x at h = record {
  ascending = λ j k d e lt l.
      let l2 : k < length es = omega (arith, l, len_set es i (f, x)) in
      let p = ap rank_of (same_face es f i x j d at.within at.here (omega arith)) in
      let q = ap rank_of (same_face es f i x k e at.within at.here l2) in
      omega (arith, p, q, h.ascending j k d e lt l2);
  apart = λ g. by g (face_eq f g) refl (h.apart g);
}
  where
    there : (g : Face) → face_eq f g ≡ true → lookup (face_eq g) es ≡ None → ⊥
    there g q n =
        let v = found_value es f i (f, 0) at in
        let m = subst (λ w. lookup (face_eq w) es ≡ None) (sym (face_same f g q)) n in
        absurd (cc)

    by : (g : Face) (b : Bool) → face_eq f g ≡ b → (lookup (face_eq g) es ≡ None) ⊎ (lookup (face_eq g) fs ≡ None) → (lookup (face_eq g) (set es i (f, x)) ≡ None) ⊎ (lookup (face_eq g) fs ≡ None)
    by g b q (inr n) = inr n
    by g true q (inl n) = absurd (there g q n)
    by g false q (inl n) = inl (ap (λ l. lookup (face_eq g) l) (found_set es f i x at) ∙ lookup-insert_entry es f g x ∙ ap (λ b. cond b (Some x) (lookup (face_eq g) es)) q ∙ n)

pub homes_more : (es fs new : Counts) (f : Face) → lookup (face_eq f) es ≡ None → ((g : Face) → face_eq f g ≡ false → lookup (face_eq g) fs ≡ None → lookup (face_eq g) new ≡ None) → AreHomes es fs → AreHomes es new
homes_more es fs new f none others h = record { ascending = h.ascending; apart = λ g. by g (face_eq f g) refl (h.apart g) }
  where
    by : (g : Face) (b : Bool) → face_eq f g ≡ b → (lookup (face_eq g) es ≡ None) ⊎ (lookup (face_eq g) fs ≡ None) → (lookup (face_eq g) es ≡ None) ⊎ (lookup (face_eq g) new ≡ None)
    by g b q (inl n) = inl n
    by g true q (inr n) = inl (subst (λ w. lookup (face_eq w) es ≡ None) (face_same f g q) none)
    by g false q (inr n) = inr (others g q n)

-- the counts after each of these
pub set_tally : (es fs : Counts) (f g : Face) (i x : ℕ) → IsFirstAt es f i → AreHomes es fs → tally_in (set es i (f, x) ++ fs) g ≡ cond (face_eq f g) x (tally_in (es ++ fs) g)
set_tally es fs f g i x at h = by (face_eq f g) refl
  where
    new : AreHomes (set es i (f, x)) fs
    new = homes_set es fs f i x at h

    less : (g : Face) → face_eq f g ≡ true → tally_in fs g ≡ 0
    less g q = alone (h.apart g)
      where
        alone : (lookup (face_eq g) es ≡ None) ⊎ (lookup (face_eq g) fs ≡ None) → tally_in fs g ≡ 0
        alone (inl n) =
            let v = found_value es f i (f, 0) at in
            let m = subst (λ w. lookup (face_eq w) es ≡ None) (sym (face_same f g q)) n in
            absurd (cc)
        alone (inr n) = none_tally fs g n

    by : (b : Bool) → face_eq f g ≡ b → tally_in (set es i (f, x) ++ fs) g ≡ cond b x (tally_in (es ++ fs) g)
    by true q =
        let t = insert-tally es (set es i (f, x)) f g x (found_set es f i x at) in
        let u = ap (λ b. cond b x (tally_in es g)) q in
        omega (arith, both_tally (set es i (f, x)) fs g new.apart, t, u, less g q)
    by false q =
        let t = insert-tally es (set es i (f, x)) f g x (found_set es f i x at) in
        let u = ap (λ b. cond b x (tally_in es g)) q in
        omega (arith, both_tally (set es i (f, x)) fs g new.apart, both_tally es fs g h.apart, t, u)

pub set_singles : (es fs : Counts) (f : Face) (i x v : ℕ) → IsFirstAt es f i → AreHomes es fs
    → single_count (set es i (f, x) ++ fs) v + single_share v (f, tally_in (es ++ fs) f) ≡ single_count (es ++ fs) v + single_share v (f, x)
set_singles es fs f i x v at h =
    let s = insert-share es (set es i (f, x)) f x v (found_set es f i x at) in
    let w = found_value es f i (f, 0) at in
    let t : tally_in (es ++ fs) f ≡ tally_in es f = ap (λ o. unwrap_or o 0) (lookup-known es fs f _ w ∙ sym w) in
    let u = ap (λ n. single_share v (f, n)) t in
    omega (arith, s, u, sum_by-append (single_share v) (set es i (f, x)) fs, sum_by-append (single_share v) es fs)

pub found_tally : (es fs : Counts) (f : Face) (i : ℕ) (d : Face × ℕ) → IsFirstAt es f i → tally_in (es ++ fs) f ≡ (get_or es i d).1
found_tally es fs f i d at = ap (λ o. unwrap_or o 0) (lookup-known es fs f _ (found_value es f i d at))

pub past_tally : (es fs : Counts) (f : Face) → lookup (face_eq f) es ≡ None → tally_in (es ++ fs) f ≡ tally_in fs f
past_tally es fs f n = ap (λ o. unwrap_or o 0) (lookup-past es fs f n)

pub push_tally : (es fs : Counts) (f g : Face) (x : ℕ) → fs ≡ [] → IsBetween es (length es) (length es) f → AreHomes es fs
    → tally_in ((es ++ (f, x) ∷ []) ++ fs) g ≡ tally_in (es ++ fs) g + cond (face_eq f g) x 0
push_tally es fs f g x none b h = by (lookup (face_eq g) es) refl
  where
    out : lookup (face_eq f) es ≡ None
    out = found_nowhere es f (length es) (length es) (omega arith) b

    all : tally_in ((es ++ (f, x) ∷ []) ++ fs) g ≡ tally_in (es ++ (f, x) ∷ []) g
    all = ap (λ l. tally_in l g) (ap (λ l. (es ++ (f, x) ∷ []) ++ l) none ∙ append-nil (es ++ (f, x) ∷ []))

    old : tally_in (es ++ fs) g ≡ tally_in es g
    old = ap (λ l. tally_in l g) (ap (λ l. es ++ l) none ∙ append-nil es)

    last : (b : Bool) → face_eq g f ≡ b → tally_in ((f, x) ∷ []) g ≡ cond (face_eq f g) x 0
    last b q = ap (λ t. unwrap_or (cond t (Some x) None) 0) q ∙ two b ∙ ap (λ t. cond t x 0) (sym (face_eq-sym f g ∙ q))
      where
        two : (b : Bool) → unwrap_or (cond b (Some x) None) 0 ≡ cond b x 0
        two true = refl
        two false = refl

    by : (o : Option ℕ) → lookup (face_eq g) es ≡ o → tally_in ((es ++ (f, x) ∷ []) ++ fs) g ≡ tally_in (es ++ fs) g + cond (face_eq f g) x 0
    by None e = let p = ap (λ o. unwrap_or o 0) (lookup-past es ((f, x) ∷ []) g e) in omega (arith, all, old, p, none_tally es g e, last (face_eq g f) refl)
    by (Some n) e =
        let p = ap (λ o. unwrap_or o 0) (lookup-known es ((f, x) ∷ []) g n e) in
        let q = ap (λ o. unwrap_or o 0) e in
        let z : cond (face_eq f g) x 0 ≡ 0 = other (face_eq f g) refl in
        omega (arith, all, old, p, q, z)
      where
        other : (b : Bool) → face_eq f g ≡ b → cond b x 0 ≡ 0
        other true r = let m = subst (λ w. lookup (face_eq w) es ≡ None) (face_same f g r) out in absurd (cc)
        other false r = refl

-- the faces of both lists are all different
pub distinct_known : (es : Counts) → IsAscending es → IsDistinct face_eq (keys_of es)
distinct_known es a = IsDistinct-from_apart face_eq (keys_of es) (λ i j d lt l.
    let n = keys_len es in
    let p = keys_get es i d (omega arith) in
    let q = keys_get es j d (omega arith) in
    subst (λ k. face_eq k (get_or (keys_of es) j d) ≡ false) (sym p)
    (subst (λ k. face_eq (get_or es i (d, 0)).0 k ≡ false) (sym q)
    (apart_below (get_or es i (d, 0)).0 (get_or es j (d, 0)).0 (a i j (d, 0) (d, 0) lt (omega arith)))))
  where
    keys_len : (es : Counts) → length (keys_of es) ≡ length es
    keys_len [] = refl
    keys_len (e ∷ es) = ap suc (keys_len es)

    keys_get : (es : Counts) (i : ℕ) (d : Face) → i < length es → get_or (keys_of es) i d ≡ (get_or es i (d, 0)).0
    keys_get [] i d lt = absurd (omega arith)
    keys_get (e ∷ es) zero d lt = refl
    keys_get (e ∷ es) (suc i) d lt = keys_get es i d (omega arith)

all_from_none : (es : Counts) (f : Face) → lookup (face_eq f) es ≡ None → AllByRecursion (λ y. face_eq f y ≡ false) (keys_of es)
all_from_none [] f n = tt
all_from_none (e ∷ es) f n = by (face_eq f e.0) refl n (all_from_none es f)
  where
    by : (b : Bool) → face_eq f e.0 ≡ b → cond b (Some e.1) (lookup (face_eq f) es) ≡ None → (lookup (face_eq f) es ≡ None → AllByRecursion (λ y. face_eq f y ≡ false) (keys_of es)) → AllByRecursion (λ y. face_eq f y ≡ false) (keys_of (e ∷ es))
    by true q n rest = absurd (cc)
    by false q n rest = (q, rest n)

all_append : (f : Face) (es fs : Counts) → AllByRecursion (λ y. face_eq f y ≡ false) (keys_of es) → AllByRecursion (λ y. face_eq f y ≡ false) (keys_of fs) → AllByRecursion (λ y. face_eq f y ≡ false) (keys_of (es ++ fs))
all_append f [] fs a b = b
all_append f (e ∷ es) fs a b = (a.0, all_append f es fs a.1 b)

pub distinct_both : (es fs : Counts) → IsDistinct face_eq (keys_of es) → IsDistinct face_eq (keys_of fs) → ((f : Face) → (lookup (face_eq f) es ≡ None) ⊎ (lookup (face_eq f) fs ≡ None)) → IsDistinct face_eq (keys_of (es ++ fs))
unfolding IsDistinct
distinct_both [] fs d e a = e
distinct_both (p ∷ es) fs d e a = (all_append p.0 es fs d.0 (all_from_none fs p.0 (first (a p.0))), distinct_both es fs d.1 e (λ f. rest f (face_eq f p.0) refl (a f)))
  where
    first : (lookup (face_eq p.0) (p ∷ es) ≡ None) ⊎ (lookup (face_eq p.0) fs ≡ None) → lookup (face_eq p.0) fs ≡ None
    first (inl n) = let t = ap (λ b. cond b (Some p.1) (lookup (face_eq p.0) es)) (face_eq-refl p.0) in absurd (cc)
    first (inr n) = n

    rest : (f : Face) (b : Bool) → face_eq f p.0 ≡ b → (cond b (Some p.1) (lookup (face_eq f) es) ≡ None) ⊎ (lookup (face_eq f) fs ≡ None) → (lookup (face_eq f) es ≡ None) ⊎ (lookup (face_eq f) fs ≡ None)
    rest f b q (inr n) = inr n
    rest f true q (inl n) = absurd (cc)
    rest f false q (inl n) = inl n

-- counts after a change of the others alone
pub more_tally : (es fs new : Counts) (f : Face) → AreHomes es fs → AreHomes es new → tally_in (es ++ new) f + tally_in fs f ≡ tally_in (es ++ fs) f + tally_in new f
more_tally es fs new f h k = omega (arith, both_tally es fs f h.apart, both_tally es new f k.apart)

pub more_singles : (es fs new : Counts) (v : ℕ) → single_count (es ++ new) v + single_count fs v ≡ single_count (es ++ fs) v + single_count new v
more_singles es fs new v = omega (arith, sum_by-append (single_share v) es fs, sum_by-append (single_share v) es new)

-- the count that is read at a face's place
pub read_tally : (es fs : Counts) (f : Face) (i : ℕ) (r : Face × ℕ) → r ≡ get_or es i r → IsFirstAt es f i → tally_in (es ++ fs) f ≡ r.1
read_tally es fs f i r e at = found_tally es fs f i r at ∙ ap (λ p. p.1) (sym e)

pub ok_map : {T E P Q : Type 0} (r : Result T E) → (P → Q) → OnOk r P → OnOk r Q
ok_map (Ok x) g h = g h
ok_map (Err e) g h = h

-- entries of the list, and of the others
same_default : (es : Counts) (i : ℕ) (d e : Face × ℕ) → i < length es → get_or es i d ≡ get_or es i e
same_default [] i d e lt = absurd (omega arith)
same_default (x ∷ es) zero d e lt = refl
same_default (x ∷ es) (suc i) d e lt = same_default es i d e (omega arith)

pub entry_known : (es fs : Counts) (i : ℕ) (r : Face × ℕ) → IsAscending es → i < length es → r ≡ get_or es i r → tally_in (es ++ fs) r.0 ≡ r.1
entry_known es fs i r a lt e =
    read_tally es fs r.0 i r e (found_here es r.0 i a lt (λ d. ap (λ p. p.0) (same_default es i d r lt ∙ sym e)))

pub entry_past : (es fs : Counts) (i j : ℕ) → i ≡ length es + j → slice_get (es ++ fs) i ≡ slice_get fs j
entry_past [] fs i j e = let q : i ≡ j = omega arith in ap (slice_get fs) q
entry_past (e ∷ es) fs zero j h = absurd (omega arith)
entry_past (e ∷ es) fs (suc i) j h = entry_past es fs i j (omega arith)

pub entry_more : (es fs : Counts) (r : Face × ℕ) → AreApart es fs → lookup (face_eq r.0) fs ≡ Some r.1 → tally_in (es ++ fs) r.0 ≡ r.1
entry_more es fs r a h = past_tally es fs r.0 (none (a r.0)) ∙ ap (λ o. unwrap_or o 0) h
  where
    none : (lookup (face_eq r.0) es ≡ None) ⊎ (lookup (face_eq r.0) fs ≡ None) → lookup (face_eq r.0) es ≡ None
    none (inl n) = n
    none (inr n) = absurd (cc)

pub none_there : (fs : Counts) → length fs ≡ 0 → fs ≡ []
none_there [] h = refl
none_there (e ∷ fs) h = absurd (omega arith)
