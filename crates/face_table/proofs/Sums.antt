-- what a change of one entry does to a sum over the entries
use Rattle.std.proofs.Common.{◌≡◌, ℕ, ◌+◌, ◌<◌, ◌≤◌, ◌≢◌, Bool, true, false, cond, eqb, ◌&&◌, List, [], ◌∷◌, length, take, get_or, slice_get, sum_by, position, zero, suc, Result, Ok, Err, IsOk, OnOk, Option, Some, None, unwrap_or, IfSome, not, refl, sym, ap, subst, ◌∙◌, arith}
use Rattle.std.specs.Option.{option_map_or}
use Rattle.std.specs.Map.{lookup, lookup_key, keys_of, values_of}
use Rattle.std.specs.List.{swap_remove, position_or_len}
use Rattle.indexmap.proofs.MapLemmas.{Found-position, insert_entry-first}
use Rattle.std.proofs.lemmas.Bool.{false≢true}
use Rattle.std.proofs.lemmas.Bool.Decides.{nat_tests}
use Rattle.std.proofs.lemmas.List.Sums.{sum_by-cons, sum_by-swap_remove, sum_by_more, count_by-le-length}
use Rattle.indexmap.specs.IndexMap.{IndexMap, Updates, insert_entry, set_value_at}
use Rattle.mesh_base.specs.Mesh.{Face, Corners, is_on, has_corner, face_of, faces}
use Rattle.face_table.specs.Tally.{Counts, tally_in, single_share, single_count}
use Rattle.mesh_base.specs.Mesh.{face_eq}

and_left : (a b : Bool) → (a && b) ≡ true → a ≡ true
and_left true b h = refl
and_left false b h = h

and_right : (a b : Bool) → (a && b) ≡ true → b ≡ true
and_right true b h = h
and_right false b h = absurd (false≢true h)

eq_same : (a b : ℕ) → eqb a b ≡ true → a ≡ b
eq_same a b h = grind (arith, nat_tests)

pub face_same : (a b : Face) → face_eq a b ≡ true → a ≡ b
face_same a b h =
    let r = and_right (eqb a.0 b.0) (eqb a.1 b.1 && eqb a.2 b.2) h in
    let p = eq_same a.0 b.0 (and_left (eqb a.0 b.0) (eqb a.1 b.1 && eqb a.2 b.2) h) in
    let q = eq_same a.1 b.1 (and_left (eqb a.1 b.1) (eqb a.2 b.2) r) in
    let s = eq_same a.2 b.2 (and_right (eqb a.1 b.1) (eqb a.2 b.2) r) in
    λ i. (p i, q i, s i)

pub face_eq-refl : (f : Face) → face_eq f f ≡ true
face_eq-refl f = grind (arith, nat_tests)

-- an insert gives the face its new value, and leaves the rest
pub sum_by-insert_entry : (g : Face × ℕ → ℕ) (es : Counts) (k : Face) (w : ℕ)
    → sum_by g (insert_entry face_eq es k w) + option_map_or (λ n. g (k, n)) (lookup (face_eq k) es) 0 ≡ sum_by g es + g (k, w)
sum_by-insert_entry g [] k w = omega arith
sum_by-insert_entry g (e ∷ es) k w = by (face_eq k e.0) refl (sum_by-insert_entry g es k w)
  where
    by : (b : Bool) → face_eq k e.0 ≡ b
        → sum_by g (insert_entry face_eq es k w) + option_map_or (λ n. g (k, n)) (lookup (face_eq k) es) 0 ≡ sum_by g es + g (k, w)
        → sum_by g (cond b ((e.0, w) ∷ es) (e ∷ insert_entry face_eq es k w)) + option_map_or (λ n. g (k, n)) (cond b (Some e.1) (lookup (face_eq k) es)) 0 ≡ sum_by g (e ∷ es) + g (k, w)
    by true q rest =
        let p = face_same k e.0 q in
        let a = ap (λ f. g (f, w)) p in
        let b = ap (λ f. g (f, e.1)) p in
        omega (arith, sum_by-cons g (e.0, w) es, sum_by-cons g e es)
    by false q rest = omega (arith, sum_by-cons g e (insert_entry face_eq es k w), sum_by-cons g e es)

-- the key that a look-up finds is the face
pub found_key : (k f : Face) (es : Counts) → lookup_key (face_eq k) es ≡ Some f → f ≡ k
found_key k f [] h = absurd (cc)
found_key k f (e ∷ es) h = by (face_eq k e.0) refl (found_key k f es) h
  where
    by : (b : Bool) → face_eq k e.0 ≡ b → (lookup_key (face_eq k) es ≡ Some f → f ≡ k) → cond b (Some e.0) (lookup_key (face_eq k) es) ≡ Some f → f ≡ k
    by true q rest h = let p : f ≡ e.0 = cc in p ∙ sym (face_same k e.0 q)
    by false q rest h = rest h

key_at : (es : Counts) (i : ℕ) (d : Face × ℕ) → i < length es → slice_get (keys_of es) i ≡ Some (get_or es i d).0
key_at [] i d lt = absurd (omega arith)
key_at (e ∷ es) zero d lt = refl
key_at (e ∷ es) (suc i) d lt = key_at es i d (omega arith)

value_at : (es : Counts) (i : ℕ) (d : Face × ℕ) → i < length es → slice_get (values_of es) i ≡ Some (get_or es i d).1
value_at [] i d lt = absurd (omega arith)
value_at (e ∷ es) zero d lt = refl
value_at (e ∷ es) (suc i) d lt = value_at es i d (omega arith)

pub unwrap_or-cond : (b : Bool) (w : ℕ) (o : Option ℕ) → unwrap_or (cond b (Some w) o) 0 ≡ cond b w (unwrap_or o 0)
unwrap_or-cond true w o = refl
unwrap_or-cond false w o = refl

pub unwrap_or-cond_none : (b : Bool) (o : Option ℕ) → unwrap_or (cond b None o) 0 ≡ cond b 0 (unwrap_or o 0)
unwrap_or-cond_none true o = refl
unwrap_or-cond_none false o = refl

none_there : (es : Counts) (i : ℕ) → i < length es → None ≡ slice_get es i → ⊥
none_there [] i lt h = absurd (omega arith)
none_there (e ∷ es) zero lt h = absurd (cc)
none_there (e ∷ es) (suc i) lt h = none_there es i (omega arith) h

got : (es : Counts) (i : ℕ) (p : Face × ℕ) → Some p ≡ slice_get es i → get_or es i p ≡ p
got [] i p h = absurd (cc)
got (e ∷ es) zero p h = cc
got (e ∷ es) (suc i) p h = got es i p h

-- what stands at the place of a face
pub found_at : (es : Counts) (k : Face) (i : ℕ) (p : Face × ℕ) → position (face_eq k) (keys_of es) ≡ Some i → Some p ≡ slice_get es i → (get_or es i p ≡ p) × (p.0 ≡ k) × (lookup (face_eq k) es ≡ Some p.1) × (i < length es)
found_at es k i p at h =
    let f = Found-position (face_eq k) es i at in
    let q = got es i p h in
    (q, found_key k p.0 es (f.key ∙ key_at es i p f.within ∙ ap (λ e. Some e.0) q), f.value ∙ value_at es i p f.within ∙ ap (λ e. Some e.1) q, f.within)

-- a removal leaves the rest
pub removed-share : (es new : Counts) (k : Face) (i : ℕ) (n v : ℕ) (r : Option (Face × ℕ)) → position (face_eq k) (keys_of es) ≡ Some i → tally_in es k ≡ n → r ≡ slice_get es i
    → IfSome r (λ p. new ≡ swap_remove es i p) → i < length es → single_count new v + single_share v (k, n) ≡ single_count es v
removed-share es new k i n v None at t h e lt = absurd (none_there es i lt h)
removed-share es new k i n v (Some p) at t h e lt =
    let f = found_at es k i p at h in
    let value : p.1 ≡ n = ap (λ o. unwrap_or o 0) (sym f.2) ∙ t in
    let same : single_share v (get_or es i p) ≡ single_share v (k, n) = ap (single_share v) f.0 ∙ (λ j. single_share v (f.1 j, value j)) in
    let c = ap (λ l. single_count l v) e in
    omega (arith, sum_by-swap_remove (single_share v) es i p lt)

pub removed-tally : {S : Type 0} (m new : IndexMap Face ℕ S) (k f : Face) (i : ℕ) (r : Option (Face × ℕ)) → position (face_eq k) (keys_of m.entries) ≡ Some i → r ≡ slice_get m.entries i
    → IfSome r (λ p. Updates face_eq m new p.0 None) → i < length m.entries → tally_in new.entries f ≡ cond (face_eq k f) 0 (tally_in m.entries f)
removed-tally m new k f i None at h e lt = absurd (none_there m.entries i lt h)
removed-tally m new k f i (Some p) at h e lt =
    ap (λ o. unwrap_or o 0) (e.0 f) ∙ unwrap_or-cond_none (face_eq p.0 f) (lookup (face_eq f) m.entries) ∙ ap (λ g. cond (face_eq g f) 0 (tally_in m.entries f)) (found_at m.entries k i p at h).1

-- the count at a face's place
pub counted_at : (es : Counts) (k : Face) (i n : ℕ) → position (face_eq k) (keys_of es) ≡ Some i → slice_get (values_of es) i ≡ Some n → tally_in es k ≡ n
counted_at es k i n at h = ap (λ o. unwrap_or o 0) ((Found-position (face_eq k) es i at).value ∙ h)

pub place_within : (es : Counts) (k : Face) (i : ℕ) → position (face_eq k) (keys_of es) ≡ Some i → i < length es
place_within es k i at = (Found-position (face_eq k) es i at).within

-- the first entries and one more
pub share_more : (es : Counts) (i v : ℕ) (r : Option (Face × ℕ)) (p : Face × ℕ) → i < length es → r ≡ slice_get es i → r ≡ Some p
    → single_count (take (i + 1) es) v ≡ single_count (take i es) v + single_share v p
share_more es i v r p lt h e = sum_by_more (single_share v) es i p lt ∙ ap (λ q. single_count (take i es) v + single_share v q) (got es i p (sym e ∙ h))

-- a write at the place of a face is an insert
pub face_eq-sym : (a b : Face) → face_eq a b ≡ face_eq b a
face_eq-sym a b = grind (arith, nat_tests)

pub set-insert : (es : Counts) (k : Face) (w x : ℕ) → set_value_at (insert_entry face_eq es k w) (position_or_len (face_eq k) (keys_of es)) x ≡ insert_entry face_eq es k x
set-insert [] k w x = refl
set-insert (e ∷ es) k w x = by (face_eq k e.0) (set-insert es k w x)
  where
    by : (b : Bool) → set_value_at (insert_entry face_eq es k w) (position_or_len (face_eq k) (keys_of es)) x ≡ insert_entry face_eq es k x
        → set_value_at (cond b ((e.0, w) ∷ es) (e ∷ insert_entry face_eq es k w)) (cond (not b) (1 + position_or_len (face_eq k) (keys_of es)) 0) x ≡ cond b ((e.0, x) ∷ es) (e ∷ insert_entry face_eq es k x)
    by true rest = refl
    by false rest =
        let q = position_or_len (face_eq k) (keys_of es) in
        let after : 1 + q ≡ suc q = omega arith in
        ap (λ j. set_value_at (e ∷ insert_entry face_eq es k w) j x) after ∙ ap (λ l. e ∷ l) rest

pub lookup-insert_entry : (es : Counts) (k f : Face) (x : ℕ) → lookup (face_eq f) (insert_entry face_eq es k x) ≡ cond (face_eq k f) (Some x) (lookup (face_eq f) es)
lookup-insert_entry [] k f x = ap (λ b. cond b (Some x) None) (face_eq-sym f k)
lookup-insert_entry (e ∷ es) k f x = by (face_eq k e.0) refl (lookup-insert_entry es k f x)
  where
    apart : (b c : Bool) → face_eq f e.0 ≡ b → face_eq k f ≡ c → face_eq k e.0 ≡ false → cond b (Some e.1) (cond c (Some x) (lookup (face_eq f) es)) ≡ cond c (Some x) (cond b (Some e.1) (lookup (face_eq f) es))
    apart true true p q r = absurd (false≢true (sym r ∙ subst (λ g. face_eq k g ≡ true) (face_same f e.0 p) q))
    apart true false p q r = refl
    apart false c p q r = refl

    by : (b : Bool) → face_eq k e.0 ≡ b → lookup (face_eq f) (insert_entry face_eq es k x) ≡ cond (face_eq k f) (Some x) (lookup (face_eq f) es)
        → lookup (face_eq f) (cond b ((e.0, x) ∷ es) (e ∷ insert_entry face_eq es k x)) ≡ cond (face_eq k f) (Some x) (cond (face_eq f e.0) (Some e.1) (lookup (face_eq f) es))
    by true q rest = here (face_eq f e.0) (face_eq k f) (face_eq-sym f e.0 ∙ ap (λ g. face_eq g f) (sym (face_same k e.0 q)))
      where
        here : (b c : Bool) → b ≡ c → cond b (Some x) (lookup (face_eq f) es) ≡ cond c (Some x) (cond b (Some e.1) (lookup (face_eq f) es))
        here true true h = refl
        here false false h = refl
        here true false h = absurd (cc)
        here false true h = absurd (cc)
    by false q rest = ap (λ o. cond (face_eq f e.0) (Some e.1) o) rest ∙ apart (face_eq f e.0) (face_eq k f) refl refl q

-- what an `Ok` gives
pub on_ok : {T E P : Type 0} (r : Result T E) → IsOk r → OnOk r P → P
on_ok (Ok x) i h = h
on_ok (Err e) i h = absurd (false≢true i)

pub single_count-le : (es : Counts) (v : ℕ) → single_count es v ≤ length es
single_count-le es v = count_by-le-length (λ e. eqb e.1 1 && is_on e.0 v) es

-- the share of what is counted of a face
pub share_of : (v : ℕ) (k : Face) (es : Counts) → option_map_or (λ n. single_share v (k, n)) (lookup (face_eq k) es) 0 ≡ single_share v (k, tally_in es k)
share_of v k es = by (lookup (face_eq k) es)
  where
    by : (o : Option ℕ) → option_map_or (λ n. single_share v (k, n)) o 0 ≡ single_share v (k, unwrap_or o 0)
    by None = refl
    by (Some n) = refl

-- the counts after an insert
pub insert-tally : (es new : Counts) (k f : Face) (x : ℕ) → new ≡ insert_entry face_eq es k x → tally_in new f ≡ cond (face_eq k f) x (tally_in es f)
insert-tally es new k f x e = ap (λ l. tally_in l f) e ∙ ap (λ o. unwrap_or o 0) (lookup-insert_entry es k f x) ∙ unwrap_or-cond (face_eq k f) x (lookup (face_eq f) es)

pub insert-share : (es new : Counts) (k : Face) (x v : ℕ) → new ≡ insert_entry face_eq es k x → single_count new v + single_share v (k, tally_in es k) ≡ single_count es v + single_share v (k, x)
insert-share es new k x v e = let c = ap (λ l. single_count l v) e in omega (arith, sum_by-insert_entry (single_share v) es k x, share_of v k es)

-- a face that is there takes a new count at its place
pub written : (es : Counts) (k : Face) (i x : ℕ) → position (face_eq k) (keys_of es) ≡ Some i → set_value_at es i x ≡ insert_entry face_eq es k x
written es k i x at = sym (insert_entry-first face_eq k x es i (Found-position (face_eq k) es i at).first)

-- an insert of 1 and then a write of one more than there was
pub rewritten : (es new : Counts) (k : Face) (i n : ℕ) → new ≡ insert_entry face_eq es k 1 → i ≡ position_or_len (face_eq k) (keys_of es) → lookup (face_eq k) es ≡ Some n
    → set_value_at new i (n + 1) ≡ insert_entry face_eq es k (tally_in es k + 1)
rewritten es new k i n e p s =
    ap (λ l. set_value_at l i (n + 1)) e ∙ ap (λ q. set_value_at (insert_entry face_eq es k 1) q (n + 1)) p
    ∙ set-insert es k 1 (n + 1) ∙ ap (λ o. insert_entry face_eq es k (unwrap_or o 0 + 1)) (sym s)

pub some_of : (k : Face) (es : Counts) → 0 < tally_in es k → lookup (face_eq k) es ≡ Some (tally_in es k)
some_of k es lt = by (lookup (face_eq k) es) lt
  where
    by : (o : Option ℕ) → 0 < unwrap_or o 0 → o ≡ Some (unwrap_or o 0)
    by None lt = absurd (omega arith)
    by (Some n) lt = refl

-- the new count of every face, where one face is counted once more, or once less
pub tally_more : (es : Counts) (k f : Face) → cond (face_eq k f) (tally_in es k + 1) (tally_in es f) ≡ tally_in es f + cond (face_eq k f) 1 0
tally_more es k f = by (face_eq k f) refl
  where
    by : (b : Bool) → face_eq k f ≡ b → cond b (tally_in es k + 1) (tally_in es f) ≡ tally_in es f + cond b 1 0
    by true e = ap (λ h. tally_in es h + 1) (face_same k f e)
    by false e = omega arith

pub tally_less : (es : Counts) (k f : Face) (n : ℕ) → n + 1 ≡ tally_in es k → cond (face_eq k f) n (tally_in es f) + cond (face_eq k f) 1 0 ≡ tally_in es f
tally_less es k f n h = by (face_eq k f) refl
  where
    by : (b : Bool) → face_eq k f ≡ b → cond b n (tally_in es f) + cond b 1 0 ≡ tally_in es f
    by true e = h ∙ ap (tally_in es) (face_same k f e)
    by false e = omega arith

-- a vertex that is no corner is on none of the faces
pub off_face : (a b c v : ℕ) → a ≢ v → b ≢ v → c ≢ v → is_on (face_of a b c) v ≡ false
off_face a b c v x y z = grind (arith, nat_tests)

pub no_corner : (c : Corners) (v : ℕ) → has_corner c v ≡ false → (c.0 ≢ v) × (c.1 ≢ v) × (c.2 ≢ v) × (c.3 ≢ v)
no_corner c v h = (λ e. grind (arith, nat_tests), λ e. grind (arith, nat_tests), λ e. grind (arith, nat_tests), λ e. grind (arith, nat_tests))

pub off_faces : (fs : List Face) (c : Corners) (v : ℕ) → fs ≡ faces c → has_corner c v ≡ false → (k : ℕ) (d : Face) → k < 4 → is_on (get_or fs k d) v ≡ false
off_faces fs c v e h k d lt = subst (λ l. is_on (get_or l k d) v ≡ false) (sym e) (at k lt)
  where
    at : (k : ℕ) → k < 4 → is_on (get_or (faces c) k d) v ≡ false
    at zero lt = off_face c.1 c.2 c.3 v (no_corner c v h).1 (no_corner c v h).2 (no_corner c v h).3
    at (suc zero) lt = off_face c.0 c.2 c.3 v (no_corner c v h).0 (no_corner c v h).2 (no_corner c v h).3
    at (suc (suc zero)) lt = off_face c.0 c.1 c.3 v (no_corner c v h).0 (no_corner c v h).1 (no_corner c v h).3
    at (suc (suc (suc zero))) lt = off_face c.0 c.1 c.2 v (no_corner c v h).0 (no_corner c v h).1 (no_corner c v h).2
    at (suc (suc (suc (suc k)))) lt = absurd (omega arith)

pub insert-others : (es new : Counts) (k f : Face) (x : ℕ) → new ≡ insert_entry face_eq es k x → face_eq k f ≡ false → lookup (face_eq f) es ≡ None → lookup (face_eq f) new ≡ None
insert-others es new k f x e h n = ap (λ l. lookup (face_eq f) l) e ∙ lookup-insert_entry es k f x ∙ ap (λ b. cond b (Some x) (lookup (face_eq f) es)) h ∙ n
