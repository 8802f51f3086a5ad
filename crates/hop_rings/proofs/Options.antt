-- options, searches and tests on lists
use Rattle.std.proofs.Common.{◌≡◌, ◌≢◌, ℕ, ◌+◌, ◌<◌, ◌≤◌, ◌⊎◌, inl, inr, Bool, true, false, cond, eqb, ◌||◌, List, [], ◌∷◌, ◌++◌, Option, Some, None, is_some, find, length, refl, sym, ap, subst, ◌∙◌, arith}
use Rattle.std.proofs.lemmas.Bool.{false≢true}
use Rattle.std.proofs.lemmas.Bool.Decides.{nat_tests}
use Rattle.std.proofs.lemmas.List.Sums.{sum_by-append}
use Rattle.std.specs.List.{list_any}
use Rattle.mesh_base.specs.Mesh.{MeshView, numbers, are_neighbours, neighbours}
use Rattle.mesh_base.proofs.Ascending.{In, Asc, In-filter, filter-In, range-In}
use Rattle.mesh_base.proofs.JoinedLaws.{any_In, In_any}
use Rattle.mesh_base.proofs.Once.{times-cons}
use Rattle.hop_rings.specs.Reached.{or_else, times, bit}

pub same : (v w : ℕ) → v ≡ w → eqb v w ≡ true
same v w e = grind (arith, nat_tests)

pub other : (v w : ℕ) → v ≢ w → eqb v w ≡ false
other v w n = grind (arith, nat_tests)

pub equal : (v w : ℕ) → eqb v w ≡ true → v ≡ w
equal v w e = grind (arith, nat_tests)

-- two tests that pass alike
pub same_test : (a b : Bool) → (a ≡ true → b ≡ true) → (b ≡ true → a ≡ true) → a ≡ b
same_test true b f g = sym (f refl)
same_test false true f g = g refl
same_test false false f g = refl

-- v is in the list
abbrev pub is_listed : List ℕ → ℕ → Bool
is_listed vs v = list_any (λ w. eqb w v) vs

pub listed : (vs : List ℕ) (v : ℕ) → In vs v → is_listed vs v ≡ true
listed vs v m = any_In (λ w. eqb w v) vs v m (same v v refl)

pub of_listed : (vs : List ℕ) (v : ℕ) → is_listed vs v ≡ true → In vs v
of_listed vs v h = let a = In_any (λ w. eqb w v) vs h in subst (In vs) (equal a.0 v a.2) a.1

pub listed_push : (vs : List ℕ) (x : ℕ) → is_listed (vs ++ x ∷ []) x ≡ true
listed_push [] x = ap (λ b. b || false) (same x x refl)
listed_push (v ∷ vs) x = by (eqb v x) (listed_push vs x)
  where
    by : (b : Bool) → is_listed (vs ++ x ∷ []) x ≡ true → (b || is_listed (vs ++ x ∷ []) x) ≡ true
    by true h = refl
    by false h = h

pub listed_push_other : (vs : List ℕ) (x w : ℕ) → x ≢ w → is_listed (vs ++ x ∷ []) w ≡ is_listed vs w
listed_push_other [] x w n = ap (λ b. b || false) (other x w n)
listed_push_other (v ∷ vs) x w n = ap (λ b. eqb v w || b) (listed_push_other vs x w n)

-- the neighbours are those that pass the test
pub listed_neighbours : (mesh : MeshView) (u w : ℕ) → w < length mesh.points → is_listed (neighbours mesh u) w ≡ are_neighbours mesh.cells u w
listed_neighbours mesh u w lt = same_test _ _
    (λ h. (In-filter (are_neighbours mesh.cells u) (numbers mesh) w (of_listed (neighbours mesh u) w h)).0)
    (λ h. listed (neighbours mesh u) w (filter-In (are_neighbours mesh.cells u) (numbers mesh) w h (range-In 0 _ w (omega arith) (omega arith))))

-- the first number that passes
pub find_is : (p : ℕ → Bool) (xs : List ℕ) (s : ℕ) → find p xs ≡ Some s → In xs s × (p s ≡ true)
find_is p [] s h = absurd (cc)
find_is p (x ∷ xs) s h = by (p x) refl h (find_is p xs s)
  where
    by : (b : Bool) → p x ≡ b → cond b (Some x) (find p xs) ≡ Some s → (find p xs ≡ Some s → In xs s × (p s ≡ true)) → In (x ∷ xs) s × (p s ≡ true)
    by true e h rest = let q : x ≡ s = cc in (inl q, ap p (sym q) ∙ e)
    by false e h rest = let r = rest h in (inr r.0, r.1)

pub find_least : (p : ℕ → Bool) (xs : List ℕ) (s u : ℕ) → Asc xs → find p xs ≡ Some s → In xs u → p u ≡ true → s ≤ u
find_least p [] s u up h m t = absurd m
find_least p (x ∷ xs) s u up h m t = by (p x) refl h m (find_least p xs s u up.1)
  where
    by : (b : Bool) → p x ≡ b → cond b (Some x) (find p xs) ≡ Some s → (x ≡ u) ⊎ In xs u → (find p xs ≡ Some s → In xs u → p u ≡ true → s ≤ u) → s ≤ u
    by true e h (inl q) rest = let r : x ≡ s = cc in omega arith
    by true e h (inr k) rest = let r : x ≡ s = cc in let l = up.0 u k in omega arith
    by false e h (inl q) rest = absurd (false≢true (sym e ∙ ap p q ∙ t))
    by false e h (inr k) rest = rest h k t

pub find_some : (p : ℕ → Bool) (xs : List ℕ) (u : ℕ) → In xs u → p u ≡ true → is_some (find p xs) ≡ true
find_some p [] u m t = absurd m
find_some p (x ∷ xs) u m t = by (p x) refl m (find_some p xs u)
  where
    by : (b : Bool) → p x ≡ b → (x ≡ u) ⊎ In xs u → (In xs u → p u ≡ true → is_some (find p xs) ≡ true) → is_some (cond b (Some x) (find p xs)) ≡ true
    by true e m rest = refl
    by false e (inl q) rest = absurd (false≢true (sym e ∙ ap p q ∙ t))
    by false e (inr k) rest = rest k t

pub find_push : (p : ℕ → Bool) (xs : List ℕ) (x : ℕ) → find p (xs ++ x ∷ []) ≡ or_else (find p xs) (cond (p x) (Some x) None)
find_push p [] x = refl
find_push p (y ∷ xs) x = by (p y) (find_push p xs x)
  where
    by : (b : Bool) → find p (xs ++ x ∷ []) ≡ or_else (find p xs) (cond (p x) (Some x) None) → cond b (Some y) (find p (xs ++ x ∷ [])) ≡ or_else (cond b (Some y) (find p xs)) (cond (p x) (Some x) None)
    by true h = refl
    by false h = h

pub or_else_assoc : (a b c : Option ℕ) → or_else (or_else a b) c ≡ or_else a (or_else b c)
or_else_assoc (Some x) b c = refl
or_else_assoc None b c = refl

pub some_value : (o : Option ℕ) → is_some o ≡ true → (s : ℕ) × (o ≡ Some s)
some_value None h = absurd (false≢true h)
some_value (Some s) h = (s, refl)

pub times-append : (xs ys : List ℕ) (i : ℕ) → times (xs ++ ys) i ≡ times xs i + times ys i
times-append xs ys i = sum_by-append (λ x. bit (eqb x i)) xs ys

pub times_push : (xs : List ℕ) (x : ℕ) → times (xs ++ x ∷ []) x ≡ times xs x + 1
times_push xs x = times-append xs (x ∷ []) x ∙ ap (λ n. times xs x + n) (times-cons x [] x ∙ ap (λ b. bit b + 0) (same x x refl))

pub times_push_other : (xs : List ℕ) (x w : ℕ) → x ≢ w → times (xs ++ x ∷ []) w ≡ times xs w
times_push_other xs x w n = times-append xs (x ∷ []) w ∙ (let e = times-cons x [] w ∙ ap (λ b. bit b + 0) (other x w n) in omega arith)
