-- The watches of a session by the list of the boxes before.
use Rattle.std.proofs.Common.{◌≡◌, ℕ, zero, suc, ◌+◌, ◌<◌, Option, None, List, [], ◌∷◌, ◌++◌, length, map, refl, sym, ap, ◌∙◌, subst, arith}
use Rattle.std.specs.Prelude.{IfSome}
use Rattle.std.specs.List.{range_with_len}
use Rattle.std.proofs.lemmas.List.FromFn.{map-range_with_len_more, length-map-range_with_len, get_or-map-range_with_len}
use Rattle.mesh_base.specs.Place.{Area}
use Rattle.mesh_base.specs.declared.answer.Answer.{Answer}
use Rattle.box_watch.specs.declared.watch.Watch.{Watch}
use Rattle.box_watch.specs.Priors.{prior_of, priors_of}
use Rattle.box_watch.specs.Watches.{watch_since, watch_of, watches_by}
use Rattle.box_watch.specs.Own.{prior_at, watches_since}
use Rattle.box_watch.proofs.Lasts.{prior-below}

map-same : {X : Type 0} (f g : ℕ → X) (a n : ℕ) → ((q : ℕ) → q < a + n → f q ≡ g q) → map f (range_with_len a n) ≡ map g (range_with_len a n)
map-same f g a zero each = refl
map-same f g a (suc n) each =
    ap (λ x. x ∷ map f (range_with_len (a + 1) n)) (each a (omega arith)) ∙ ap (λ l. g a ∷ l) (map-same f g (a + 1) n (λ q lt. each q (omega arith)))

pub prior-at : (boxes : List Area) (priors : List (Option ℕ)) (q : ℕ) → priors ≡ priors_of boxes → q < length boxes → prior_at priors q ≡ prior_of boxes q
prior-at boxes priors q e lt = let z : 0 + q ≡ q = omega arith in ap (λ l. prior_at l q) e ∙ get_or-map-range_with_len (prior_of boxes) 0 (length boxes) q q None lt z

pub priors-length : (boxes : List Area) (priors : List (Option ℕ)) → priors ≡ priors_of boxes → length priors ≡ length boxes
priors-length boxes priors e = ap length e ∙ length-map-range_with_len (prior_of boxes) 0 (length boxes)

pub before-below : (boxes : List Area) (priors : List (Option ℕ)) (q n : ℕ) → priors ≡ priors_of boxes → length boxes ≡ n → q < length priors → IfSome (prior_at priors q) (λ p. p < n)
before-below boxes priors q n e len lt =
    let all = priors-length boxes priors e in
    subst (λ o. IfSome o (λ p. p < n)) (sym (prior-at boxes priors q e (omega arith))) (prior-below boxes q n (omega arith))

pub since-is : (s : ℕ) (boxes : List Area) (answers : List Answer) (priors : List (Option ℕ)) → priors ≡ priors_of boxes → watches_since s answers priors ≡ watches_by s boxes answers
since-is s boxes answers priors e =
    let f : ℕ → Watch = λ q. watch_since s answers q (prior_at priors q) in let all = priors-length boxes priors e in
    map-same f (watch_of s boxes answers) 0 (length priors) (λ q lt. ap (watch_since s answers q) (prior-at boxes priors q e (omega arith)))
    ∙ ap (λ n. map (watch_of s boxes answers) (range_with_len 0 n)) all

pub since-next : (s : ℕ) (answers : List Answer) (priors : List (Option ℕ)) (q : ℕ) (prior : Option ℕ) (w : Watch) (xs ys : List Watch) → prior ≡ prior_at priors q → w ≡ watch_since s answers q prior
    → xs ≡ map (λ i. watch_since s answers i (prior_at priors i)) (range_with_len 0 q) → ys ≡ xs ++ w ∷ [] → ys ≡ map (λ i. watch_since s answers i (prior_at priors i)) (range_with_len 0 (q + 1))
since-next s answers priors q prior w xs ys ep ew ex ey =
    let f : ℕ → Watch = λ i. watch_since s answers i (prior_at priors i) in let z : 0 + q ≡ q = omega arith in
    ey ∙ (ap (λ l. l ++ w ∷ []) ex ∙ (ap (λ v. map f (range_with_len 0 q) ++ v ∷ []) (ew ∙ ap (watch_since s answers q) ep) ∙ sym (map-range_with_len_more f 0 q q z)))
