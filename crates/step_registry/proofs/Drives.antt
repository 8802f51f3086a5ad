-- What a driven core knows of a session's slot.
use Rattle.std.specs.Prelude.{◌≡◌, ◌≢◌, ℕ, suc, zero, ◌+◌, ◌<◌, ◌≤◌, Bool, true, false, cond, All, List, [], ◌∷◌, ◌++◌, length, replicate, slice_index_or, slice_set, take, Option, Some, None, refl, Result, Ok, Err, OnOk}
use Rattle.std.specs.List.{cons_option, remove}
use Rattle.std.proofs.Common.{arith, sym, ◌∙◌, ap, subst}
use Rattle.std.proofs.lemmas.List.{get_or-set_other}
use Rattle.std.proofs.lemmas.List.Elements.{All-cons, All-head}
use Rattle.std.proofs.lemmas.List.Kept.{AllPairs-cons}
use Rattle.std.proofs.lemmas.List.Sums.{sum_by_more, sum_by-take-le}
use Rattle.mesh_base.specs.declared.answer.Answer.{Answer}
use Rattle.run_script.specs.Jobs.{JobView, turns_of, box_count}
use Rattle.run_script.specs.declared.job.SessionTurn.{SessionTurn}
use Rattle.step_registry.specs.declared.event.Event.{Event}
use Rattle.step_registry.specs.declared.event.Event.TheVariants.{Pin, Unpin}
use Rattle.step_registry.specs.declared.event.SessionState.{SessionState}
use Rattle.step_registry.specs.declared.slots.Slot.{Slot}
use Rattle.step_registry.specs.Pins.{PinView, pin_of}
use Rattle.step_registry.specs.Core.{State, fresh, first, session_of, pinned, unpinned, effect, CanHappen, after, IsLegal, first_query, no_turn, turn_at, answer_to, answer_run}
use Rattle.step_registry.specs.CoreLaws.{sound, legal_more, after-append}
use Rattle.step_registry.specs.Laws.{RegistryView}
use Rattle.step_registry.specs.Runs.{no_area, answer_at, turn_area, run-more, pin_out, pins_from, pins_of, IsOut, CanGiveUp, give_event}
use Rattle.step_registry.specs.Slots.{no_slot, slot, slots_from, slots_of, pins_in, IsReady}

-- ---- boxes of turns

-- a turn's boxes are among those of all
pub turn_within : (turns : List SessionTurn) (t : ℕ) → t < length turns → first_query turns t + length (slice_index_or turns t no_turn).areas ≤ box_count turns
turn_within turns t lt =
    let one = sum_by_more (λ (x : SessionTurn). length x.areas) turns t no_turn lt in
    let part = sum_by-take-le (λ (x : SessionTurn). length x.areas) turns (t + 1) in omega arith

-- the boxes of one turn more
pub asked_more : (turns : List SessionTurn) (t more : ℕ) (a : Bool) → t < length turns → more ≡ cond a (length (slice_index_or turns t no_turn).areas) 0 → first_query turns t + more ≡ first_query turns (cond a (t + 1) t)
asked_more turns t more true lt e = let one = sum_by_more (λ (x : SessionTurn). length x.areas) turns t no_turn lt in omega arith
asked_more turns t more false lt e = omega arith

-- one answer more of a turn
pub turn_more : (job : JobView) (s t k first i : ℕ) (items itemsn : List Answer) (answer : Answer) → t < length (turns_of job s) → first ≡ first_query (turns_of job s) t → i < length (turn_at job s t).areas
    → items ≡ answer_run job s k (first_query (turns_of job s) t) (take i (turn_at job s t).areas) → answer ≡ answer_at job s (first + i) k → itemsn ≡ items ++ answer ∷ []
    → itemsn ≡ answer_run job s k (first_query (turns_of job s) t) (take (i + 1) (turn_at job s t).areas)
turn_more job s t k first i items itemsn answer there fq below e a new =
    let ts = turns_of job s in let q = first_query ts t in let areas = (turn_at job s t).areas in
    let is : answer ≡ answer_to job s (q + i) k (slice_index_or areas i no_area) = a ∙ (ap (λ n. answer_at job s (n + i) k) fq ∙ ap (answer_to job s (q + i) k) (turn_area ts t i there below)) in
    new ∙ (ap (λ l. l ++ answer ∷ []) e ∙ (ap (λ r. answer_run job s k q (take i areas) ++ r ∷ []) is ∙ sym (run-more job s k q i areas below)))

-- ---- slots

pub slot-any : (xs : List Slot) (i : ℕ) (d e : Slot) → i < length xs → slice_index_or xs i d ≡ slice_index_or xs i e
slot-any [] i d e lt = absurd (omega arith)
slot-any (x ∷ xs) zero d e lt = refl
slot-any (x ∷ xs) (suc i) d e lt = slot-any xs i d e (omega arith)

length-slots : (job : JobView) (a : ℕ) (ws : List SessionState) → length (slots_from job a ws) ≡ length ws
length-slots job a [] = refl
length-slots job a (w ∷ ws) = ap suc (length-slots job (suc a) ws)

slots-set : (job : JobView) (a : ℕ) (ws : List SessionState) (s : ℕ) (me : SessionState) → slots_from job a (slice_set ws s me) ≡ slice_set (slots_from job a ws) s (slot job (a + s) me)
slots-set job a [] s me = refl
slots-set job a (w ∷ ws) zero me = let z : a + 0 ≡ a = omega arith in ap (λ i. slot job i me ∷ slots_from job (suc a) ws) (sym z)
slots-set job a (w ∷ ws) (suc s) me = let z : suc a + s ≡ a + suc s = omega arith in ap (λ l. slot job a w ∷ l) (slots-set job (suc a) ws s me ∙ ap (λ i. slice_set (slots_from job (suc a) ws) s (slot job i me)) z)

slots-get : (job : JobView) (a : ℕ) (ws : List SessionState) (s : ℕ) → s < length ws → slice_index_or (slots_from job a ws) s no_slot ≡ slot job (a + s) (slice_index_or ws s fresh)
slots-get job a [] s lt = absurd (omega arith)
slots-get job a (w ∷ ws) zero lt = let z : a + 0 ≡ a = omega arith in ap (λ i. slot job i w) (sym z)
slots-get job a (w ∷ ws) (suc s) lt = let z : suc a + s ≡ a + suc s = omega arith in slots-get job (suc a) ws s (omega arith) ∙ ap (λ i. slot job i (slice_index_or ws s fresh)) z

empty-slots : (job : JobView) (a n : ℕ) → slots_from job a (replicate n fresh) ≡ replicate n no_slot
empty-slots job a zero = refl
empty-slots job a (suc n) = ap (λ l. no_slot ∷ l) (empty-slots job (suc a) n)

pub pins-slots : (job : JobView) (a : ℕ) (ws : List SessionState) → pins_in (slots_from job a ws) ≡ pins_from job a ws
pins-slots job a [] = refl
pins-slots job a (w ∷ ws) = ap (cons_option (pin_out job a w.out)) (pins-slots job (suc a) ws)

module _ (view : RegistryView) (job : JobView) (next : ℕ) (slots : List Slot) where
  pub slot_there : (s : ℕ) → IsReady view job next slots → s < length view.job.sessions → s < length slots
  slot_there s ready lt =
      let len : length slots ≡ length (slots_of view.job (after view.job view.journal)) = ap length ready.slots_are in
      let same = length-slots view.job 0 (after view.job view.journal).sessions in let even = (sound view.job view.journal ready.legal).even in omega arith

  pub slot_at : (s : ℕ) → IsReady view job next slots → s < length view.job.sessions → slice_index_or slots s no_slot ≡ slot view.job s (session_of (after view.job view.journal) s)
  slot_at s ready lt =
      let even = (sound view.job view.journal ready.legal).even in let z : 0 + s ≡ s = omega arith in
      ap (λ l. slice_index_or l s no_slot) ready.slots_are ∙ (slots-get view.job 0 (after view.job view.journal).sessions s (omega arith) ∙ ap (λ i. slot view.job i (session_of (after view.job view.journal) s)) z)

  pub slot_full : (s k : ℕ) → IsReady view job next slots → s < length view.job.sessions → (session_of (after view.job view.journal) s).out ≡ Some k → (slice_index_or slots s no_slot).pin ≡ Some (pin_of view.job s k)
  slot_full s k ready lt e = ap (λ (x : Slot). x.pin) (slot_at s ready lt) ∙ ap (pin_out view.job s) e

  pub slot_empty : (s : ℕ) → IsReady view job next slots → s < length view.job.sessions → (session_of (after view.job view.journal) s).out ≡ None → (slice_index_or slots s no_slot).pin ≡ None
  slot_empty s ready lt e = ap (λ (x : Slot). x.pin) (slot_at s ready lt) ∙ ap (pin_out view.job s) e

  pub slot_asked : (s : ℕ) → IsReady view job next slots → s < length view.job.sessions → (slice_index_or slots s no_slot).asked ≡ first_query (turns_of view.job s) (session_of (after view.job view.journal) s).done
  slot_asked s ready lt = ap (λ (x : Slot). x.asked) (slot_at s ready lt)

  pub turn_left : (s k : ℕ) → IsReady view job next slots → (session_of (after view.job view.journal) s).out ≡ Some k → (session_of (after view.job view.journal) s).done < length (turns_of view.job s)
  turn_left s k ready e = (((sound view.job view.journal ready.legal).each s).out_goes k e).0

  -- one event more
  pub ready_more : (e : Event) (new : RegistryView) (jobn : JobView) (nextn : ℕ) (slotsn : List Slot) → IsReady view job next slots → CanHappen view.job (after view.job view.journal) e → new.job ≡ view.job → new.journal ≡ view.journal ++ e ∷ [] → jobn ≡ job
      → nextn ≡ (effect (after view.job view.journal) e).newest + 1 → slotsn ≡ slots_of view.job (effect (after view.job view.journal) e) → IsReady new jobn nextn slotsn
  ready_more e new jobn nextn slotsn ready can ej eh ew en es =
      let cut = after-append (first view.job) view.journal (e ∷ []) in
      let is : after new.job new.journal ≡ effect (after view.job view.journal) e = ap (λ j. after j new.journal) ej ∙ (ap (after view.job) eh ∙ cut) in
      record {
        legal = subst (λ j. IsLegal j new.journal) (sym ej) (subst (IsLegal view.job) (sym eh) (legal_more view.job view.journal e ready.legal can));
        job_is = ew ∙ (ready.job_is ∙ sym ej);
        next_is = en ∙ ap (λ (z : State). z.newest + 1) (sym is);
        slots_are = es ∙ (ap (slots_of view.job) (sym is) ∙ ap (λ j. slots_of j (after new.job new.journal)) (sym ej));
      }

  -- the slot of one session changes
  slots_change : (s : ℕ) (me : SessionState) (x : Slot) (slotsn : List Slot) → IsReady view job next slots → x ≡ slot view.job s me → slotsn ≡ slice_set slots s x → slotsn ≡ slots_from view.job 0 (slice_set (after view.job view.journal).sessions s me)
  slots_change s me x slotsn ready is e =
      let ws = (after view.job view.journal).sessions in let z : 0 + s ≡ s = omega arith in
      e ∙ (ap (slice_set slots s) is ∙ (ap (λ l. slice_set l s (slot view.job s me)) ready.slots_are ∙ (ap (λ i. slice_set (slots_from view.job 0 ws) s (slot view.job i me)) (sym z) ∙ sym (slots-set view.job 0 ws s me))))

  pub slots_pin : (s k : ℕ) (pin : PinView) (slotsn : List Slot) → IsReady view job next slots → s < length view.job.sessions → pin ≡ pin_of view.job s k → slotsn ≡ slice_set slots s (record { pin = Some pin; asked = (slice_index_or slots s no_slot).asked })
      → slotsn ≡ slots_of view.job (effect (after view.job view.journal) (Pin s k))
  slots_pin s k pin slotsn ready lt is e =
      let asked = (slice_index_or slots s no_slot).asked in
      let x : Slot = record { pin = Some pin; asked = asked } in
      slots_change s (pinned k (session_of (after view.job view.journal) s)) x slotsn ready
      (ap (λ (p : PinView). let y : Slot = record { pin = Some p; asked = asked } in y) is ∙ ap (λ (n : ℕ). let y : Slot = record { pin = Some (pin_of view.job s k); asked = n } in y) (slot_asked s ready lt)) e

  pub slots_unpin : (s k more : ℕ) (a : Bool) (slotsn : List Slot) → IsReady view job next slots → CanHappen view.job (after view.job view.journal) (Unpin s k a)
      → more ≡ cond a (length (turn_at view.job s (session_of (after view.job view.journal) s).done).areas) 0 → slotsn ≡ slice_set slots s (record { pin = None; asked = (slice_index_or slots s no_slot).asked + more })
      → slotsn ≡ slots_of view.job (effect (after view.job view.journal) (Unpin s k a))
  slots_unpin s k more a slotsn ready can count e =
      let me = session_of (after view.job view.journal) s in
      let left = turn_left s k ready can.1 in
      let asked : (slice_index_or slots s no_slot).asked + more ≡ first_query (turns_of view.job s) (cond a (me.done + 1) me.done) =
      ap (λ n. n + more) (slot_asked s ready can.0) ∙ asked_more (turns_of view.job s) me.done more a left count in
      slots_change s (unpinned a me) (record { pin = None; asked = (slice_index_or slots s no_slot).asked + more }) slotsn ready
      (ap (λ (n : ℕ). let y : Slot = record { pin = None; asked = n } in y) asked) e

  pub ready_first : IsLegal view.job view.journal → view.journal ≡ [] → job ≡ view.job → next ≡ 1 → slots ≡ replicate (length view.job.sessions) no_slot → IsReady view job next slots
  ready_first l e ej en es = record {
    legal = l;
    job_is = ej;
    next_is = en ∙ ap (λ h. (after view.job h).newest + 1) (sym e);
    slots_are = es ∙ (sym (empty-slots view.job 0 (length view.job.sessions)) ∙ ap (λ h. slots_of view.job (after view.job h)) (sym e));
  }

  pub slots_long : IsLegal view.job view.journal → slots ≡ slots_of view.job (after view.job view.journal) → length slots ≡ length view.job.sessions
  slots_long l e = ap length e ∙ (length-slots view.job 0 (after view.job view.journal).sessions ∙ (sound view.job view.journal l).even)

pub some_same : (x y : PinView) → Some x ≡ Some y → x ≡ y
some_same x y e = cc

pub number_same : (x y : ℕ) → Some x ≡ Some y → x ≡ y
number_same x y e = cc

pub on_ok2 : {T E : Type 0} (r : Result T E) (A B C : Type 0) → OnOk r A → OnOk r B → (A → B → C) → OnOk r C
on_ok2 (Ok x) A B C a b f = f a b
on_ok2 (Err e) A B C a b f = tt

pub on_ok1 : {T E : Type 0} (r : Result T E) (A C : Type 0) → OnOk r A → (A → C) → OnOk r C
on_ok1 (Ok x) A C a f = f a
on_ok1 (Err e) A C a f = tt

pub empty-pins : (job : JobView) (a n : ℕ) → pins_from job a (replicate n fresh) ≡ []
empty-pins job a zero = refl
empty-pins job a (suc n) = empty-pins job (suc a) n

-- ---- pins that are given back

pub cons_of : (xs : List PinView) (p : PinView) → 0 < length xs → p ≡ slice_index_or xs 0 p → xs ≡ p ∷ remove xs 0
cons_of [] p lt e = absurd (omega arith)
cons_of (x ∷ xs) p lt e = ap (λ y. y ∷ xs) (sym e)

-- the first is out
pub give_first : (job : JobView) (st : State) (pin : PinView) (rest : List PinView) → CanGiveUp job st (pin ∷ rest) → (pin.step.job ≡ job) × CanHappen job st (give_event pin)
give_first job st pin rest c = let f = All-head (IsOut job st) pin rest c.out in (f.0, (f.1, f.2))

-- and once it is given back, so are the others
pub give_rest : (job : JobView) (st : State) (pin : PinView) (rest : List PinView) → CanGiveUp job st (pin ∷ rest) → CanGiveUp job (effect st (give_event pin)) rest
give_rest job st pin rest c = record {
  out = λ i d lt.
      let f = c.out (suc i) d (omega arith) in let ne = c.once 0 (suc i) d (omega arith) (omega arith) in
      (f.0, f.1, ap (λ (w : SessionState). w.out) (get_or-set_other st.sessions pin.session (slice_index_or rest i d).session (unpinned false (session_of st pin.session)) fresh (λ e. ne (sym e))) ∙ f.2);
  once = λ i j d lt le. c.once (suc i) (suc j) d (omega arith) (omega arith);
}

pub give_after : (job jobn : JobView) (h hn : List Event) (pin : PinView) (rest : List PinView) → jobn ≡ job → hn ≡ h ++ give_event pin ∷ [] → CanGiveUp job (after job h) (pin ∷ rest) → CanGiveUp jobn (after jobn hn) rest
give_after job jobn h hn pin rest ej eh give =
    subst (λ j. CanGiveUp j (after j hn) rest) (sym ej) (subst (λ l. CanGiveUp job (after job l) rest) (sym eh) (subst (λ z. CanGiveUp job z rest) (sym (after-append (first job) h (give_event pin ∷ []))) (give_rest job (after job h) pin rest give)))

-- ---- what a core has out may be given back

-- the pins of sessions from a on
record AreFrom (job : JobView) (st : State) (a : ℕ) (pins : List PinView) : Type 0 where
  low : All (λ (p : PinView). a ≤ p.session) pins
  give : CanGiveUp job st pins

none_from : (job : JobView) (st : State) (a : ℕ) → AreFrom job st a []
none_from job st a = record { low = λ i d lt. absurd (omega arith); give = record { out = λ i d lt. absurd (omega arith); once = λ i j d lt le. absurd (omega arith) } }

lower_from : (job : JobView) (st : State) (a : ℕ) (pins : List PinView) → AreFrom job st (suc a) pins → AreFrom job st a pins
lower_from job st a pins f = record { low = λ i d lt. (let le = f.low i d lt in omega arith); give = f.give }

one_from : (job : JobView) (st : State) (a : ℕ) (o : Option ℕ) (pins : List PinView) → a < length job.sessions → (session_of st a).out ≡ o → AreFrom job st (suc a) pins → AreFrom job st a (cons_option (pin_out job a o) pins)
one_from job st a None pins lt e f = lower_from job st a pins f
one_from job st a (Some k) pins lt e f =
    let pin = pin_of job a k in record {
      low = All-cons (λ (p : PinView). a ≤ p.session) pin pins (omega arith) (lower_from job st a pins f).low;
      give = record {
        out = All-cons (IsOut job st) pin pins (refl, lt, e) f.give.out;
        once = AllPairs-cons (λ (p q : PinView). p.session ≢ q.session) pin pins (λ i d l. (let le = f.low i d l in omega arith)) f.give.once;
      };
    }

all_from : (job : JobView) (st : State) (a : ℕ) (ws : List SessionState) → a + length ws ≡ length job.sessions → ((i : ℕ) → i < length ws → session_of st (a + i) ≡ slice_index_or ws i fresh) → AreFrom job st a (pins_from job a ws)
all_from job st a [] len each = none_from job st a
all_from job st a (w ∷ ws) len each =
    let z : a + 0 ≡ a = omega arith in
    one_from job st a w.out (pins_from job (suc a) ws) (omega arith) (ap (λ (s : SessionState). s.out) (ap (session_of st) (sym z) ∙ each 0 (omega arith)))
    (all_from job st (suc a) ws (omega arith) (λ i lt. let y : suc a + i ≡ a + suc i = omega arith in ap (session_of st) y ∙ each (suc i) (omega arith)))

pub give_all : (job : JobView) (h : List Event) → IsLegal job h → CanGiveUp job (after job h) (pins_of job (after job h))
give_all job h l =
    let even = (sound job h l).even in
    (all_from job (after job h) 0 (after job h).sessions (omega arith) (λ i lt. let z : 0 + i ≡ i = omega arith in ap (session_of (after job h)) z)).give
