use Rattle.std.proofs.Common.{rules, arith, ◌≡◌, ℕ, ◌+◌, ◌<◌, List, [], ◌∷◌, ◌++◌, length, sym, subst, ap, ◌∙◌, slice_index_or}
use Rattle.turn_table.specs.Seats.{standing, EachSeat, IsBack}
use Rattle.step_table.specs.Seats.{TableView, SessionView}
use Rattle.step_table.specs.Seating.{LockSeat, AreSeatsOf}
use Rattle.step_table.proofs.Turning.{Finds, finds}
use Rattle.step_table.proofs.Ending.{seats_even, publisher_back, backs, each_ends, first_ends, publisher_ends}
use Rattle.step_table.proofs.table.StepTable.finish.Goals as goal

pub close-requires-clause-all : goal.close-requires-clause-all
close-requires-clause-all c κs = let g = c.gather.ensures in let p = c.publisher.inside.seat in
    let all : c.of.result ≡ p ∷ g.0 = c.of.ensures ∙ (g.1 ∙ ap (λ l. l ++ g.0) (c.push_reserved.ensures.items ∙ ap (λ l. l ++ p ∷ []) c.publisher.invariant.empty)) in
    let are = subst (AreSeatsOf g.0) c.into_items.ensures g.2 in let lock = ap (λ (v : TableView). v.lock) c.self.view_is in
    let even = seats_even g.0 c.args.sessions are in let long : length c.of.result ≡ length g.0 + 1 = ap length all ∙ omega arith in
    let sessions = ap (λ (v : TableView). v.sessions) c.self.view_is in let count = c.requires.count.0 in let seats = c.self.invariant in omega arith

pub close-requires-clause-back : goal.close-requires-clause-back
close-requires-clause-back c κs = let g = c.gather.ensures in let p = c.publisher.inside.seat in
    let all : c.of.result ≡ p ∷ g.0 = c.of.ensures ∙ (g.1 ∙ ap (λ l. l ++ g.0) (c.push_reserved.ensures.items ∙ ap (λ l. l ++ p ∷ []) c.publisher.invariant.empty)) in
    let are = subst (AreSeatsOf g.0) c.into_items.ensures g.2 in let lock = ap (λ (v : TableView). v.lock) c.self.view_is in
    let first = publisher_back c.args.self.lock (standing p) c.args.publisher c.publisher.inside.published _ _ c.publisher.invariant c.publisher.view_is c.requires.publisher in
    let back = backs c.args.self.lock p g.0 c.args.sessions c.of.result all first are c.requires.sessions in
    subst (λ t. EachSeat (IsBack t) c.of.result) (sym lock) back

pub returns-clause-job : goal.returns-clause-job
returns-clause-job c = let g = c.gather.ensures in let p = c.publisher.inside.seat in
    let all : c.of.result ≡ p ∷ g.0 = c.of.ensures ∙ (g.1 ∙ ap (λ l. l ++ g.0) (c.push_reserved.ensures.items ∙ ap (λ l. l ++ p ∷ []) c.publisher.invariant.empty)) in
    let are = subst (AreSeatsOf g.0) c.into_items.ensures g.2 in let lock = ap (λ (v : TableView). v.lock) c.self.view_is in
    let first = publisher_back c.args.self.lock (standing p) c.args.publisher c.publisher.inside.published _ _ c.publisher.invariant c.publisher.view_is c.requires.publisher in
    let back = backs c.args.self.lock p g.0 c.args.sessions c.of.result all first are c.requires.sessions in
    let each : (k : ℕ) (d : LockSeat) → k < length c.of.result → Finds (standing (slice_index_or c.of.result k d)) k c.close.result = λ k d lt. (let q = c.close.ensures.seats k d lt in finds _ k _ (back k d lt).1 q.theme c.close.ensures.fits q.begins q.own q.known) in
    let ends = publisher_ends c.close.result (standing p) c.args.publisher c.publisher.view_is (first_ends c.close.result p g.0 c.of.result all each) in ends.job

pub returns-clause-jobs : goal.returns-clause-jobs
returns-clause-jobs c = let g = c.gather.ensures in let p = c.publisher.inside.seat in
    let all : c.of.result ≡ p ∷ g.0 = c.of.ensures ∙ (g.1 ∙ ap (λ l. l ++ g.0) (c.push_reserved.ensures.items ∙ ap (λ l. l ++ p ∷ []) c.publisher.invariant.empty)) in
    let are = subst (AreSeatsOf g.0) c.into_items.ensures g.2 in let lock = ap (λ (v : TableView). v.lock) c.self.view_is in
    let first = publisher_back c.args.self.lock (standing p) c.args.publisher c.publisher.inside.published _ _ c.publisher.invariant c.publisher.view_is c.requires.publisher in
    let back = backs c.args.self.lock p g.0 c.args.sessions c.of.result all first are c.requires.sessions in
    let each : (k : ℕ) (d : LockSeat) → k < length c.of.result → Finds (standing (slice_index_or c.of.result k d)) k c.close.result = λ k d lt. (let q = c.close.ensures.seats k d lt in finds _ k _ (back k d lt).1 q.theme c.close.ensures.fits q.begins q.own q.known) in
    let ends = each_ends c.close.result p g.0 c.args.sessions c.of.result all are each (λ s d lt. (c.requires.sessions s d lt).1) in λ s d lt. (ends s d lt).job

pub returns-clause-publisher : goal.returns-clause-publisher
returns-clause-publisher c = let g = c.gather.ensures in let p = c.publisher.inside.seat in
    let all : c.of.result ≡ p ∷ g.0 = c.of.ensures ∙ (g.1 ∙ ap (λ l. l ++ g.0) (c.push_reserved.ensures.items ∙ ap (λ l. l ++ p ∷ []) c.publisher.invariant.empty)) in
    let are = subst (AreSeatsOf g.0) c.into_items.ensures g.2 in let lock = ap (λ (v : TableView). v.lock) c.self.view_is in
    let first = publisher_back c.args.self.lock (standing p) c.args.publisher c.publisher.inside.published _ _ c.publisher.invariant c.publisher.view_is c.requires.publisher in
    let back = backs c.args.self.lock p g.0 c.args.sessions c.of.result all first are c.requires.sessions in
    let each : (k : ℕ) (d : LockSeat) → k < length c.of.result → Finds (standing (slice_index_or c.of.result k d)) k c.close.result = λ k d lt. (let q = c.close.ensures.seats k d lt in finds _ k _ (back k d lt).1 q.theme c.close.ensures.fits q.begins q.own q.known) in
    let ends = publisher_ends c.close.result (standing p) c.args.publisher c.publisher.view_is (first_ends c.close.result p g.0 c.of.result all each) in ends.follows

pub returns-clause-sessions : goal.returns-clause-sessions
returns-clause-sessions c = let g = c.gather.ensures in let p = c.publisher.inside.seat in
    let all : c.of.result ≡ p ∷ g.0 = c.of.ensures ∙ (g.1 ∙ ap (λ l. l ++ g.0) (c.push_reserved.ensures.items ∙ ap (λ l. l ++ p ∷ []) c.publisher.invariant.empty)) in
    let are = subst (AreSeatsOf g.0) c.into_items.ensures g.2 in let lock = ap (λ (v : TableView). v.lock) c.self.view_is in
    let first = publisher_back c.args.self.lock (standing p) c.args.publisher c.publisher.inside.published _ _ c.publisher.invariant c.publisher.view_is c.requires.publisher in
    let back = backs c.args.self.lock p g.0 c.args.sessions c.of.result all first are c.requires.sessions in
    let each : (k : ℕ) (d : LockSeat) → k < length c.of.result → Finds (standing (slice_index_or c.of.result k d)) k c.close.result = λ k d lt. (let q = c.close.ensures.seats k d lt in finds _ k _ (back k d lt).1 q.theme c.close.ensures.fits q.begins q.own q.known) in
    let ends = each_ends c.close.result p g.0 c.args.sessions c.of.result all are each (λ s d lt. (c.requires.sessions s d lt).1) in λ s d lt. (ends s d lt).follows

pub returns-clause-front : goal.returns-clause-front
returns-clause-front c = let g = c.gather.ensures in let p = c.publisher.inside.seat in
    let all : c.of.result ≡ p ∷ g.0 = c.of.ensures ∙ (g.1 ∙ ap (λ l. l ++ g.0) (c.push_reserved.ensures.items ∙ ap (λ l. l ++ p ∷ []) c.publisher.invariant.empty)) in
    let are = subst (AreSeatsOf g.0) c.into_items.ensures g.2 in let lock = ap (λ (v : TableView). v.lock) c.self.view_is in
    let first = publisher_back c.args.self.lock (standing p) c.args.publisher c.publisher.inside.published _ _ c.publisher.invariant c.publisher.view_is c.requires.publisher in
    let back = backs c.args.self.lock p g.0 c.args.sessions c.of.result all first are c.requires.sessions in
    let each : (k : ℕ) (d : LockSeat) → k < length c.of.result → Finds (standing (slice_index_or c.of.result k d)) k c.close.result = λ k d lt. (let q = c.close.ensures.seats k d lt in finds _ k _ (back k d lt).1 q.theme c.close.ensures.fits q.begins q.own q.known) in
    let ends = publisher_ends c.close.result (standing p) c.args.publisher c.publisher.view_is (first_ends c.close.result p g.0 c.of.result all each) in ends.front

pub returns-clause-states : goal.returns-clause-states
returns-clause-states c = let g = c.gather.ensures in let p = c.publisher.inside.seat in
    let all : c.of.result ≡ p ∷ g.0 = c.of.ensures ∙ (g.1 ∙ ap (λ l. l ++ g.0) (c.push_reserved.ensures.items ∙ ap (λ l. l ++ p ∷ []) c.publisher.invariant.empty)) in
    let are = subst (AreSeatsOf g.0) c.into_items.ensures g.2 in let lock = ap (λ (v : TableView). v.lock) c.self.view_is in
    let first = publisher_back c.args.self.lock (standing p) c.args.publisher c.publisher.inside.published _ _ c.publisher.invariant c.publisher.view_is c.requires.publisher in
    let back = backs c.args.self.lock p g.0 c.args.sessions c.of.result all first are c.requires.sessions in
    let each : (k : ℕ) (d : LockSeat) → k < length c.of.result → Finds (standing (slice_index_or c.of.result k d)) k c.close.result = λ k d lt. (let q = c.close.ensures.seats k d lt in finds _ k _ (back k d lt).1 q.theme c.close.ensures.fits q.begins q.own q.known) in
    let ends = each_ends c.close.result p g.0 c.args.sessions c.of.result all are each (λ s d lt. (c.requires.sessions s d lt).1) in λ s d lt. (ends s d lt).state
