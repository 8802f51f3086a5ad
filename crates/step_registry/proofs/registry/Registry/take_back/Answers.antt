use Rattle.std.proofs.Common.{rules, arith, ◌≡◌, ◌+◌, ◌++◌, length, sym, subst, ap, ◌∙◌, vec_len, vec_capacity, map}
use Rattle.std.specs.Arc.{arc_value}
use Rattle.std.specs.Option.{option_to_list, is_some, IfSome}
use Rattle.step_view.specs.StepView.{step_of}
use Rattle.step_registry.specs.declared.event.Event.TheVariants.{Unpin}
use Rattle.step_view.specs.Rows.{all_shares}
use Rattle.step_registry.specs.Core.{after, CanHappen, session_of, turn_answers, answers_by, State, freed_by}
use Rattle.step_registry.specs.Rows.{IsBackAt}
use Rattle.step_registry.specs.Laws.{answers_in}
use Rattle.step_registry.proofs.KeptSteps.{sessions_few, done_fits, event_room, answers_room, answers_match, back_latest, back_there, back_each, unpin_kept, unpin_freed, kept_wider, Comes}
use Rattle.step_registry.proofs.registry.Registry.take_back.Goals as goal

pub overflow_cast-all : goal.overflow_cast-all
overflow_cast-all c = let few = sessions_few _ _ _ _ _ _ _ _ _ c.self.invariant in let len : vec_len c.self.inside.sessions ≡ length c.self.inside.sessions.items = search rules in omega arith

pub overflow_add-all : goal.overflow_add-all
overflow_add-all c = let few = sessions_few _ _ _ _ _ _ _ _ _ c.self.invariant in let len : vec_len c.self.inside.sessions ≡ length c.self.inside.sessions.items = search rules in omega arith

pub keep_answers-answered-requires : goal.keep_answers-answered-requires
keep_answers-answered-requires c = let can = subst (λ v. CanHappen v.job (after v.job v.journal) (Unpin c.args.session c.args.step.number (is_some c.args.answers))) (sym c.self.view_is) c.requires.can in
    let st : State = record { newest = c.self.inside.newest; closed = c.self.inside.is_closed; sessions = c.self.inside.sessions.items } in
    let given = subst (λ z. IfSome c.args.answers (λ list. list ≡ turn_answers (arc_value c.self.inside.job) c.args.session (session_of z c.args.session).done c.args.step.number)) (sym c.self.invariant.state_is) (subst (λ v. IfSome c.args.answers (λ list. list ≡ turn_answers v.job c.args.session (session_of (after v.job v.journal) c.args.session).done c.args.step.number)) (sym c.self.view_is) c.requires.answers) in
    let match = answers_match c.args.answers (turn_answers (arc_value c.self.inside.job) c.args.session (session_of st c.args.session).done c.args.step.number) given in
    let room = answers_room _ _ _ _ _ _ _ _ _ c.args.session c.args.step.number (is_some c.args.answers) c.self.invariant can in let same : length (answers_in c.args.answers) ≡ length (answers_by (arc_value c.self.inside.job) st (Unpin c.args.session c.args.step.number (is_some c.args.answers))) = ap length match in record { room = omega arith }

pub unpin_session-requires-clause-fits : goal.unpin_session-requires-clause-fits
unpin_session-requires-clause-fits c = let can = subst (λ v. CanHappen v.job (after v.job v.journal) (Unpin c.args.session c.args.step.number (is_some c.args.answers))) (sym c.self.view_is) c.requires.can in
    (done_fits _ _ _ _ _ _ _ _ _ c.args.session c.args.step.number (is_some c.args.answers) c.self.invariant can).1

pub unpin_session-requires-clause-there : goal.unpin_session-requires-clause-there
unpin_session-requires-clause-there c = let can = subst (λ v. CanHappen v.job (after v.job v.journal) (Unpin c.args.session c.args.step.number (is_some c.args.answers))) (sym c.self.view_is) c.requires.can in
    (done_fits _ _ _ _ _ _ _ _ _ c.args.session c.args.step.number (is_some c.args.answers) c.self.invariant can).0

pub push_reserved-requires : goal.push_reserved-requires
push_reserved-requires c = let can = subst (λ v. CanHappen v.job (after v.job v.journal) (Unpin c.args.session c.args.step.number (is_some c.args.answers))) (sym c.self.view_is) c.requires.can in
    let room = event_room _ _ _ _ _ _ _ _ _ (Unpin c.args.session c.args.step.number (is_some c.args.answers)) c.self.invariant can in let len : vec_len c.self.inside.journal ≡ length c.self.inside.journal.items = search rules in omega arith

pub give_back-requires-clause-few : goal.give_back-requires-clause-few
give_back-requires-clause-few c = let few = sessions_few _ _ _ _ _ _ _ _ _ c.self.invariant in let len : vec_len c.self.inside.sessions ≡ length c.self.inside.sessions.items = search rules in omega arith

pub give_back-requires-clause-latest : goal.give_back-requires-clause-latest
give_back-requires-clause-latest c = let can = subst (λ v. CanHappen v.job (after v.job v.journal) (Unpin c.args.session c.args.step.number (is_some c.args.answers))) (sym c.self.view_is) c.requires.can in
    let own : c.args.step ≡ step_of (arc_value c.self.inside.job) c.args.step.number = c.requires.own ∙ ap (λ v. step_of v.job c.args.step.number) (sym c.self.view_is) in
    let few = sessions_few _ _ _ _ _ _ _ _ _ c.self.invariant in let len : vec_len c.self.inside.sessions ≡ length c.self.inside.sessions.items = search rules in
    let all : c.len.result + 1 ≡ length (arc_value c.self.inside.job).sessions + 1 = omega arith in
    λ same. let f = back_latest _ _ _ _ _ _ _ _ _ c.args.session c.args.step.number (is_some c.args.answers) c.self.invariant can same in (own ∙ f.0, omega arith)

pub give_back-requires-clause-there : goal.give_back-requires-clause-there
give_back-requires-clause-there c = let can = subst (λ v. CanHappen v.job (after v.job v.journal) (Unpin c.args.session c.args.step.number (is_some c.args.answers))) (sym c.self.view_is) c.requires.can in
    λ ne. back_there _ _ _ _ _ _ _ _ _ c.args.session c.args.step.number (is_some c.args.answers) c.self.invariant can ne

pub give_back-requires-clause-row : goal.give_back-requires-clause-row
give_back-requires-clause-row c = let can = subst (λ v. CanHappen v.job (after v.job v.journal) (Unpin c.args.session c.args.step.number (is_some c.args.answers))) (sym c.self.view_is) c.requires.can in
    let own : c.args.step ≡ step_of (arc_value c.self.inside.job) c.args.step.number = c.requires.own ∙ ap (λ v. step_of v.job c.args.step.number) (sym c.self.view_is) in
    let few = sessions_few _ _ _ _ _ _ _ _ _ c.self.invariant in let len : vec_len c.self.inside.sessions ≡ length c.self.inside.sessions.items = search rules in
    let all : c.len.result + 1 ≡ length (arc_value c.self.inside.job).sessions + 1 = omega arith in
    λ ne i lt here. let f = back_each _ _ _ _ _ _ _ _ _ c.args.session c.args.step.number (is_some c.args.answers) c.self.invariant can ne i lt here in (f.0 ∙ sym own, omega arith)

pub invariant_of-self : goal.invariant_of-self
invariant_of-self c = let can = subst (λ v. CanHappen v.job (after v.job v.journal) (Unpin c.args.session c.args.step.number (is_some c.args.answers))) (sym c.self.view_is) c.requires.can in
    let own : c.args.step ≡ step_of (arc_value c.self.inside.job) c.args.step.number = c.requires.own ∙ ap (λ v. step_of v.job c.args.step.number) (sym c.self.view_is) in
    let few = sessions_few _ _ _ _ _ _ _ _ _ c.self.invariant in let len : vec_len c.self.inside.sessions ≡ length c.self.inside.sessions.items = search rules in
    let all : c.len.result + 1 ≡ length (arc_value c.self.inside.job).sessions + 1 = omega arith in
    let st : State = record { newest = c.self.inside.newest; closed = c.self.inside.is_closed; sessions = c.self.inside.sessions.items } in
    let given = subst (λ z. IfSome c.args.answers (λ list. list ≡ turn_answers (arc_value c.self.inside.job) c.args.session (session_of z c.args.session).done c.args.step.number)) (sym c.self.invariant.state_is) (subst (λ v. IfSome c.args.answers (λ list. list ≡ turn_answers v.job c.args.session (session_of (after v.job v.journal) c.args.session).done c.args.step.number)) (sym c.self.view_is) c.requires.answers) in
    let match = answers_match c.args.answers (turn_answers (arc_value c.self.inside.job) c.args.session (session_of st c.args.session).done c.args.step.number) given in
    let comes : Comes (arc_value c.self.inside.job) c.self.inside.journal.items st c.self.inside.latest c.self.inside.older.items c.self.inside.answers.items (vec_capacity c.self.inside.journal) (vec_capacity c.self.inside.answers) (vec_capacity c.self.inside.older) c.args.session c.args.step.number (is_some c.args.answers) c.give_back.new.latest c.give_back.new.rows.items c.give_back.result = record {
      newest = c.give_back.ensures.newest;
      elder = λ ne. let f = c.give_back.ensures.older ne in (f.0, (f.1.0, subst (λ n. IsBackAt c.self.inside.older.items c.give_back.new.rows.items (step_of (arc_value c.self.inside.job) c.args.step.number) n c.give_back.result f.1.0) all (subst (λ v. IsBackAt c.self.inside.older.items c.give_back.new.rows.items v (c.len.result + 1) c.give_back.result f.1.0) own f.1.1)));
    } in
    rw (c.push_reserved.ensures.items, c.push_reserved.ensures.capacity, c.give_back.ensures.capacity, c.unpin_session.ensures, c.keep_answers-answered.ensures.value, c.number-number.ensures.number)
    (kept_wider _ _ _ _ _ _ _ _ _ (vec_capacity c.keep_answers-answered.new.kept) c.keep_answers-answered.ensures.capacity
    (unpin_kept _ _ _ _ _ _ _ _ _ c.args.session c.args.step.number (is_some c.args.answers) c.give_back.new.latest c.give_back.new.rows.items c.give_back.result c.keep_answers-answered.new.kept.items c.self.invariant can comes
    (c.keep_answers-answered.ensures.items ∙ ap (λ l. c.self.inside.answers.items ++ l) match)))

pub returns-clause-freed : goal.returns-clause-freed
returns-clause-freed c = let can = subst (λ v. CanHappen v.job (after v.job v.journal) (Unpin c.args.session c.args.step.number (is_some c.args.answers))) (sym c.self.view_is) c.requires.can in
    let own : c.args.step ≡ step_of (arc_value c.self.inside.job) c.args.step.number = c.requires.own ∙ ap (λ v. step_of v.job c.args.step.number) (sym c.self.view_is) in
    let few = sessions_few _ _ _ _ _ _ _ _ _ c.self.invariant in let len : vec_len c.self.inside.sessions ≡ length c.self.inside.sessions.items = search rules in
    let all : c.len.result + 1 ≡ length (arc_value c.self.inside.job).sessions + 1 = omega arith in
    let st : State = record { newest = c.self.inside.newest; closed = c.self.inside.is_closed; sessions = c.self.inside.sessions.items } in
    let comes : Comes (arc_value c.self.inside.job) c.self.inside.journal.items st c.self.inside.latest c.self.inside.older.items c.self.inside.answers.items (vec_capacity c.self.inside.journal) (vec_capacity c.self.inside.answers) (vec_capacity c.self.inside.older) c.args.session c.args.step.number (is_some c.args.answers) c.give_back.new.latest c.give_back.new.rows.items c.give_back.result = record {
      newest = c.give_back.ensures.newest;
      elder = λ ne. let f = c.give_back.ensures.older ne in (f.0, (f.1.0, subst (λ n. IsBackAt c.self.inside.older.items c.give_back.new.rows.items (step_of (arc_value c.self.inside.job) c.args.step.number) n c.give_back.result f.1.0) all (subst (λ v. IsBackAt c.self.inside.older.items c.give_back.new.rows.items v (c.len.result + 1) c.give_back.result f.1.0) own f.1.1)));
    } in
    let freed = unpin_freed _ _ _ _ _ _ _ _ _ c.args.session c.args.step.number (is_some c.args.answers) c.give_back.new.latest c.give_back.new.rows.items c.give_back.result c.self.invariant can comes in
    subst (λ v. option_to_list c.give_back.result ≡ map (all_shares v.job) (freed_by (after v.job v.journal) (Unpin c.args.session c.args.step.number (is_some c.args.answers)))) c.self.view_is freed
