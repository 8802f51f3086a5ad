use Rattle.std.proofs.Common.{rules, arith, ◌≡◌, ◌+◌, ◌∷◌, ◌++◌, [], length, sym, subst, ap, ◌∙◌, vec_len, Some}
use Rattle.std.specs.Arc.{arc_value}
use Rattle.step_view.specs.Rows.{SharesView}
use Rattle.step_registry.specs.declared.event.Event.TheVariants.{Publish}
use Rattle.step_view.specs.Rows.{all_shares}
use Rattle.step_registry.specs.Core.{after, CanHappen}
use Rattle.step_registry.proofs.KeptSteps.{event_room, row_room, publish_kept}
use Rattle.step_registry.proofs.registry.Registry.publish.Goals as goal

pub push_reserved-requires : goal.push_reserved-requires
push_reserved-requires c = let can = subst (λ v. CanHappen v.job (after v.job v.journal) (Publish c.args.shares.step.number)) (sym c.self.view_is) c.requires.can in
    let room = event_room _ _ _ _ _ _ _ _ _ (Publish _) c.self.invariant can in let len : vec_len c.self.inside.journal ≡ length c.self.inside.journal.items = search rules in omega arith

pub keep_former-requires : goal.keep_former-requires
keep_former-requires c = record { room = row_room _ _ _ _ _ _ _ _ _ c.self.invariant }

pub invariant_of-self : goal.invariant_of-self
invariant_of-self c =
    let view = c.self.view_is in let former = c.replace-former.ensures.value in
    let can = subst (λ v. CanHappen v.job (after v.job v.journal) (Publish c.args.shares.step.number)) (sym view) c.requires.can in
    let number : c.number-number.result ≡ c.args.shares.step.number = c.number-number.ensures.number ∙ ap (λ s. s.number) c.step.ensures in
    let own : c.args.shares ≡ all_shares (arc_value c.self.inside.job) c.args.shares.step.number = c.requires.all ∙ ap (λ v. all_shares v.job c.args.shares.step.number) (sym view) in
    let all : c.count-all.result ≡ length (arc_value c.self.inside.job).sessions + 1 = c.count-all.ensures.count ∙ ap (λ (r : SharesView). r.count) own in
    rw (c.push_reserved.ensures.items, c.push_reserved.ensures.capacity, c.keep_former.ensures.capacity)
    (publish_kept _ _ _ _ _ _ _ _ _ c.number-number.result c.replace-former.new.dest c.keep_former.new.rows.items c.keep_former.result c.self.invariant
    (subst (λ k. CanHappen (arc_value c.self.inside.job) (after (arc_value c.self.inside.job) c.self.inside.journal.items) (Publish k)) (sym number) can)
    (c.replace-former.ensures.after ∙ (own ∙ ap (all_shares (arc_value c.self.inside.job)) (sym number)))
    (λ e. let f = c.keep_former.ensures.full (ap (λ (r : SharesView). r.count) former ∙ (e ∙ sym all)) in (f.0, f.1 ∙ ap Some former))
    (λ e. let f = c.keep_former.ensures.partly (let n = ap (λ (r : SharesView). r.count) former in omega arith) in (f.0 ∙ ap (λ r. c.self.inside.older.items ++ r ∷ []) former, f.1)))
