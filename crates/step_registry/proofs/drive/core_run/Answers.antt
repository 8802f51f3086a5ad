use Rattle.std.proofs.Common.{arith, ◌≡◌, length, sym, subst, ap, ◌∙◌}
use Rattle.std.specs.Prelude.{replicate}
use Rattle.run_script.specs.Jobs.{JobView}
use Rattle.step_registry.specs.Core.{after, IsLegal}
use Rattle.step_registry.specs.Runs.{pins_of, CanGiveUp}
use Rattle.step_registry.specs.Slots.{no_slot, pins_in}
use Rattle.step_registry.proofs.Drives.{ready_first, slots_long, empty-pins, pins-slots, give_all}
use Rattle.step_registry.proofs.drive.core_run.Goals as goal

pub drive_all-stop-requires-clause-ready : goal.drive_all-stop-requires-clause-ready
drive_all-stop-requires-clause-ready g c =
    let count : c.sessions-count.result ≡ length c.args.registry.job.sessions = c.sessions-count.ensures.sessions ∙ ap (λ (j : JobView). length j.sessions) (c.deref.ensures ∙ c.job.ensures) in
    ready_first c.args.registry _ _ c.in-Ok.slots.items (subst (IsLegal c.args.registry.job) (sym c.requires.empty) tt) c.requires.empty c.requires.job c.requires.next (c.in-Ok.ensures.0 ∙ ap (λ n. replicate n no_slot) count)

pub collect-requires-clause-room : goal.collect-requires-clause-room
collect-requires-clause-room g c =
    let count : c.sessions-count.result ≡ length c.args.registry.job.sessions = c.sessions-count.ensures.sessions ∙ ap (λ (j : JobView). length j.sessions) (c.deref.ensures ∙ c.job.ensures) in
    let room = c.in-Ok.ensures.2 in let same = c.drive_all-stop.ensures.job in
    let long = slots_long c.drive_all-stop.new.registry (g.W.Work.job c.args.work.now) (g.W.Work.next c.args.work.now) c.drive_all-stop.new.slots.items c.drive_all-stop.ensures.legal c.drive_all-stop.ensures.slots in
    let kept : length c.drive_all-stop.new.registry.job.sessions ≡ length c.args.registry.job.sessions = ap (λ (j : JobView). length j.sessions) same in omega arith

pub returns-in-Err-clause-pins : goal.returns-in-Err-clause-pins
returns-in-Err-clause-pins g c = c.of.ensures ∙ (c.new.ensures.items ∙ (sym (empty-pins c.args.registry.job 0 (length c.args.registry.job.sessions)) ∙ ap (λ h. pins_of c.args.registry.job (after c.args.registry.job h)) (sym c.requires.empty)))

pub returns-in-Ok-clause-can_give_up : goal.returns-in-Ok-clause-can_give_up
returns-in-Ok-clause-can_give_up g c =
    let end = c.drive_all-stop.new.registry in
    subst (CanGiveUp end.job (after end.job end.journal)) (sym (c.collect.ensures ∙ (ap pins_in c.drive_all-stop.ensures.slots ∙ pins-slots end.job 0 (after end.job end.journal).sessions))) (give_all end.job end.journal c.drive_all-stop.ensures.legal)

pub returns-in-Ok-clause-pins : goal.returns-in-Ok-clause-pins
returns-in-Ok-clause-pins g c =
    let end = c.drive_all-stop.new.registry in
    c.collect.ensures ∙ (ap pins_in c.drive_all-stop.ensures.slots ∙ pins-slots end.job 0 (after end.job end.journal).sessions)
