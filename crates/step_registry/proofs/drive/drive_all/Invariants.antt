use Rattle.std.proofs.Common.{◌≡◌, take}
use Rattle.step_registry.specs.Slots.{IsReady}
use Rattle.step_registry.proofs.drive.drive_all.Given as goal

abbrev pub invariant-loop-event : goal.invariant-loop-event
invariant-loop-event g l = (l.place ≡ l.event-index) × (l.registry.job ≡ l.initial.registry.job) × (l.registry.journal ≡ take l.event-index l.events) × IsReady l.registry (g.W.Work.job l.work) (g.W.Work.next l.work) l.slots.items
