use Rattle.std.proofs.Common.{rules, arith, ◌≡◌, ◌<◌, length, sym, subst, ap, ◌∙◌, vec_len}
use Rattle.step_registry.specs.Core.{after, session_of, fresh}
use Rattle.step_registry.proofs.KeptSteps.{session_there, get-any}
use Rattle.step_registry.proofs.registry.Registry.done.Goals as goal

pub index-requires : goal.index-requires
index-requires c = let lt = session_there _ _ _ _ _ _ _ _ _ c.args.s c.self.invariant (subst (λ v. c.args.s < length v.job.sessions) (sym c.self.view_is) c.requires) in let len : vec_len c.self.inside.sessions ≡ length c.self.inside.sessions.items = search rules in omega arith

pub returns : goal.returns
returns c = let lt = session_there _ _ _ _ _ _ _ _ _ c.args.s c.self.invariant (subst (λ v. c.args.s < length v.job.sessions) (sym c.self.view_is) c.requires) in
    ap (λ me. me.done) (c.index.ensures ∙ (get-any c.self.inside.sessions.items c.args.s c.index.result.now fresh lt ∙ ap (λ st. session_of st c.args.s) c.self.invariant.state_is)) ∙ ap (λ v. (session_of (after v.job v.journal) c.args.s).done) c.self.view_is
