use Rattle.std.proofs.Common.{eqb, length, Contains, ◌∙◌, ap, sym, subst}
use Rattle.mesh_base.specs.Mesh.{surface}
use Rattle.mesh_base.proofs.Ascending.{In-from_Contains, Contains-from_In}
use Rattle.mesh_base.proofs.AnswerLaws.{from_probed, arrived_in}
use Rattle.mesh_base.proofs.NumberLaws.{surface_vertices}
use Rattle.mesh_base.proofs.WalkLaws.{nearest_In}
use Rattle.box_query.proofs.Arrivals.{arrived_at}
use Rattle.box_query.proofs.by_route.by_cases.Goals as goal

pub crawl-requires-clause-seeds : goal.crawl-requires-clause-seeds
crawl-requires-clause-seeds g c s m =
    let mesh = c.args.step.now.mesh in
    let area = c.args.area.now in
    from_probed mesh area s (In-from_Contains _ s (subst (λ l. Contains l s) (c.items-then-not-is_empty.ensures ∙ c.in_ok-inside.ensures.inside) m))

pub walk-requires : goal.walk-requires
walk-requires g c =
    let mesh = c.args.step.now.mesh in
    let area = c.args.area.now in
    let v = c.in-Some.from in
    record { from = surface_vertices mesh v (Contains-from_In _ v (nearest_In mesh area (surface mesh) v (sym c.in_ok-inside.ensures.nearest ∙ c.in-Some.is))) }

pub crawl-requires-in-Inside-clause-seeds : goal.crawl-requires-in-Inside-clause-seeds
crawl-requires-in-Inside-clause-seeds g c s m =
    let mesh = c.args.step.now.mesh in
    let area = c.args.area.now in
    let none = sym (ap (λ l. eqb (length l) 0) (c.items.ensures ∙ c.in_ok-inside.ensures.inside)) ∙ sym c.is_empty.ensures ∙ c.if-not-is_empty.false in
    let a = arrived_at mesh area c.in-Some.from c.in-Inside.vertex none (sym c.in_ok-inside.ensures.nearest ∙ c.in-Some.is) c.in-Inside.ensures.end.0 c.in-Inside.ensures.end.1 in
    arrived_in mesh area s (subst (λ l. Contains l s) (sym a) m)
