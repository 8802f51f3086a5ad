use Rattle.std.proofs.Common.{Contains, ◌∙◌, subst}
use Rattle.mesh_base.proofs.Ascending.{In-from_Contains}
use Rattle.mesh_base.proofs.AnswerLaws.{from_probed}
use Rattle.box_query.proofs.tests.scanned_and_crawled.Goals as goal

pub crawl-requires-clause-seeds : goal.crawl-requires-clause-seeds
crawl-requires-clause-seeds g c s m =
    from_probed c.args.step.now.mesh c.args.area.now s (In-from_Contains _ s (subst (λ l. Contains l s) (c.items.ensures ∙ c.in_ok-seeds.ensures.inside) m))

pub crawl-requires-2-clause-seeds : goal.crawl-requires-2-clause-seeds
crawl-requires-2-clause-seeds g c s m =
    from_probed c.args.step.now.mesh c.args.area.now s (In-from_Contains _ s (subst (λ l. Contains l s) (c.items-2.ensures ∙ c.in_ok-seeds.ensures.inside) m))
