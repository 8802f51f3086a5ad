use Rattle.std.proofs.Common.{◌+◌, ◌∙◌, ap, subst, drop, refl, w32}
use Rattle.std.proofs.lemmas.Int.{to_z-of_z}
use Rattle.std.proofs.lemmas.List.{drop-drop}
use Rattle.oct_text.specs.Ahead.{HasWhole, TakesWhole}
use Rattle.oct_text.specs.Rest.{behind}
use Rattle.oct_text.proofs.AheadLemmas.{whole_next}
use Rattle.oct_text.proofs.RangeLemmas.{whole_fits}
use Rattle.oct_text.proofs.tokens.Tokens.point_ahead.Goals as goal

pub returns-clause-exact : goal.returns-clause-exact
returns-clause-exact c =
    let r = c.args.self.now in
    let x = c.in_ok-x.x in
    let y = c.in_ok-y.y in
    let z = c.in_ok-z.z in
    let behind_x = c.behind-behind_x.ensures.bytes ∙ ap (drop x.len) c.rest-rest.ensures in
    let behind_y = c.behind-behind_y.ensures.bytes ∙ ap (drop y.len) behind_x ∙ drop-drop y.len x.len r.bytes in
    let takes_x : TakesWhole r x.value (behind x.len r) = subst (λ bs. HasWhole bs x.value x.len) c.rest-rest.ensures c.in_ok-x.ensures.exact r.place r.ended in
    let takes_y = whole_next r c.behind-behind_x.result.now x.len y.value y.len behind_x c.in_ok-y.ensures.exact in
    let takes_z = whole_next r c.behind-behind_y.result.now (x.len + y.len) z.value z.len behind_y c.in_ok-z.ensures.exact in
    rw (to_z-of_z w32 x.value (whole_fits takes_x.token.text x.value takes_x.value), to_z-of_z w32 y.value (whole_fits takes_y.token.text y.value takes_y.value), to_z-of_z w32 z.value (whole_fits takes_z.token.text z.value takes_z.value))
    (behind x.len r, takes_x, (behind (x.len + y.len) r, takes_y, (behind (x.len + y.len + z.len) r, takes_z, refl)))
