use Rattle.std.proofs.Common.{◌≡◌, length, sym, ap, ◌∙◌, subst, arith}
use Rattle.std.specs.Prelude.{IfOk}
use Rattle.std.proofs.lemmas.List.Concat.{length-flat_map}
use Rattle.box_watch.specs.Own.{own_answers, watches_since}
use Rattle.box_watch.specs.Priors.{priors_of}
use Rattle.box_watch.specs.Watches.{boxes_in, boxes_of, watches_by}
use Rattle.box_watch.proofs.Since.{priors-length, before-below, since-is}
use Rattle.box_watch.proofs.session.list_session.Goals as goal

pub list_priors-requires : goal.list_priors-requires
list_priors-requires c =
    let turns = c.turns.result.now in
    let len = ap length (c.deref.ensures.value ∙ c.in_ok-boxes.ensures) in let flat = length-flat_map (λ t. t.areas) turns in let few = c.turns.ensures.few_boxes in
    omega arith

pub list_since-requires : goal.list_since-requires
list_since-requires c =
    let boxes = c.deref.result.now in let priors = c.deref-3.result.now in let own = own_answers c.args.session c.args.answers.now in
    let turns = c.turns.result.now in
    let is : boxes ≡ boxes_of c.args.job.now c.args.session = c.deref.ensures.value ∙ (c.in_ok-boxes.ensures ∙ ap boxes_in c.turns.ensures.turns) in
    let each : priors ≡ priors_of boxes = c.deref-3.ensures.value ∙ c.in_ok-priors.ensures in
    let same : length boxes ≡ length own = ap length is ∙ sym c.requires.answered in
    let all = priors-length boxes priors each in
    let len = ap length (c.deref.ensures.value ∙ c.in_ok-boxes.ensures) in let flat = length-flat_map (λ t. t.areas) turns in let few = c.turns.ensures.few_boxes in
    record {
      places = c.deref-2.ensures.value ∙ c.in_ok-places.ensures;
      ascending = c.requires.ascending;
      few = omega arith;
      answered = omega arith;
      before = λ q lt. before-below boxes priors q (length own) each same lt;
    }

pub returns : goal.returns
returns c =
    let boxes = c.deref.result.now in let priors = c.deref-3.result.now in let own = own_answers c.args.session c.args.answers.now in
    let is : boxes ≡ boxes_of c.args.job.now c.args.session = c.deref.ensures.value ∙ (c.in_ok-boxes.ensures ∙ ap boxes_in c.turns.ensures.turns) in
    let each : priors ≡ priors_of boxes = c.deref-3.ensures.value ∙ c.in_ok-priors.ensures in
    let whole : watches_since c.args.session own priors ≡ watches_by c.args.session (boxes_of c.args.job.now c.args.session) own =
    since-is c.args.session boxes own priors each ∙ ap (λ b. watches_by c.args.session b own) is in
    subst (λ t. IfOk c.list_since.result (λ list. list.items ≡ t)) whole c.list_since.ensures
