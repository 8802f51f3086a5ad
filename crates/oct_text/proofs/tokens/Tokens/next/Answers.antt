use Rattle.std.proofs.Common.{◌≡◌, ℕ, ◌+◌, List, drop, ap, ◌∙◌, sym, refl}
use Rattle.std.proofs.lemmas.List.{drop-drop}
use Rattle.oct_text.specs.Rest.{Rest, behind}
use Rattle.oct_text.proofs.TokenLemmas.{is_taken}
use Rattle.oct_text.specs.contracts.tokens.Tokens.{the_view}
use Rattle.oct_text.proofs.tokens.Tokens.next.Goals as goal

pub returns-then-is_whole : goal.returns-then-is_whole
returns-then-is_whole c =
    let r-is = c.self.view_is ∙ c.pass_blanks.ensures in
    let len-is = rw c.rest-rest.ensures at c.word_end-len.ensures.exact in
    let whole = rw c.rest-rest.ensures at (sym c.is_whole.ensures ∙ c.if-is_whole.true) in
    let left : Rest = record { place = c.self.inside.place + c.word_end-len.result; bytes = drop (c.self.inside.at + c.word_end-len.result) c.self.inside.kept.items; ended = c.self.inside.ended } in
    let left-is : left ≡ behind c.word_end-len.result (the_view c.self.inside) =
    ap (λ (bytes : List ℕ). record { place = c.self.inside.place + c.word_end-len.result; bytes = bytes; ended = c.self.inside.ended }) (sym (drop-drop c.word_end-len.result c.self.inside.at c.self.inside.kept.items)) in
    let t = is_taken c.args.self.now (the_view c.self.inside) c.word_end-len.result c.part.result.now left r-is len-is whole c.part.ensures left-is in
    ((refl, (λ _. tt), t.0), record { found = t.1; after = tt })
