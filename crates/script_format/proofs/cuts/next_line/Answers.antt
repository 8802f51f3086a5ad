use Rattle.std.proofs.Common.{sym, ◌∙◌, ◌≡◌, take, rules}
use Rattle.oct_text.specs.Line.{without_cr}
use Rattle.script_format.proofs.CutLemmas.{lines_cut-some, lines_cut-none, no_lines}
use Rattle.script_format.proofs.cuts.next_line.Goals as goal

pub returns-in-Some : goal.returns-in-Some
returns-in-Some c =
    let front : c.chomped.result.now ≡ without_cr (take c.in-Some.end c.args.text.now) = search (rules, c.chomped.ensures) in
    rw c.behind.ensures (lines_cut-some _ _ _ (sym c.line_end.ensures ∙ c.in-Some.is) front)

pub returns-then-is_empty : goal.returns-then-is_empty
returns-then-is_empty c = no_lines _ (sym c.is_empty.ensures ∙ c.if-is_empty.true)

pub returns : goal.returns
returns c = lines_cut-none _ _ (sym c.line_end.ensures ∙ c.in_default.is) (sym c.is_empty.ensures ∙ c.if-is_empty.false) c.chomped-2.ensures
