use Rattle.std.proofs.Common.{sym, ◌∙◌}
use Rattle.script_format.proofs.CutLemmas.{words_cut-some, words_cut-none, no_words}
use Rattle.script_format.proofs.cuts.next_word.Goals as goal

pub returns-in_err-start : goal.returns-in_err-start
returns-in_err-start c = rw c.from_residual.ensures (no_words _ (sym c.word_start.ensures ∙ c.in_err-start.was))

pub returns-in-Some : goal.returns-in-Some
returns-in-Some c =
    rw (c.behind.ensures, c.behind-text.ensures) (words_cut-some _ _ _ (sym c.word_start.ensures ∙ c.in_ok-start.was) (rw c.behind-text.ensures at (sym c.word_end.ensures ∙ c.in-Some.is)))

pub returns-in-None : goal.returns-in-None
returns-in-None c =
    rw c.behind-text.ensures (words_cut-none _ _ (sym c.word_start.ensures ∙ c.in_ok-start.was) (rw c.behind-text.ensures at (sym c.word_end.ensures ∙ c.in-None.is)))
