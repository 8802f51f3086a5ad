use Rattle.std.proofs.Common.{◌≡◌, ℕ, ◌+◌, ◌<◌, ◌≤◌, length, get_or, take, Vec, Global, sym, ap, subst, ◌∙◌, arith}
use Rattle.std.proofs.lemmas.List.{take_all}
use Rattle.mesh_base.specs.Numbers.{IsListOf}
use Rattle.cell_box.specs.Often.{times}
use Rattle.cell_box.proofs.Runs.{list_push, list_keep}
use Rattle.cell_box.proofs.often.often.Goals as goal
use Rattle.cell_box.proofs.often.often.Goals.{then-run-least+in_ok-push, else-run-least}

pub loop-k-preserved : goal.loop-k-preserved
loop-k-preserved c =
    let xs = c.args.numbers.now in
    let k = c.loop-k.k in
    let least = c.args.least in
    let old = c.loop-k.found.items in
    record {
      run = λ j e. let i : k ≡ j = omega arith in c.run_at-run.ensures ∙ ap (λ m. times (take (k + 1) xs) (get_or xs m 0)) i;
      list = elim c.if-run-least.branch [
        | then-run-least+in_ok-push w ↦
            subst (IsListOf (λ i. least ≤ times (take (k + 1) xs) i)) (sym (ap (λ (l : Vec ℕ Global). l.items) w.found-is ∙ w.in_ok-push.ensures.items))
            (list_push xs k least c.requires.sorted c.loop-k-test.true c.requires.some old c.loop-k.invariant.list (sym c.run_at-run.ensures ∙ w.if-run-least.true))
        | else-run-least w ↦
            subst (IsListOf (λ i. least ≤ times (take (k + 1) xs) i)) (sym (ap (λ (l : Vec ℕ Global). l.items) w.found-is))
            (list_keep xs k least c.requires.sorted c.loop-k-test.true c.requires.some old c.loop-k.invariant.list (λ q. w.if-run-least.false (c.run_at-run.ensures ∙ q)))
      ];
    }

pub returns : goal.returns
returns c =
    subst (λ l. IsListOf (λ i. c.args.least ≤ times l i) c.loop-k.found.items) (take_all c.loop-k.k c.args.numbers.now (omega arith)) c.loop-k.invariant.list
