use Rattle.std.proofs.Common.{◌≡◌, ℕ, ◌+◌, ◌-◌, List, length, get_or, take, drop, sym, ap, ◌∙◌, arith}
use Rattle.std.proofs.lemmas.List.FromFn.{length-map-range_with_len}
use Rattle.cell_box.specs.Rows.{rows_between}
use Rattle.cell_box.proofs.incidence.Incidence.points.Goals as goal

count : (starts numbers : List ℕ) (rows : List (List ℕ)) → rows_between starts numbers ≡ rows → length starts - 1 ≡ length rows
count starts numbers rows e =
    sym (length-map-range_with_len (λ v. take (get_or starts (v + 1) 0 - get_or starts v 0) (drop (get_or starts v 0) numbers)) 0 (length starts - 1)) ∙ ap length e

pub returns : goal.returns
returns c =
    let n = count c.self.inside.starts.items c.self.inside.numbers.items c.args.self.now c.self.view_is in
    let l = c.len.ensures in
    omega arith
