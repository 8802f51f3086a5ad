use Rattle.std.proofs.Common.{◌≡◌, vec_len, rules}
use Rattle.std.specs.Prelude.{decimal}
use Rattle.vtk_legacy.proofs.WrittenLists.{four_words, same_on_ok, kept-on, kept-appended}
use Rattle.vtk_legacy.proofs.writer.put_cell.Goals as goal

pub returns-clause-ok : goal.returns-clause-ok
returns-clause-ok c =
    let cell = c.args.cell.now in
    let w : c.format.result.now ≡ decimal cell.0 = search rules in
    let x : c.format-2.result.now ≡ decimal cell.1 = search rules in
    let y : c.format-3.result.now ≡ decimal cell.2 = search rules in
    let z : c.format-4.result.now ≡ decimal cell.3 = search rules in
    let all = four_words c.args.out.now.items c.extend_from_slice.new.self.items c.put_word.new.out.items c.put_word-2.new.out.items c.put_word-3.new.out.items _ _ _ _ _ _ _ _ w x y z c.in_ok-extend_from_slice.ensures.items c.in_ok-put_word.ensures.ok c.in_ok-put_word-2.ensures.ok c.in_ok-put_word-3.ensures.ok in
    same_on_ok c.put_word-4.result _ _ _ all c.put_word-4.ensures.ok

pub returns-clause-kept : goal.returns-clause-kept
returns-clause-kept c =
    let old = c.args.out.now in
    let a = c.extend_from_slice.new.self in
    let b = c.put_word.new.out in
    let d = c.put_word-2.new.out in
    let e = c.put_word-3.new.out in
    let n = vec_len old in
    let k = kept-appended old.items a.items _ n old.ok.0 c.in_ok-extend_from_slice.ensures.items in
    let l = kept-on old.items a.items b.items n (vec_len a) old.ok.0 a.ok.0 k c.in_ok-put_word.ensures.kept in
    let m = kept-on old.items b.items d.items n (vec_len b) old.ok.0 b.ok.0 l c.in_ok-put_word-2.ensures.kept in
    let o = kept-on old.items d.items e.items n (vec_len d) old.ok.0 d.ok.0 m c.in_ok-put_word-3.ensures.kept in
    kept-on old.items e.items c.put_word-4.new.out.items n (vec_len e) old.ok.0 e.ok.0 o c.put_word-4.ensures.kept
