use Rattle.std.proofs.Common.{◌≡◌, rules}
use Rattle.std.specs.Fmt.{signed_decimal}
use Rattle.vtk_legacy.proofs.WrittenLists.{three_words, same_on_ok}
use Rattle.vtk_legacy.proofs.writer.put_point.Goals as goal

pub returns-clause-ok : goal.returns-clause-ok
returns-clause-ok c =
    let p = c.args.point.now in
    let x : c.format.result.now ≡ signed_decimal p.0 = search rules in
    let y : c.format-2.result.now ≡ signed_decimal p.1 = search rules in
    let z : c.format-3.result.now ≡ signed_decimal p.2 = search rules in
    let all = three_words c.args.out.now.items c.put_word.new.out.items c.put_word-2.new.out.items _ _ _ _ _ _ x y z c.in_ok-put_word.ensures.ok c.in_ok-put_word-2.ensures.ok in
    same_on_ok c.put_word-3.result _ _ _ all c.put_word-3.ensures.ok
