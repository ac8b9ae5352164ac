use Rattle.std.proofs.Common.{◌≡◌, ◌≤◌, true, length, ap, ◌∙◌, arith}
use Rattle.std.proofs.lemmas.Bool.Decides.{nat_tests}
use Rattle.std.proofs.lemmas.List.{length-take-le}
use Rattle.sheet.specs.Rules.{lawful}
use Rattle.sheet.proofs.Bytes.{written}
use Rattle.sheet.proofs.writer.write.Goals as goal

pub returns : goal.returns
returns c =
    let d = c.args.document.now in
    let ok : lawful c.args.group.number d ≡ true = cc in
    let le : d.count ≤ 64 = grind (arith, nat_tests, ok) in
    let n = ap length c.listed.ensures ∙ length-take-le d.count d.members (omega arith) in (
      grind (arith, nat_tests, ok),
      written c.args.group.number d c.listed.result.now _ _ _ _ _ _ c.listed.ensures n le c.put_head.ensures c.put_members.ensures c.put_zeros.ensures
          c.sum-total.ensures c.to_be_bytes.ensures c.put.ensures (omega arith),
    )
