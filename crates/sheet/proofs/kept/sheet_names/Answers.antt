use Rattle.std.proofs.Common.{◌+◌, ◌*◌, ◌==◌, drop, refl, ap, ◌∙◌, arith, rules, tests}
use Rattle.std.proofs.lemmas.Iterator.{YieldsList-from_range}
use Rattle.std.proofs.lemmas.Iterator.Search.{any_from_yields_List}
use Rattle.sheet.specs.Decoded.{members_of}
use Rattle.sheet.specs.Octets.{quad_at}
use Rattle.sheet.specs.Rules.{names}
use Rattle.sheet.proofs.Reading.{members_from, names_from}
use Rattle.sheet.proofs.kept.sheet_names.Goals as goal

pub returns : goal.returns
returns c =
    let bytes = c.args.bytes.now in
    let user = c.args.user.number in
    let n = c.sheet_count.result in
    any_from_yields_List (λ i. quad_at bytes (8 + 5 * i) == user) _ _ _ c.any.ensures.ran (YieldsList-from_range 0 n n refl (omega arith)) (λ x b q k. search (rules, tests))
    ∙ (names_from bytes user 0 n ∙ (ap (names user) (members_from bytes 0 n) ∙ ap (λ m. names user (members_of m (drop 8 bytes))) c.sheet_count.ensures))
