use Rattle.std.proofs.Common.{◌==◌, rules, tests}
use Rattle.std.proofs.lemmas.Iterator.{YieldsList-from_slice}
use Rattle.std.proofs.lemmas.Iterator.Search.{position_from_yields_List}
use Rattle.roster.specs.Filing.{found_place}
use Rattle.roster.proofs.pages.find.Goals as goal

pub returns : goal.returns
returns g c =
    let says = g.P.Page.says in
    let ps = c.args.pages.now in
    let group = c.args.group.number in
    found_place says group ps c.position.result
    (position_from_yields_List (λ p. (says p).group == group) _ _ c.position.result c.position.ensures.ran (YieldsList-from_slice ps cc) (λ x b q k. search (rules, tests)))
