use Rattle.std.proofs.Common.{◌≡◌, Option, sym, subst, rules}
use Rattle.std.specs.Option.{option_map}
use Rattle.std.proofs.lemmas.Iterator.Consumers.{YieldsList-from_chain, reduce_from_yields_List}
use Rattle.std.proofs.lemmas.Iterator.Adapters.{YieldsList-from_once}
use Rattle.commission.specs.declared.difference.Difference.{Difference}
use Rattle.commission.specs.declared.difference.Side.TheVariants.{RadioList, Sheets}
use Rattle.commission.specs.Users.{LowestDifference}
use Rattle.commission.proofs.Sides.{on_side, first_is_lowest}
use Rattle.commission.proofs.comparing.next_difference.Goals as goal

pub returns : goal.returns
returns g c =
    let s = c.args.serving.now in
    let held = g.C.Roster.held c.args.roster.now in
    let missing = option_map (on_side RadioList) c.lowest_missing.result in
    let extra = option_map (on_side Sheets) c.lowest_extra.result in
    let a : c.map-missing.result ≡ missing = search rules in
    let b : c.map-extra.result ≡ extra = search rules in
    let found = reduce_from_yields_List _ _ c.min.result c.min.ensures.ran
    (YieldsList-from_chain (YieldsList-from_once missing (search rules)) (YieldsList-from_once extra (search rules)) c.chain.ensures.first_done c.chain.ensures.second_done) in
    let P : Option Difference → Type 0 = LowestDifference s held c.args.after in
    subst P (sym found) (first_is_lowest s held c.args.after c.lowest_missing.result c.lowest_extra.result c.lowest_missing.ensures c.lowest_extra.ensures _)
