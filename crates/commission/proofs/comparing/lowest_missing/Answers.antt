use Rattle.std.proofs.Common.{ℕ, rules, tests}
use Rattle.std.proofs.lemmas.Iterator.{YieldsList-from_map, first_from_find}
use Rattle.std.proofs.lemmas.Iterator.Consumers.{YieldsList-at}
use Rattle.commission.specs.declared.difference.Side.TheVariants.{RadioList}
use Rattle.commission.specs.Users.{OnlyOn}
use Rattle.commission.proofs.Places.{Hit, Miss, YieldsList-from_inclusive, first_is_lowest}
use Rattle.commission.proofs.comparing.lowest_missing.Goals as goal

pub returns : goal.returns
returns g c =
    let s = c.args.serving.now in
    let held = g.C.Roster.held c.args.roster.now in
    let after = c.args.after in
    let P : ℕ → Type 0 = OnlyOn RadioList s held in
    first_is_lowest P after 64 (λ user p. search (rules, tests)) c.find.result
    (first_from_find _ _ c.find.result (Hit P after) (Miss P after) c.find.ensures.ran
    (YieldsList-from_map _ (λ n. record { number = n }) (YieldsList-at c.map.ensures.source (YieldsList-from_inclusive 1 64 c.new.ensures.start c.new.ensures.end c.new.ensures.exhausted)) c.map.ensures.closure (λ x r q k. search (rules, tests)))
    (λ x q k. search (rules, tests)) (λ x q k. search (rules, tests)))
