use Rattle.std.proofs.Common.{Bool, Decides, sym, subst, ◌∙◌, rules, tests}
use Rattle.std.proofs.lemmas.List.{length-map}
use Rattle.std.proofs.lemmas.Iterator.Search.{any_from_yields_List}
use Rattle.mcptt.specs.declared.identity.GroupId.{GroupId}
use Rattle.sheet.specs.Rules.{names}
use Rattle.roster.specs.Meaning.{members_in, as_groups}
use Rattle.commission.specs.Users.{Named}
use Rattle.commission.proofs.Naming.{named_decides}
use Rattle.commission.proofs.Places.{YieldsList-from_places}
use Rattle.commission.proofs.named.is_named.Goals as goal

pub returns : goal.returns
returns g c =
    let held = g.C.Roster.held c.args.roster.now in
    let carried = g.C.Roster.carried c.args.roster.now in
    let user = c.args.user.number in
    let groups = as_groups carried in
    let long = length-map {B = GroupId} carried (λ n. record { number = n }) in
    let names_user : GroupId → Bool = λ group. names user (members_in (held group.number)) in
    let found = any_from_yields_List names_user _ _ c.any.result c.any.ensures.ran
    (YieldsList-from_places _ groups c.carried_count.result c.filter_map.ensures.source (c.carried_count.ensures ∙ sym long) c.filter_map.ensures.closure (λ place r q k. search (rules, tests)))
    (λ group b q k. search (rules, tests)) in
    let P : Bool → Type 0 = λ b. Decides b (Named held user) in
    subst P (sym found) (named_decides held carried user (g.met.C.Roster.carries c.args.roster.now))
