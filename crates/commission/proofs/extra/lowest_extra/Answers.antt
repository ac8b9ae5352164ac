use Rattle.std.proofs.Common.{◌≡◌, Option, List, length, sym, subst, ap, ◌∙◌, refl, rules, tests}
use Rattle.std.proofs.lemmas.List.{length-map}
use Rattle.std.proofs.lemmas.Iterator.Consumers.{YieldsList-from_filter, YieldsList-at, reduce_from_yields_List}
use Rattle.std.proofs.lemmas.Iterator.Adapters.{YieldsList-from_flat_map}
use Rattle.std.specs.Iterator.Adapters.{filter_map_source, filter_map_callee}
use Rattle.std.specs.Ordering.{nat_cmp}
use Rattle.std.specs.declared.cmp.Ordering.{Ordering}
use Rattle.std.proofs.lemmas.Cmp.{ranked}
use Rattle.mcptt.specs.declared.identity.GroupId.{GroupId}
use Rattle.mcptt.specs.declared.identity.McpttId.{McpttId}
use Rattle.sheet.specs.declared.document.Member.{Member}
use Rattle.roster.specs.Meaning.{members_in, users_in, as_groups}
use Rattle.commission.specs.declared.difference.Side.TheVariants.{Sheets}
use Rattle.commission.specs.Users.{OnlyOn, Lowest}
use Rattle.commission.proofs.Places.{YieldsList-from_places}
use Rattle.commission.proofs.Lowering.{is_extra, least_is_lowest}
use Rattle.commission.proofs.extra.lowest_extra.Goals as goal

pub returns : goal.returns
returns g c =
    let s = c.args.serving.now in
    let held = g.C.Roster.held c.args.roster.now in
    let carried = g.C.Roster.carried c.args.roster.now in
    let after = c.args.after in
    let groups = as_groups carried in
    let each : GroupId → List McpttId = λ group. users_in (members_in (held group.number)) in
    let long = length-map {B = GroupId} carried (λ n. record { number = n }) in
    let found = reduce_from_yields_List _ _ c.min.result c.min.ensures.ran
    (YieldsList-from_filter _ (is_extra s after)
    (YieldsList-at c.filter.ensures.source
    (YieldsList-from_flat_map {v = λ group. group} _ _ _ (λ user. user) each _
    (λ x u q k.
    let members = members_in (held x.number) in
    let places = length-map members (λ (m : Member). m.user) in
    let source : filter_map_source u ≡ record { start = 0; end = length members } = search rules in
    let closure : filter_map_callee u ≡ (c.args.roster, x) = search rules in (
      search rules,
      (λ j e. YieldsList-from_places _ (each x) (length members) (ap filter_map_source e ∙ source) (sym places) (ap filter_map_callee e ∙ closure) (λ place r p h. search (rules, tests))),
    ))
    (YieldsList-at c.flat_map.ensures.source (YieldsList-from_places _ groups c.carried_count.result c.filter_map.ensures.source (c.carried_count.ensures ∙ sym long) c.filter_map.ensures.closure (λ place r q k. search (rules, tests))))
    c.flat_map.ensures.closure c.flat_map.ensures.front c.flat_map.ensures.back c.flat_map.ensures.done))
    c.filter.ensures.closure (λ x b q k. search (rules, tests))) in
    let cmp : McpttId → McpttId → Ordering = λ a b. nat_cmp a.number b.number in
    let P : Option McpttId → Type 0 = Lowest (OnlyOn Sheets s held) after in
    subst P (sym found) (least_is_lowest cmp (λ a b. ranked a.number b.number _ refl) s held after carried (g.met.C.Roster.carries c.args.roster.now))
