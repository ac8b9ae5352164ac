use Rattle.std.proofs.Common.{Bool, cond, ◌++◌, Some, None, Option, ap, ◌∙◌, rules}
use Rattle.std.specs.List.{filter_map}
use Rattle.mcptt.specs.declared.identity.GroupId.{GroupId}
use Rattle.rows.specs.Lists.{listed}
use Rattle.change.specs.Keeping.{is_kept}
use Rattle.change.proofs.Loops.{filter_map_some}
use Rattle.change.proofs.keeping.Choice.kept.Goals as goal

pub returns-clause-listed : goal.returns-clause-listed
returns-clause-listed g c =
    let choice = c.args.self.now in
    let keeps : GroupId → Bool = is_kept (g.P.Preference.before choice.preference.now choice.user.number) (listed choice.others.now) choice.limit choice.wanted.now in
    let made : GroupId → Option GroupId = λ w. cond (keeps w) (Some w) None in
    c.add_each.ensures.items made (λ x r k. search rules)
    ∙ ap (λ z. z ++ filter_map made choice.wanted.now) c.new-kept.ensures.listed
    ∙ filter_map_some keeps choice.wanted.now
