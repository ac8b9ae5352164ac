use Rattle.std.proofs.Common.{◌∙◌, rules}
use Rattle.notice.specs.Outcomes.{awaits, stays}
use Rattle.rows.specs.Standings.{used}
use Rattle.notice.proofs.Removing.{count_others}
use Rattle.notice.proofs.outcomes.strike_row.Goals as goal

pub returns-clause-removed : goal.returns-clause-removed
returns-clause-removed c =
    count_others (awaits c.args.serial) (used c.args.row.now) _ _ c.len-before.ensures.len
    (c.len.ensures.count ∙ c.retain.ensures.count (stays c.args.serial) (λ x r k. search rules))
