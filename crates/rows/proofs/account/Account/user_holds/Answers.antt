use Rattle.std.proofs.Common.{◌∙◌, rules}
use Rattle.std.proofs.lemmas.Iterator.{YieldsList-from_slice}
use Rattle.std.proofs.lemmas.Iterator.Search.{any_from_yields_List}
use Rattle.rows.specs.Entries.{holds}
use Rattle.rows.specs.Standings.{used}
use Rattle.rows.proofs.Radios.{any_map}
use Rattle.rows.proofs.account.Account.user_holds.Goals as goal

pub returns : goal.returns
returns c =
    any_from_yields_List (λ row. holds c.args.time c.args.group.number (used row)) _ _ _ c.any.ensures.ran (YieldsList-from_slice c.args.self.now.rows (search rules)) (λ x b q k. search rules)
    ∙ any_map (holds c.args.time c.args.group.number) used c.args.self.now.rows
