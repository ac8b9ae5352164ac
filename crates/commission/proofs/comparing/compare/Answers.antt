use Rattle.std.proofs.Common.{rules}
use Rattle.commission.proofs.Alike.{compared}
use Rattle.commission.proofs.comparing.compare.Goals as goal

pub returns : goal.returns
returns g c =
    compared c.args.serving.now (g.C.Roster.held c.args.roster.now) (g.C.Roster.carried c.args.roster.now) (g.met.C.Roster.carries c.args.roster.now)
    c.next_difference.result c.map_or_else.result (search rules) c.next_difference.ensures
