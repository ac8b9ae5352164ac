use Rattle.std.proofs.Common.{◌≡◌, ◌<◌, ◌≤◌, length, get_or, None, MatchOption, IsSomeAnd, rules}
use Rattle.roster.specs.Filing.{group_got}
use Rattle.roster.proofs.pages.group_at.Goals as goal

pub returns : goal.returns
returns g c =
    let says = g.P.Page.says in
    let pages = c.args.pages.now in
    let place = c.args.place in
    let there : MatchOption c.get.result (length pages ≤ place) (λ p. (place < length pages) × (p.now ≡ get_or pages place p.now)) = search rules in
    let got : MatchOption c.get.result (c.map.result ≡ None) (λ p. IsSomeAnd c.map.result (λ q. q.number ≡ (says p.now).group)) = search rules in
    group_got says _ pages place c.get.result c.map.result there got
