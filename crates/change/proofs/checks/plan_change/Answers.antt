use Rattle.std.proofs.Common.{◌≡◌, ◌-◌, length, nat_lt, sym, ap, ◌∙◌, arith}
use Rattle.rows.specs.Lists.{listed}
use Rattle.rows.specs.Standings.{Standing, standing, limit_of, next_of}
use Rattle.change.specs.Changes.{Moment, moment, Change, change_of, kept_groups, last_serial}
use Rattle.change.proofs.Planning.{as_kept, as_planned, refused_none}
use Rattle.change.proofs.checks.plan_change.Goals as goal

pub returns : goal.returns
returns g c =
    let m : Moment = moment c.args.clock.time.seconds c.args.clock.timer (g.P.Preference.before c.args.preference.now c.args.user.number) in
    let s : Standing = standing c.args.account.now in
    let k : Change = change_of c.args.user.number c.args.wish.radio.number c.args.wish.interval c.args.wish.wanted.now c.args.places in
    let checked = c.in_ok-radio.ensures in
    let kept : listed c.kept-chosen.result ≡ kept_groups m s k = as_kept m s k _ _ _ _ checked.0 (sym (ap limit_of checked.2)) c.held_elsewhere-others.ensures.listed c.kept-chosen.ensures.listed in
    let planned = as_planned m s k _ _ _ _ _ _ _ checked.0 kept c.span.ensures.time c.span.ensures.until c.span.ensures.gone c.row.ensures c.changed_row-moves.ensures in (
      refused_none m s k _ checked.3 c.if-wish-eq0.false c.if-not-may_want.ensures (c.if-serials_used_up.ensures ∙ ap (nat_lt last_serial) (sym (ap next_of checked.2))) planned (omega (arith, c.len.ensures.len, c.if-len-gt24.false)),
      planned,
      ap (λ z. length c.args.wish.wanted.now - z) (c.len-2.ensures.len ∙ ap length kept),
      checked.0,
      checked.2,
      checked.1,
    )
