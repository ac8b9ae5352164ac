use Rattle.std.proofs.Common.{◌+◌, ◌<◌, length, sym, ◌∙◌, arith}
use Rattle.rows.specs.Standings.{standing}
use Rattle.change.proofs.Filling.{filling_as, filling_set, filling_all, filling_count}
use Rattle.change.proofs.Settling.{requests-yes, requests-no, requests_all}
use Rattle.change.proofs.sending.send.Goals as goal
use Rattle.change.proofs.sending.send.Goals.{then-sends, else-sends}

pub loop-one-preserved : goal.loop-one-preserved
loop-one-preserved c =
    let room : c.loop-one.sent < length c.loop-one.out = omega arith in
    elim c.if-sends.branch [
      | then-sends w ↦ (
        omega (arith, w.sent-is),
        rw (w.out-is, w.sent-is) (filling_set (filling_as c.loop-one.invariant.1 (requests-yes _ c.args.time.seconds (standing c.args.account.now).rows c.args.next c.loop-one.sent _ _ _ c.loop-one-test.true _ w.request.ensures (sym c.sends.ensures ∙ w.if-sends.true))) room),
      )
      | else-sends w ↦ (
        omega (arith, w.sent-is),
        rw (w.out-is, w.sent-is) (filling_as c.loop-one.invariant.1 (requests-no _ c.args.time.seconds (standing c.args.account.now).rows c.args.next c.loop-one.sent _ _ _ c.loop-one-test.true (sym c.sends.ensures ∙ w.if-sends.false))),
      )
    ]

pub returns : goal.returns
returns c =
    let filled = filling_as c.loop-one.invariant.1 (requests_all c.args.user.number c.args.time.seconds (standing c.args.account.now).rows (c.args.next + c.loop-one.sent) _ _ c.loop-one-test.false) in
    record { few = omega arith; count = filling_count filled (omega arith); out = filling_all filled }
