use Rattle.std.proofs.Common.{not, filter, rules}
use Rattle.notice.specs.Implicit.{pends, after_cancel}
use Rattle.notice.proofs.Changing.{row_changed}
use Rattle.notice.proofs.pending.cancel.Goals as goal

pub returns-clause-standing : goal.returns-clause-standing
unfolding after_cancel
returns-clause-standing c =
    let e =
    row_changed c.args.account.now.rows c.args.begun.radio.number c.index.result c.index-account-index.result c.cancel_in.new.row
    (filter (λ e. not (pends c.args.begun.group.number c.args.begun.serial e))) (search rules) (search rules) c.cancel_in.ensures in
    search rules
