use Rattle.std.proofs.Common.{rules}
use Rattle.notice.specs.Implicit.{begun_row, after_begin}
use Rattle.notice.proofs.Changing.{row_changed}
use Rattle.notice.proofs.implicit.begin.Goals as goal

pub returns-clause-standing : goal.returns-clause-standing
unfolding after_begin
returns-clause-standing c =
    let e =
    row_changed c.args.account.now.rows c.args.radio.number c.index.result c.index-account-index.result c.begin_row.new.row
    (begun_row c.args.time.seconds c.args.group.number c.in_ok-radio.enrolment.next_serial) (search rules) (search rules) c.begin_row.ensures in
    search rules
