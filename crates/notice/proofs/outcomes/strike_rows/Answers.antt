use Rattle.std.proofs.Common.{◌≡◌, arith}
use Rattle.notice.proofs.Passing.{pass_more, pass_map, pass_count}
use Rattle.notice.proofs.outcomes.strike_rows.Goals as goal

pub loop-row-preserved : goal.loop-row-preserved
loop-row-preserved c = (
  omega arith,
  pass_more c.row-item.result c.strike_row-removed.new.row c.loop-row.invariant.1 c.loop-row-test.true
      c.strike_row-removed.ensures.used c.strike_row-removed.ensures.removed,
)

pub returns : goal.returns
returns c =
    let all : c.loop-row.row-index ≡ 4 = omega arith in
    record {
      removed = pass_count c.loop-row.invariant.1 all;
      rows = pass_map c.loop-row.invariant.1 all c.requires;
    }
