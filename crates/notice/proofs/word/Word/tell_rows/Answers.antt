use Rattle.std.proofs.Common.{◌≡◌, arith}
use Rattle.notice.proofs.Passing.{pass_more, pass_rows, pass_count}
use Rattle.notice.proofs.word.Word.tell_rows.Goals as goal

pub loop-k-preserved : goal.loop-k-preserved
loop-k-preserved c = (
  omega arith,
  pass_more c.index-rows-k.result c.tell_row-turned.new.row c.loop-k.invariant.1 (omega arith)
      c.tell_row-turned.ensures.used c.tell_row-turned.ensures.turned,
)

pub returns : goal.returns
returns c =
    let all : c.loop-k.k ≡ 4 = omega arith in
    record {
      turned = pass_count c.loop-k.invariant.1 all;
      rows = pass_rows c.loop-k.invariant.1 all c.requires;
    }
