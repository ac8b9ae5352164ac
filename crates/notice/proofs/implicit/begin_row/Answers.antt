use Rattle.std.proofs.Common.{rules}
use Rattle.notice.proofs.Beginning.{begun_length}
use Rattle.notice.proofs.implicit.begin_row.Goals as goal

pub push-requires : goal.push-requires
push-requires c = search (rules, begun_length)
