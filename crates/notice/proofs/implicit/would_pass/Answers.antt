use Rattle.std.proofs.Common.{true, false, not, count_by, refl, ap, ◌∙◌}
use Rattle.rows.specs.Entries.{live}
use Rattle.notice.proofs.Beginning.{too_long}
use Rattle.notice.proofs.implicit.would_pass.Goals as goal

pub returns-then-not-lives : goal.returns-then-not-lives
returns-then-not-lives c =
    λ serial.
    too_long c.args.time.seconds c.args.group.number serial c.args.row.now false c.count_live.result
    c.if-not-lives.ensures (c.count_live.ensures ∙ ap (count_by (live c.args.time.seconds)) c.as_slice.ensures.used)

pub returns-else-not-lives : goal.returns-else-not-lives
returns-else-not-lives c =
    λ serial.
    ap not c.if-not-lives.false
    ∙ too_long c.args.time.seconds c.args.group.number serial c.args.row.now true _ c.if-not-lives.ensures refl
