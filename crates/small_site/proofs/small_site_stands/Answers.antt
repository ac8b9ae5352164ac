use Rattle.std.proofs.Common.{refl}
use Rattle.change.specs.Changes.{change_answer, after_change, out_after_change}
use Rattle.notice.specs.Notices.{notify_answer, after_notify}
use Rattle.notice.specs.Implicit.{begin_answer, after_begin, cancel_answer, after_cancel}
use Rattle.small_site.proofs.small_site_stands.Goals as goal

pub returns : goal.returns
unfolding change_answer after_change out_after_change notify_answer after_notify begin_answer after_begin cancel_answer after_cancel
returns c =
    record {
      asks = refl;
      asked = refl;
      asking = λ r. refl;
      stale = refl;
      unmoved = refl;
      tells = refl;
      told = refl;
      changes = refl;
      changed = refl;
      releasing = λ r. refl;
      begins = refl;
      begun = refl;
      full = refl;
      as_before = refl;
      cancels = refl;
      cancelled = refl;
      lives = refl;
      ends = refl;
    }
