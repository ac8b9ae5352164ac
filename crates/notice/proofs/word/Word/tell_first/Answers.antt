use Rattle.std.proofs.Common.{refl, arith}
use Rattle.std.proofs.lemmas.List.{length-take}
use Rattle.notice.specs.Notices.{heard, verdict_on, is_turned, turned_in}
use Rattle.notice.proofs.Changing.{changed_more, changed_front, counted_more, counted_all}
use Rattle.notice.proofs.word.Word.tell_first.Goals as goal

pub loop-entry-preserved : goal.loop-entry-preserved
loop-entry-preserved c = (
  omega arith,
  changed_more _ _ _ _ _ _ c.loop-entry-test.true c.tell-turned.ensures.entry c.loop-entry.invariant.1,
  counted_more _ (turned_in c.args.time.seconds (heard c.args.self.now) c.args.listed)
      (λ e. is_turned (verdict_on c.args.time.seconds (heard c.args.self.now) c.args.listed e)) _ _ _ _ _ _ _
      (λ x zs. refl) c.loop-entry.invariant.1 c.loop-entry-test.true c.tell-turned.ensures.turned c.loop-entry.invariant.2,
)

pub returns : goal.returns
returns c =
    record {
      few = omega (arith, length-take c.args.count c.args.entries.now);
      turned =
          counted_all (turned_in c.args.time.seconds (heard c.args.self.now) c.args.listed) _ _ _ _ refl c.loop-entry-test.false
          c.loop-entry.invariant.2;
      entries = changed_front _ _ _ _ _ c.requires c.loop-entry.invariant.1 c.loop-entry-test.false;
    }
