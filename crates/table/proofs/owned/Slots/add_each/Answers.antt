use Rattle.std.proofs.Common.{◌<◌, length, sym, ap, ◌∙◌, arith}
use Rattle.table.proofs.Adding.{added_more, added_none}
use Rattle.table.proofs.Calls.{answer_at}
use Rattle.table.proofs.owned.Slots.add_each.Goals as goal
use Rattle.table.proofs.owned.Slots.add_each.Goals.{in-Some, in_default}

pub loop-one-preserved : goal.loop-one-preserved
loop-one-preserved g c =
    let h : c.loop-one.one-index < length c.args.from.now = omega arith in
    elim c.match-make.branch [
      | in-Some w ↦ rw w.self-is (omega arith, λ p a. added_more p _ _ _ _ _ _ _ h (sym w.in-Some.is ∙ answer_at a c.make.ensures ∙ ap p c.one-item.is) w.push.ensures.items (c.loop-one.invariant.1 p a))
      | in_default w ↦ rw w.self-is (omega arith, λ p a. added_none p _ _ _ _ _ h (sym w.in_default.is ∙ answer_at a c.make.ensures ∙ ap p c.one-item.is) (c.loop-one.invariant.1 p a))
    ]
