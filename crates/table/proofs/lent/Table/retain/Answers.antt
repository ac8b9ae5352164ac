use Rattle.std.proofs.Common.{◌+◌, ◌<◌, length, take, drop, count_by, sym, ap, ◌∙◌, arith}
use Rattle.std.proofs.lemmas.List.{get_or_default, length-set, length-take-le, drop-set-lt, drop-drop}
use Rattle.std.proofs.lemmas.List.Filters.{FiltersInPlace-more_no, FiltersInPlace-more_set}
use Rattle.std.proofs.lemmas.List.Sums.{length-filter}
use Rattle.table.proofs.Calls.{answer_at}
use Rattle.table.proofs.lent.Table.retain.Goals as goal
use Rattle.table.proofs.lent.Table.retain.Goals.{then-test, else-test}

pub loop-i-preserved : goal.loop-i-preserved
loop-i-preserved g c =
    let k = c.loop-i.kept_so_far in
    let ys = c.loop-i.self.slots.now in
    let h : c.loop-i.i < length ys = omega arith in
    elim c.if-test.branch [
      | then-test w ↦
          rw (w.self-is, w.kept_so_far-is) (
            omega arith,
            length-set ys k _ ∙ c.loop-i.invariant.1,
            drop-set-lt (k + 1) ys k _ (omega arith) ∙ sym (drop-drop 1 k ys) ∙ ap (drop 1) c.loop-i.invariant.2 ∙ drop-drop 1 k _,
            λ p a. FiltersInPlace-more_set (c.loop-i.invariant.3 p a) h (sym (answer_at a (w.if-test.ensures))) (get_or_default _ _ _ _ h),
            c.loop-i.invariant.4,
            c.loop-i.invariant.5,
            c.loop-i.invariant.6,
          )
      | else-test w ↦
          rw (w.self-is, w.kept_so_far-is) (
            omega arith,
            c.loop-i.invariant.1,
            c.loop-i.invariant.2,
            λ p a. FiltersInPlace-more_no (c.loop-i.invariant.3 p a) h (sym (answer_at a (w.if-test.ensures))) (get_or_default _ _ _ _ h),
            c.loop-i.invariant.4,
            c.loop-i.invariant.5,
            c.loop-i.invariant.6,
          )
    ]

pub returns-clause-count : goal.returns-clause-count
returns-clause-count g c p a =
    let f = c.loop-i.invariant.3 p a in
    sym (length-take-le _ _ (omega arith)) ∙ ap length f.front ∙ length-filter p _
    ∙ ap (λ j. count_by p (take j c.args.self.now.slots.now)) (omega arith)
