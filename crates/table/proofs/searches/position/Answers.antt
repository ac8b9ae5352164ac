use Rattle.std.proofs.Common.{◌≡◌, ℕ, ◌+◌, ◌<◌, Bool, true, false, cond, List, drop, length, Some, slice_index_or, sym, ap, ◌∙◌, arith}
use Rattle.std.proofs.lemmas.Iterator.Adapters.{position_from-zero}
use Rattle.std.proofs.lemmas.List.{at_drop_all, at_drop_more}
use Rattle.std.specs.List.{position_from}
use Rattle.table.proofs.Calls.{answer_at}
use Rattle.table.proofs.searches.position.Goals as goal

-- one step of the search, at a record of which it is known whether it passes
step : {X : Type 0} (p : X → Bool) (xs : List X) (i : ℕ) (x : X) (b : Bool) → i < length xs → x ≡ slice_index_or xs i x → p x ≡ b
    → position_from p i (drop i xs) ≡ cond b (Some i) (position_from p (i + 1) (drop (i + 1) xs))
step p xs i x b lt is e =
    at_drop_more (position_from p i) xs i x lt
    ∙ ap (λ (t : Bool). cond t (Some i) (position_from p (i + 1) (drop (i + 1) xs))) (ap p (sym is) ∙ e)

pub loop-place-init : goal.loop-place-init
loop-place-init g c p a = position_from-zero p c.args.records.now

pub loop-place-preserved : goal.loop-place-preserved
loop-place-preserved g c p a =
    c.loop-place.invariant p a
    ∙ step p c.args.records.now c.loop-place.place c.index-records-place.result false c.loop-place-test.true c.index-records-place.is
    (sym (answer_at a c.test.ensures) ∙ c.if-test.false)

pub returns-then-test-clause-first : goal.returns-then-test-clause-first
returns-then-test-clause-first g c p a =
    sym (c.loop-place.invariant p a
    ∙ step p c.args.records.now c.loop-place.place c.index-records-place.result true c.loop-place-test.true c.index-records-place.is
    (sym (answer_at a c.test.ensures) ∙ c.if-test.true))

pub returns-clause-first : goal.returns-clause-first
returns-clause-first g c p a =
    sym (c.loop-place.invariant p a ∙ at_drop_all (position_from p c.loop-place.place) c.args.records.now c.loop-place.place (omega arith))
