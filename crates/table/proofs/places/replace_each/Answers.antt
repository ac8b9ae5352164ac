use Rattle.std.proofs.Common.{◌<◌, length, set, ap, ◌∙◌, arith}
use Rattle.std.proofs.lemmas.List.{get_or_default}
use Rattle.std.proofs.lemmas.List.Edits.{map_over_more}
use Rattle.table.proofs.Calls.{answer_at}
use Rattle.table.proofs.places.replace_each.Goals as goal

pub loop-one-preserved : goal.loop-one-preserved
loop-one-preserved g c p a =
    let h : c.loop-one.one-index < length c.args.slots.now = omega arith in
    let there : c.loop-one.one-index < length c.loop-one.slots = omega arith in
    ap (set c.loop-one.slots c.loop-one.one-index) (answer_at a c.make.ensures)
    ∙ map_over_more p c.args.slots.now c.loop-one.slots c.loop-one.one-index _ h (c.loop-one.invariant p a) (get_or_default _ _ _ _ there)
