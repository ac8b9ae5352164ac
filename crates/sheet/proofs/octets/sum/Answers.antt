use Rattle.std.proofs.Common.{◌≡◌, ◌+◌, ◌*◌, take, ap, ◌∙◌, arith}
use Rattle.std.proofs.lemmas.List.{length-take-le}
use Rattle.std.proofs.lemmas.Nat.{mul-le}
use Rattle.sheet.specs.Octets.{sum_of}
use Rattle.sheet.proofs.Sums.{sum_none, sum_more, sum_take}
use Rattle.sheet.proofs.octets.sum.Goals as goal

pub loop-i-init : goal.loop-i-init
loop-i-init c = (sum_none (take 508 c.args.bytes.now), omega arith)

pub overflow_mul-sum : goal.overflow_mul-sum
overflow_mul-sum c =
    let n = length-take-le 508 c.args.bytes.now c.requires in
    omega (arith, mul-le (c.loop-i.i + 1) c.from.result 508 255 (omega arith) (omega arith))

pub overflow_add-sum-in-loop-i : goal.overflow_add-sum-in-loop-i
overflow_add-sum-in-loop-i c =
    let n = length-take-le 508 c.args.bytes.now c.requires in
    omega (arith, mul-le (c.loop-i.i + 1) c.from.result 508 255 (omega arith) (omega arith))

pub loop-i-preserved : goal.loop-i-preserved
loop-i-preserved c =
    let n = length-take-le 508 c.args.bytes.now c.requires in (
      omega (arith, sum_more (take 508 c.args.bytes.now) c.loop-i.i, ap (λ b. (c.loop-i.i + 1) * b) c.from.ensures),
      omega (arith, mul-le (c.loop-i.i + 1) c.from.result 508 255 (omega arith) (omega arith)),
    )

pub returns : goal.returns
returns c =
    let bytes = c.args.bytes.now in
    let n = length-take-le 508 bytes c.requires in
    let all : c.loop-i.i ≡ 508 = omega arith in
    c.loop-i.invariant.0 ∙ (ap (sum_of (take 508 bytes)) all ∙ sum_take bytes 508 508 (omega arith))
