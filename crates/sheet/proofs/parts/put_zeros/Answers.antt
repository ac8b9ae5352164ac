use Rattle.std.proofs.Common.{◌≡◌, ◌-◌, ◌++◌, length, take, drop, replicate, ap, ◌∙◌, arith}
use Rattle.std.proofs.lemmas.List.{length-take, length-drop}
use Rattle.std.proofs.lemmas.Slice.{take-put_mid}
use Rattle.sheet.proofs.parts.put_zeros.Goals as goal

pub returns : goal.returns
returns c =
    let out = c.args.out.now in
    let from = c.args.from in
    let e = c.fill.ensures.after (λ y h. h) in
    let n : length (take (508 - from) (drop from out)) ≡ 508 - from = simp (length-take, length-drop) (omega arith) in
    take-put_mid from (508 - from) out c.fill.new.self 508 (omega (arith, c.fill.ensures.len)) (omega arith)
    ∙ ap (λ z. take from out ++ z) (e ∙ ap (λ m. replicate m 0) n)
