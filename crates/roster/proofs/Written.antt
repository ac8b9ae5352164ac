-- What the writer leaves in a buffer says the document that was written.
use Rattle.std.proofs.Common.{◌≡◌, ℕ, List, length, None, Ok, Err, Result, ap, ◌∙◌, arith}
use Rattle.std.proofs.lemmas.Bool.{and_parts}
use Rattle.std.proofs.lemmas.Bool.Decides.{nat_tests}
use Rattle.mcptt.specs.declared.refusal.Refusal.{Refusal}
use Rattle.sheet.specs.declared.group_document.GroupDocument.{GroupDocument}
use Rattle.sheet.specs.Contents.{content}
use Rattle.sheet.specs.Rules.{keeps_rules}
use Rattle.sheet.specs.Decoded.{group_of, content_of}
use Rattle.sheet.specs.Promises.{Writes, unwritten}
use Rattle.sheet.proofs.Back.{group_back, content_back}
use Rattle.roster.specs.Pages.{Filed, filed_as}

never_unwritten : (d : GroupDocument) (n : ℕ) → n ≡ 512 → unwritten d.group.number d.document n ≡ None
never_unwritten d n e = let l = d.lawful in grind (arith, nat_tests)

pub written_says : (d : GroupDocument) (before after : List ℕ) (r : Result (Unit {0}) Refusal)
    → Writes d.group.number d.document before after r → length before ≡ 512
    → ◌≡◌ {A = Filed} (record { group = group_of after; document = content_of after }) (filed_as d)
written_says d before after (Ok u) w n =
    let c = content d.document in
    let ok = (and_parts _ (keeps_rules d.group.number c) d.lawful).1 in
    let p = ap group_of w.1 ∙ group_back d.group.number c ok in
    let q = ap content_of w.1 ∙ content_back d.group.number c ok in
    λ i. record { group = p i; document = q i }
written_says d before after (Err e) w n =
    let none = never_unwritten d (length before) n in
    let some = w.0 in
    let apart : ◌≡◌ {A = ℕ} 0 1 = cc in
    let no_way : ⊥ = omega arith in
    absurd no_way
