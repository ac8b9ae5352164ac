use Rattle.std.proofs.Common.{◌≡◌, ℕ, true, false, length, Some, None, sym, refl, ap, subst, ◌∙◌, inl, inr}
use Rattle.std.proofs.lemmas.Bool.{both_ways, cases_Bool, cond-true, cond-false}
use Rattle.mcptt.specs.declared.refusal.Refusal.TheVariants.{ContentFaulty}
use Rattle.sheet.specs.Contents.{Content, content}
use Rattle.sheet.specs.Octets.{quad_at, sum_of}
use Rattle.sheet.specs.Layout.{sheet_bytes}
use Rattle.sheet.specs.Rules.{keeps_rules}
use Rattle.sheet.specs.Decoded.{group_of, content_of}
use Rattle.sheet.specs.Promises.{Unread, unread, is_sheet}
use Rattle.sheet.proofs.Back.{sheet_length, sum_right}
use Rattle.sheet.proofs.Reading.{found, tested_sheet, lawful_tested, unread_content}
use Rattle.sheet.proofs.reader.read.Goals as goal

pub returns-in_default-clause-all : goal.returns-in_default-clause-all
returns-in_default-clause-all c = λ g s v e. c.in_default.ensures.1 (ap length e ∙ sheet_length g s v)

pub returns-then-sum-quad-clause-all : goal.returns-then-sum-quad-clause-all
returns-then-sum-quad-clause-all c =
    λ g s v e.
    let w = c.in-Ok.ensures.1.same ∙ e in
    c.if-sum-quad.true (c.sum.ensures ∙ (ap (λ z. sum_of z 508) w ∙ (sum_right g s v ∙ (sym (ap (λ z. quad_at z 508) w) ∙ sym c.quad.ensures))))

pub invariant_of-result : goal.invariant_of-result
invariant_of-result c = record { lawful = (c.is_sheet_of.ensures.0 c.if-is_sheet_of.true).0 }

pub returns-then-is_sheet_of-clause-all : goal.returns-then-is_sheet_of-clause-all
returns-then-is_sheet_of-clause-all c =
    λ g s v e.
    let f = found c.in-Ok.sheet.now g s c.sheet_group-group.result.number c.sheet_document-document.result v (c.in-Ok.ensures.1.same ∙ e)
    c.sheet_group-group.ensures c.sheet_document-document.ensures.says c.sheet_document-document.ensures.count in
    (f.0, f.1)

pub returns-then-is_sheet_of-clause-answers : goal.returns-then-is_sheet_of-clause-answers
returns-then-is_sheet_of-clause-answers c =
    let sheet = c.in-Ok.sheet.now in
    let whole = c.in-Ok.ensures.1 in
    let group = c.sheet_group-group.result.number in
    let document = c.sheet_document-document.result in
    let is = c.is_sheet_of.ensures.0 c.if-is_sheet_of.true in
    let sum : sum_of sheet 508 ≡ quad_at sheet 508 = sym c.sum.ensures ∙ (c.if-sum-quad.false ∙ c.quad.ensures) in
    let none = unread_content sheet (ap length whole.same ∙ whole.long) sum ∙ cond-true _ _ _ (lawful_tested sheet group document is.0 is.1) in
    subst (λ z. (unread z ≡ None) × (group ≡ group_of z) × (content document ≡ content_of z)) whole.same
    (none, c.sheet_group-group.ensures, c.sheet_document-document.ensures.says)

none : (c : goal.Else-is_sheet_of) (g : ℕ) (s : Content) → keeps_rules g s ≡ true → c.in-Ok.sheet.now ≡ sheet_bytes g s → ⊥
none c g s v e =
    let f = found c.in-Ok.sheet.now g s c.sheet_group-group.result.number c.sheet_document-document.result v e
    c.sheet_group-group.ensures c.sheet_document-document.ensures.says c.sheet_document-document.ensures.count in
    both_ways c.is_sheet_of.result c.if-is_sheet_of.false (c.is_sheet_of.ensures.1 (f.2, f.3))

untested : (c : goal.Else-is_sheet_of) → is_sheet c.in-Ok.sheet.now ≡ false
untested c = elim (cases_Bool (is_sheet c.in-Ok.sheet.now)) [
  | inl t ↦ let a = tested_sheet c.in-Ok.sheet.now t in absurd (none c a.0 a.1 a.2 a.3)
  | inr f ↦ f
]

pub returns-else-is_sheet_of : goal.returns-else-is_sheet_of
returns-else-is_sheet_of c =
    let sheet = c.in-Ok.sheet.now in
    let whole = c.in-Ok.ensures.1 in
    let n = ap length whole.same ∙ whole.long in
    let sum : sum_of sheet 508 ≡ quad_at sheet 508 = sym c.sum.ensures ∙ (c.if-sum-quad.false ∙ c.quad.ensures) in
    record {
      reads = subst (λ z. Unread z ContentFaulty) whole.same (inr (inr (n, sum, (λ a. none c a.0 a.1 a.2 a.3), refl)));
      all = λ g s v e. none c g s v (whole.same ∙ e);
      answers = subst (λ z. unread z ≡ Some ContentFaulty) whole.same (unread_content sheet n sum ∙ cond-false _ _ _ (untested c));
    }
