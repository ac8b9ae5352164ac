use Rattle.std.proofs.Common.{◌≡◌, ℕ, List, [], ◌∷◌, refl, ◌∙◌, ◌==◌, rules, tests}
use Rattle.std.proofs.lemmas.Iterator.{YieldsList-from_slice}
use Rattle.std.proofs.lemmas.Iterator.Search.{any_from_yields_List}
use Rattle.std.specs.List.{list_any}
use Rattle.sheet.specs.declared.document.Member.{Member}
use Rattle.sheet.specs.Rules.{names}
use Rattle.sheet.proofs.rules.is_named.Goals as goal

named : (user : ℕ) (ms : List Member) → list_any (λ (m : Member). m.user.number == user) ms ≡ names user ms
named user [] = refl
named user (m ∷ ms) = let ih = named user ms in cc

pub returns : goal.returns
returns c =
    let user = c.args.user.number in
    let ms = c.args.members.now in
    any_from_yields_List (λ (m : Member). m.user.number == user) _ _ _ c.any.ensures.ran (YieldsList-from_slice ms cc) (λ x b q k. search (rules, tests))
    ∙ named user ms
