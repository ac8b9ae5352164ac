use Rattle.std.proofs.Common.{◌≡◌, List, [], ◌∷◌, ◌+◌, cond, count_by, refl, ap, ◌∙◌, rules}
use Rattle.std.proofs.iter.runs.Made.{chains}
use Rattle.std.proofs.lemmas.List.Sums.{sum_by-cons}
use Rattle.sheet.specs.declared.document.Member.{Member}
use Rattle.sheet.specs.Rules.{required_of}
use Rattle.sheet.proofs.rules.required_in.Goals as goal

counted : (ms : List Member) → count_by (λ (m : Member). m.required) ms ≡ required_of ms
counted [] = refl
counted (m ∷ ms) = sum_by-cons _ m ms ∙ ap (λ n. cond m.required 1 0 + n) (counted ms)

pub returns : goal.returns
returns c = rw (← counted c.args.members.now) (search (rules, chains))
