use Rattle.std.proofs.Common.{◌≡◌, ℕ, List, [], ◌∷◌, refl, arith, rules, tests}
use Rattle.std.proofs.lemmas.Bool.Decides.{nat_tests}
use Rattle.std.proofs.lemmas.Iterator.{YieldsList-from_slice}
use Rattle.std.proofs.lemmas.Iterator.Search.{find_from_yields_List}
use Rattle.std.specs.List.{find}
use Rattle.std.specs.Option.{option_map_or}
use Rattle.preference.specs.declared.priority.PriorityRow.{PriorityRow}
use Rattle.preference.specs.Priorities.{names, priority_of}
use Rattle.preference.proofs.priority.priority_in.Goals as goal

-- the priority is that of the first row that names the group
found : (rows : List PriorityRow) (g : ℕ)
    → option_map_or (λ (row : PriorityRow). row.priority) (find (λ row. names row g) rows) 255 ≡ priority_of rows g
found [] g = refl
found (row ∷ rows) g = let ih = found rows g in grind (arith, nat_tests)

pub returns : goal.returns
returns c =
    let rows = c.args.rows.now in
    let f = find_from_yields_List (λ (row : PriorityRow). names row c.args.group.number) _ _ c.find.result c.find.ensures.ran (YieldsList-from_slice rows cc) (λ x b q k. search (rules, tests)) in
    rw (← found rows c.args.group.number, ← f) (search (rules, tests))
