-- Questions about lists of groups.
use Rattle.std.specs.Prelude.{ℕ, Bool, cond, List, [], ◌∷◌, ◌++◌, ◌==◌}
use Rattle.std.specs.List.{list_any}
use Rattle.mcptt.specs.declared.identity.GroupId.{GroupId}
use Rattle.rows.specs.declared.group_list.Groups.{Groups}
use Rattle.table.specs.Kept.{items}

-- the group is one of these
abbrev pub member : ℕ → List GroupId → Bool
member g gs = list_any (λ x. x.number == g) gs

-- the list with the group at its end, unless it is there
abbrev pub noted : List GroupId → GroupId → List GroupId
noted gs g = cond (member g.number gs) gs (gs ++ g ∷ [])

-- the groups of a short list
abbrev pub listed : Groups → List GroupId
listed gs = items gs.groups
