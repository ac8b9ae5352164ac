-- The priorities of groups in a table.
use Rattle.std.specs.Prelude.{ℕ, Bool, cond, not, ◌&&◌, List, [], ◌∷◌, ◌==◌}
use Rattle.preference.specs.declared.priority.PriorityRow.{PriorityRow}

-- the row names the group; a row of group 0 is unused and names none
abbrev pub names : PriorityRow → ℕ → Bool
names row g = not (row.group.number == 0) && row.group.number == g

-- a row that is not used
abbrev pub unused_row : PriorityRow
unused_row = record { group = record { number = 0 }; priority = 0 }

-- the first row that names the group decides, and a group in no row has 255
abbrev pub priority_of : List PriorityRow → ℕ → ℕ
priority_of [] g = 255
priority_of (row ∷ rows) g = cond (names row g) row.priority (priority_of rows g)
