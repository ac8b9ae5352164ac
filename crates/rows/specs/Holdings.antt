-- What a user holds, over the rows of radios 1 to 4 (row k is radio k + 1).
use Rattle.std.specs.Prelude.{ℕ, ◌+◌, ◌-◌, Bool, false, cond, List, [], ◌∷◌, Some, None, Option, ◌==◌, slice_index_or}
use Rattle.std.specs.List.{list_any}
use Rattle.mcptt.specs.Ranges.{set_of}
use Rattle.mcptt.specs.declared.checked.Radio.{Radio}
use Rattle.mcptt.specs.declared.identity.GroupId.{GroupId}
use Rattle.rows.specs.declared.entry.Entry.{Entry}
use Rattle.rows.specs.Lists.{noted}
use Rattle.rows.specs.Entries.{held, holds}

-- the entries of a radio, numbered from 1
abbrev pub row_of : List (List Entry) → ℕ → List Entry
row_of rows radio = slice_index_or rows (radio - 1) []

-- the user holds what any of their radios holds
abbrev pub user_holds : ℕ → ℕ → List (List Entry) → Bool
user_holds time group rows = list_any (holds time group) rows

-- the groups of a list, and those that these entries hold, each once
abbrev pub gathered : ℕ → List Entry → List GroupId → List GroupId
gathered time [] found = found
gathered time (e ∷ es) found = gathered time es (cond (held time e) (noted found e.group) found)

-- the number of a radio that is left out, if one is
abbrev pub number_of : Option Radio → Option ℕ
number_of None = None
number_of (Some radio) = Some radio.number

-- it is the one that is left out
abbrev pub is_left_out : Option ℕ → ℕ → Bool
is_left_out None radio = false
is_left_out (Some left_out) radio = left_out == radio

-- the same of these rows, the first of which is this radio's, but for the one that is left out
abbrev pub visited : ℕ → Option ℕ → ℕ → List (List Entry) → List GroupId → List GroupId
visited time left_out radio [] found = found
visited time left_out radio (row ∷ rows) found =
    visited time left_out (radio + 1) rows (cond (is_left_out left_out radio) found (gathered time row found))

-- the different groups that the user's radios hold, but for one radio, if one is left out
abbrev pub held_without : ℕ → Option ℕ → List (List Entry) → List GroupId
held_without time left_out rows = visited time left_out 1 rows []

-- the different groups that the user's other radios hold
abbrev pub held_elsewhere : ℕ → ℕ → List (List Entry) → List GroupId
held_elsewhere time radio rows = held_without time (Some radio) rows

-- the different groups that the user holds
abbrev pub held_groups : ℕ → List (List Entry) → List GroupId
held_groups time rows = held_without time None rows

-- the radios of the user that hold the group, as a set
abbrev pub radios_holding : ℕ → ℕ → List (List Entry) → ℕ
radios_holding time group rows =
    set_of (holds time group (row_of rows 1)) (holds time group (row_of rows 2)) (holds time group (row_of rows 3)) (holds time group (row_of rows 4))
