-- What an entry, and a row of entries, says at a time.
use Rattle.std.specs.Prelude.{ℕ, Bool, true, false, ◌&&◌, List, ◌==◌, nat_lt}
use Rattle.rows.specs.declared.entry.Status.{Status}
use Rattle.rows.specs.declared.entry.Status.TheVariants.{Affiliating, Affiliated, Deaffiliating, Deaffiliated}
use Rattle.rows.specs.declared.entry.Entry.{Entry}
use Rattle.std.specs.List.{list_any}

-- live while its end is later than the time
abbrev pub live : ℕ → Entry → Bool
live time e = nat_lt time e.end

-- an entry of this group
abbrev pub of_group : ℕ → Entry → Bool
of_group group e = e.group.number == group

-- affiliating, and not yet affiliated
abbrev pub is_affiliating : Status → Bool
is_affiliating Affiliating = true
is_affiliating Affiliated = false
is_affiliating Deaffiliating = false
is_affiliating Deaffiliated = false

-- affiliating or affiliated
abbrev pub on : Status → Bool
on Affiliating = true
on Affiliated = true
on Deaffiliating = false
on Deaffiliated = false

-- a live entry that is affiliating or affiliated
abbrev pub held : ℕ → Entry → Bool
held time e = live time e && on e.status

-- such an entry of the group
abbrev pub holding : ℕ → ℕ → Entry → Bool
holding time group e = of_group group e && held time e

-- a live entry of the group, whatever its status
abbrev pub living : ℕ → ℕ → Entry → Bool
living time group e = of_group group e && live time e

-- the row of a radio holds the group
abbrev pub holds : ℕ → ℕ → List Entry → Bool
holds time group entries = list_any (holding time group) entries

-- the row has a live entry of the group
abbrev pub lives : ℕ → ℕ → List Entry → Bool
lives time group entries = list_any (living time group) entries
