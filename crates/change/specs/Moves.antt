-- What becomes of the entries of a row.
use Rattle.std.specs.Prelude.{ℕ, Bool, cond, List, ◌++◌, map, Some, None, Option}
use Rattle.std.specs.List.{filter_map}
use Rattle.mcptt.specs.declared.identity.GroupId.{GroupId}
use Rattle.rows.specs.declared.entry.Status.{Status}
use Rattle.rows.specs.declared.entry.Status.TheVariants.{Affiliating, Affiliated, Deaffiliating, Deaffiliated}
use Rattle.rows.specs.declared.entry.Entry.{Entry}
use Rattle.rows.specs.Lists.{member}
use Rattle.rows.specs.Entries.{live, lives}
use Rattle.change.specs.declared.plan.Sending.{Sending}
use Rattle.change.specs.declared.plan.Sending.TheVariants.{Silent, Affiliate, Release}
use Rattle.change.specs.declared.plan.Move.{Move}

-- the entry with another status and end
abbrev pub turned : Entry → Status → ℕ → Entry
turned e status end = record { group = e.group; status = status; end = end; serial = e.serial }

-- an entry of the new row with the request that it gives rise to
abbrev pub move : Entry → Sending → Move
move e sending = record { entry = e; sending = sending }

-- a live entry of a kept group runs until `until`; one that was given up is affiliating again, and asks
abbrev pub renewed : ℕ → Entry → Status → Move
renewed until e Affiliating = move (turned e Affiliating until) Silent
renewed until e Affiliated = move (turned e Affiliated until) Silent
renewed until e Deaffiliating = move (turned e Affiliating until) Affiliate
renewed until e Deaffiliated = move (turned e Affiliating until) Affiliate

-- a live entry of any other group is given up, until `gone`; what was affiliated is released
abbrev pub given_up : ℕ → Entry → Status → Move
given_up gone e Affiliating = move (turned e Deaffiliating gone) Silent
given_up gone e Affiliated = move (turned e Deaffiliating gone) Release
given_up gone e Deaffiliating = move e Silent
given_up gone e Deaffiliated = move e Silent

-- what becomes of an entry: one that is not live is dropped
abbrev pub moved : List GroupId → ℕ → ℕ → ℕ → Entry → Option Move
moved keep time until gone e =
    cond (live time e) (Some (cond (member e.group.number keep) (renewed until e e.status) (given_up gone e e.status))) None

-- a kept group without a live entry begins a new one, which asks
abbrev pub begun : List Entry → ℕ → ℕ → GroupId → Option Move
begun entries time until g =
    cond (lives time g.number entries) None (Some (move (record { group = g; status = Affiliating; end = until; serial = 0 }) Affiliate))

-- the row that CHANGE makes: entries in place, then new ones in the order of the kept groups
abbrev pub changed_row : List GroupId → ℕ → ℕ → ℕ → List Entry → List Move
changed_row keep time until gone entries = filter_map (moved keep time until gone) entries ++ filter_map (begun entries time until) keep

-- the request for an entry that LEAVE gives up: a release where it was live and affiliated
abbrev pub released : Status → Bool → Sending
released Affiliating alive = Silent
released Affiliated alive = cond alive Release Silent
released Deaffiliating alive = Silent
released Deaffiliated alive = Silent

-- what LEAVE makes of an entry: live or not, it is given up
abbrev pub left : ℕ → ℕ → Entry → Move
left time gone e = move (turned e Deaffiliating gone) (released e.status (live time e))

-- the row that LEAVE makes
abbrev pub left_row : ℕ → ℕ → List Entry → List Move
left_row time gone entries = map (left time gone) entries
