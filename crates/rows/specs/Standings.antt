-- How a served user stands: what an account says, whatever lies behind the used entries of its rows.
use Rattle.std.specs.Prelude.{◌≡◌, ℕ, ◌-◌, Bool, false, List, [], ◌∷◌, map, is_some, Some, None, Option, slice_set}
use Rattle.std.proofs.Common.{lit≤}
use Rattle.rows.specs.declared.entry.Status.TheVariants.{Deaffiliated}
use Rattle.rows.specs.declared.entry.Entry.{Entry}
use Rattle.rows.specs.declared.row.Row.{Row}
use Rattle.rows.specs.declared.account.Enrolment.{Enrolment}
use Rattle.rows.specs.declared.account.Account.{Account}
use Rattle.table.specs.Kept.{items}

-- the entries of a row
abbrev pub used : Row → List Entry
used row = items row.entries

-- enrolled or not, the limit N2, the next serial, and the entries of radios 1 to 4
pub record Standing : Type 0 where
  pub enrolled : Bool
  pub limit : ℕ
  pub next : ℕ
  pub rows : List (List Entry)

-- the limit N2 and the next serial that ENROL gave; 0 before it
abbrev pub limit_of : Option Enrolment → ℕ
limit_of None = 0
limit_of (Some e) = e.limit

abbrev pub next_of : Option Enrolment → ℕ
next_of None = 0
next_of (Some e) = e.next_serial

-- what an account says
abbrev pub standing : Account → Standing
standing a = record { enrolled = is_some a.enrolment; limit = limit_of a.enrolment; next = next_of a.enrolment; rows = map used a.rows }

-- nobody enrolled yet
abbrev pub unused : Standing
unused = record { enrolled = false; limit = 0; next = 0; rows = [] ∷ [] ∷ [] ∷ [] ∷ [] }

-- what stands for an entry, a row or an account that is not there
abbrev pub no_entry : Entry
no_entry = record { group = record { number = 0 }; status = Deaffiliated; end = 0; serial = 0 }

abbrev pub no_row : Row
no_row = record { entries = record { places = []; count = 0; within = lit≤ tt } }

abbrev pub no_account : Account
no_account = record { enrolment = None; rows = [] }

-- but for the row of this radio, the two have the same rows, value by value
abbrev pub SameOthers : ℕ → Account → Account → Type 0
SameOthers radio a b = slice_set b.rows (radio - 1) no_row ≡ slice_set a.rows (radio - 1) no_row
