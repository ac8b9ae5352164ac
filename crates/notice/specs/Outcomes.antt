-- OUTCOME, what became of a request.
use Rattle.std.specs.Prelude.{ℕ, ◌+◌, Bool, true, false, cond, not, ◌&&◌, List, map, Some, None, Ok, Err, count_by, filter, Option, Result, ◌==◌, nat_le}
use Rattle.mcptt.specs.declared.refusal.Refusal.{Refusal}
use Rattle.mcptt.specs.declared.refusal.Refusal.TheVariants.{NumberOutOfRange, NotEnrolled}
use Rattle.rows.specs.declared.entry.Entry.{Entry}
use Rattle.rows.specs.Entries.{is_affiliating}
use Rattle.rows.specs.Standings.{Standing}
use Rattle.rows.specs.Holdings.{row_of}
use Rattle.notice.specs.declared.event.Event.{Event}
use Rattle.notice.specs.declared.event.Event.TheVariants.{Accepted, Rejected, TimerExpired}

-- an affiliating entry with this serial, live or not
abbrev pub awaits : ℕ → Entry → Bool
awaits serial e = is_affiliating e.status && e.serial == serial

-- any other entry
abbrev pub stays : ℕ → Entry → Bool
stays serial e = not (awaits serial e)

-- a SIP code is 300 to 699
abbrev pub in_range : Event → Bool
in_range Accepted = true
in_range (Rejected code) = nat_le 300 code && nat_le code 699
in_range TimerExpired = true

-- the owner accepted the request
abbrev pub is_accepted : Event → Bool
is_accepted Accepted = true
is_accepted (Rejected code) = false
is_accepted TimerExpired = false

-- the rows without the entries that await this serial
abbrev pub rows_without : ℕ → List (List Entry) → List (List Entry)
rows_without serial rows = map (filter (stays serial)) rows

-- how many entries await this serial
abbrev pub awaiting : ℕ → List (List Entry) → ℕ
awaiting serial rows =
    count_by (awaits serial) (row_of rows 1) + count_by (awaits serial) (row_of rows 2)
    + count_by (awaits serial) (row_of rows 3) + count_by (awaits serial) (row_of rows 4)

-- the refusals of OUTCOME: 5, 8
abbrev pub outcome_refusal : Standing → Event → Option Refusal
outcome_refusal s event = cond (not (in_range event)) (Some NumberOutOfRange) (cond (not s.enrolled) (Some NotEnrolled) None)

-- OUTCOME's answer: the number of entries removed, 0 where the request was accepted
unfoldable pub outcome_answer : Standing → ℕ → Event → Result ℕ Refusal
outcome_answer s serial event =
    elim (outcome_refusal s event) [ Some refusal ↦ Err refusal | None ↦ Ok (cond (is_accepted event) 0 (awaiting serial s.rows)) ]

-- the user after OUTCOME
unfoldable pub after_outcome : Standing → ℕ → Event → Standing
after_outcome s serial event =
    elim (outcome_refusal s event) [
      | Some refusal ↦ s
      | None ↦
          cond (is_accepted event) s
          (record { enrolled = s.enrolled; limit = s.limit; next = s.next; rows = rows_without serial s.rows })
    ]
