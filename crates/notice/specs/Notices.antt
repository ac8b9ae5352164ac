-- NOTIFY, an owner's word on a group, and STATUS.
use Rattle.std.specs.Prelude.{ℕ, ◌+◌, min, Bool, false, cond, not, ◌&&◌, List, [], ◌∷◌, map, Some, None, Ok, Err, Option, Result, ◌==◌}
use Rattle.mcptt.specs.Ranges.{is_group, is_radio, is_radio_set, has_radio}
use Rattle.mcptt.specs.declared.refusal.Refusal.{Refusal}
use Rattle.mcptt.specs.declared.refusal.Refusal.TheVariants.{NumberOutOfRange, NotEnrolled}
use Rattle.rows.specs.declared.entry.Status.{Status}
use Rattle.rows.specs.declared.entry.Status.TheVariants.{Affiliating, Affiliated, Deaffiliating, Deaffiliated}
use Rattle.rows.specs.declared.entry.Entry.{Entry}
use Rattle.rows.specs.Entries.{living, holds}
use Rattle.rows.specs.Standings.{Standing}
use Rattle.rows.specs.Holdings.{row_of}
use Rattle.notice.specs.declared.word.Notice.{Notice}
use Rattle.notice.specs.declared.word.Word.{Word}

-- a NOTIFY: the group, the set of radios listed, an interval, and a serial or none
pub record Notify : Type 0 where
  pub group : ℕ
  pub radios : ℕ
  pub interval : ℕ
  pub serial : Option ℕ

-- what came in
abbrev pub said : Notice → Notify
said n = record { group = n.group.number; radios = n.radios; interval = n.interval; serial = n.serial }

-- a word that was checked says the same
abbrev pub heard : Word → Notify
heard w = record { group = w.group.number; radios = w.radios.bits; interval = w.interval; serial = w.serial }

-- the word names this serial; a word without a serial names none
abbrev pub is_serial : Option ℕ → ℕ → Bool
is_serial None serial = false
is_serial (Some named) serial = named == serial

-- what becomes of a live entry of the group, by status, serial and listing: the new status, or none where it stays
abbrev pub verdict : Status → Bool → Bool → Option Status
verdict Affiliating named listed = cond named (Some (cond listed Affiliated Deaffiliated)) None
verdict Affiliated named listed = cond listed None (Some Deaffiliated)
verdict Deaffiliating named listed = cond listed None (Some Deaffiliated)
verdict Deaffiliated named listed = None

-- an entry that becomes affiliated ends no later than the owner says; one that becomes deaffiliated ends now
abbrev pub end_by : Status → ℕ → ℕ → ℕ → ℕ
end_by Affiliating end time until = end
end_by Affiliated end time until = min end until
end_by Deaffiliating end time until = end
end_by Deaffiliated end time until = time

-- the entry with its new status, if any
abbrev pub turned_to : ℕ → ℕ → Entry → Option Status → Entry
turned_to time until e None = e
turned_to time until e (Some status) = record { group = e.group; status = status; end = end_by status e.end time until; serial = e.serial }

-- what the word says of an entry of a radio that is listed or not
abbrev pub verdict_on : ℕ → Notify → Bool → Entry → Option Status
verdict_on time n listed e = cond (living time n.group e) (verdict e.status (is_serial n.serial e.serial) listed) None

-- the entry after the word
abbrev pub notified : ℕ → Notify → Bool → Entry → Entry
notified time n listed e = turned_to time (time + n.interval) e (verdict_on time n listed e)

-- one status changes, or none
abbrev pub is_turned : Option Status → ℕ
is_turned None = 0
is_turned (Some status) = 1

-- how many statuses of a row change
abbrev pub turned_in : ℕ → Notify → Bool → List Entry → ℕ
turned_in time n listed [] = 0
turned_in time n listed (e ∷ es) = is_turned (verdict_on time n listed e) + turned_in time n listed es

-- the rows of radios 1 to 4 after the word
abbrev pub rows_told : ℕ → Notify → List (List Entry) → List (List Entry)
rows_told time n rows =
    map (notified time n (has_radio n.radios 1)) (row_of rows 1)
    ∷ map (notified time n (has_radio n.radios 2)) (row_of rows 2)
    ∷ map (notified time n (has_radio n.radios 3)) (row_of rows 3)
    ∷ map (notified time n (has_radio n.radios 4)) (row_of rows 4) ∷ []

-- how many statuses of the user change
abbrev pub statuses_told : ℕ → Notify → List (List Entry) → ℕ
statuses_told time n rows =
    turned_in time n (has_radio n.radios 1) (row_of rows 1) + turned_in time n (has_radio n.radios 2) (row_of rows 2)
    + turned_in time n (has_radio n.radios 3) (row_of rows 3) + turned_in time n (has_radio n.radios 4) (row_of rows 4)

-- the refusals of NOTIFY: 5, 8
abbrev pub notify_refusal : Standing → Notify → Option Refusal
notify_refusal s n =
    cond (not (is_group n.group && is_radio_set n.radios)) (Some NumberOutOfRange)
    (cond (not s.enrolled) (Some NotEnrolled) None)

-- NOTIFY's answer: the number of statuses changed
unfoldable pub notify_answer : ℕ → Standing → Notify → Result ℕ Refusal
notify_answer time s n = elim (notify_refusal s n) [ Some refusal ↦ Err refusal | None ↦ Ok (statuses_told time n s.rows) ]

-- the user after NOTIFY
unfoldable pub after_notify : ℕ → Standing → Notify → Standing
after_notify time s n =
    elim (notify_refusal s n) [
      | Some refusal ↦ s
      | None ↦ record { enrolled = s.enrolled; limit = s.limit; next = s.next; rows = rows_told time n s.rows }
    ]

-- the refusals of STATUS: 5, 8
abbrev pub status_refusal : Standing → ℕ → ℕ → Option Refusal
status_refusal s radio group =
    cond (not (is_radio radio && is_group group)) (Some NumberOutOfRange) (cond (not s.enrolled) (Some NotEnrolled) None)

-- STATUS's answer: whether the radio holds the group
abbrev pub status_answer : ℕ → Standing → ℕ → ℕ → Result Bool Refusal
status_answer time s radio group =
    elim (status_refusal s radio group) [ Some refusal ↦ Err refusal | None ↦ Ok (holds time group (row_of s.rows radio)) ]
