-- Implicit affiliation: BEGIN, COMPLETE and CANCEL.
use Rattle.std.specs.Prelude.{ℕ, ◌+◌, ◌-◌, Bool, false, cond, not, ◌&&◌, List, [], ◌∷◌, ◌++◌, map, length, Some, None, Ok, Err, filter, Option, Result, ◌==◌, nat_le, nat_lt, slice_set}
use Rattle.mcptt.specs.Ranges.{is_radio, is_group}
use Rattle.mcptt.specs.declared.refusal.Refusal.{Refusal}
use Rattle.mcptt.specs.declared.refusal.Refusal.TheVariants.{NumberOutOfRange, NotEnrolled, SerialsUsedUp, RowTooLong, HeldAlready, LimitReached}
use Rattle.rows.specs.declared.entry.Status.TheVariants.{Affiliating, Affiliated}
use Rattle.rows.specs.declared.entry.Entry.{Entry}
use Rattle.std.specs.List.{list_any}
use Rattle.rows.specs.Entries.{live, of_group, is_affiliating, holds, lives}
use Rattle.rows.specs.Standings.{Standing}
use Rattle.rows.specs.Holdings.{row_of, user_holds, held_groups}

-- an implicit affiliation lasts 4,294,967,295 seconds
abbrev pub implicit_time : ℕ
implicit_time = 4294967295

-- an entry of the group, from now on affiliating with this end and serial; an entry of another group stays
abbrev pub pending_in : ℕ → ℕ → ℕ → Entry → Entry
pending_in group until serial e =
    cond (of_group group e) (record { group = e.group; status = Affiliating; end = until; serial = serial }) e

-- a new entry of the group, affiliating with this end and serial
abbrev pub pending_entry : ℕ → ℕ → ℕ → Entry
pending_entry group until serial = record { group = record { number = group }; status = Affiliating; end = until; serial = serial }

-- the row that BEGIN makes: dead entries are dropped; the group's live entry is taken, or a new one stands at the end
abbrev pub begun_row : ℕ → ℕ → ℕ → List Entry → List Entry
begun_row time group serial entries =
    map (pending_in group (time + implicit_time) serial) (filter (live time) entries)
    ++ cond (lives time group entries) [] (pending_entry group (time + implicit_time) serial ∷ [])

-- the user holds N2 groups and not this one
abbrev pub at_limit : ℕ → Standing → ℕ → Bool
at_limit time s group = nat_le s.limit (length (held_groups time s.rows)) && not (user_holds time group s.rows)

-- the refusals of BEGIN: 5, 8, 11, 12, 13, 14
abbrev pub begin_refusal : ℕ → Standing → ℕ → ℕ → Option Refusal
begin_refusal time s radio group =
    cond (not (is_radio radio && is_group group)) (Some NumberOutOfRange)
    (cond (not s.enrolled) (Some NotEnrolled)
    (cond (nat_lt 4294967271 s.next) (Some SerialsUsedUp)
    (cond (nat_lt 24 (length (begun_row time group s.next (row_of s.rows radio)))) (Some RowTooLong)
    (cond (holds time group (row_of s.rows radio)) (Some HeldAlready)
    (cond (at_limit time s group) (Some LimitReached) None)))))

-- the user once BEGIN is carried out
abbrev pub begun : ℕ → Standing → ℕ → ℕ → Standing
begun time s radio group =
    record {
      enrolled = s.enrolled;
      limit = s.limit;
      next = s.next + 1;
      rows = slice_set s.rows (radio - 1) (begun_row time group s.next (row_of s.rows radio));
    }

-- BEGIN's answer: the serial of the pending affiliation
unfoldable pub begin_answer : ℕ → Standing → ℕ → ℕ → Result ℕ Refusal
begin_answer time s radio group = elim (begin_refusal time s radio group) [ Some refusal ↦ Err refusal | None ↦ Ok s.next ]

-- the user after BEGIN
unfoldable pub after_begin : ℕ → Standing → ℕ → ℕ → Standing
after_begin time s radio group = elim (begin_refusal time s radio group) [ Some refusal ↦ s | None ↦ begun time s radio group ]

-- the same user with another row of one radio
abbrev pub with_row : Standing → ℕ → List Entry → Standing
with_row s radio entries = record { enrolled = s.enrolled; limit = s.limit; next = s.next; rows = slice_set s.rows (radio - 1) entries }

-- an affiliating entry of this group and serial, live or not
abbrev pub pends : ℕ → ℕ → Entry → Bool
pends group serial e = (is_affiliating e.status && of_group group e) && e.serial == serial

-- the same, while it is live
abbrev pub pends_live : ℕ → ℕ → ℕ → Entry → Bool
pends_live time group serial e = pends group serial e && live time e

-- the refusal of COMPLETE and CANCEL: 5
abbrev pub pending_refusal : ℕ → ℕ → Option Refusal
pending_refusal radio group = cond (not (is_radio radio && is_group group)) (Some NumberOutOfRange) None

-- the radio has such an entry; who is not enrolled has none
abbrev pub has_pending : (Entry → Bool) → Standing → ℕ → Bool
has_pending test s radio = s.enrolled && list_any test (row_of s.rows radio)

-- the answer is yes
abbrev pub is_yes : Result Bool Refusal → Bool
is_yes (Ok answer) = answer
is_yes (Err refusal) = false

-- the pending entry, if it is live, from now on affiliated; any other entry stays
abbrev pub completed : ℕ → ℕ → ℕ → Entry → Entry
completed time group serial e =
    cond (pends_live time group serial e) (record { group = e.group; status = Affiliated; end = e.end; serial = e.serial }) e

-- COMPLETE's answer: yes if the live entry is there
unfoldable pub complete_answer : ℕ → Standing → ℕ → ℕ → ℕ → Result Bool Refusal
complete_answer time s radio group serial =
    elim (pending_refusal radio group) [ Some refusal ↦ Err refusal | None ↦ Ok (has_pending (pends_live time group serial) s radio) ]

-- the user after COMPLETE
unfoldable pub after_complete : ℕ → Standing → ℕ → ℕ → ℕ → Standing
after_complete time s radio group serial =
    elim (pending_refusal radio group) [
      | Some refusal ↦ s
      | None ↦ cond (has_pending (pends_live time group serial) s radio) (with_row s radio (map (completed time group serial) (row_of s.rows radio))) s
    ]

-- CANCEL's answer: yes if the entry is there, live or not
unfoldable pub cancel_answer : Standing → ℕ → ℕ → ℕ → Result Bool Refusal
cancel_answer s radio group serial =
    elim (pending_refusal radio group) [ Some refusal ↦ Err refusal | None ↦ Ok (has_pending (pends group serial) s radio) ]

-- the user after CANCEL, without that entry
unfoldable pub after_cancel : Standing → ℕ → ℕ → ℕ → Standing
after_cancel s radio group serial =
    elim (pending_refusal radio group) [
      | Some refusal ↦ s
      | None ↦ cond (has_pending (pends group serial) s radio) (with_row s radio (filter (λ e. not (pends group serial e)) (row_of s.rows radio))) s
    ]
