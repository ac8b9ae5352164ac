-- CHANGE and LEAVE of a user: what is refused, what is answered, how the user stands after, and what goes out.
use Rattle.std.specs.Prelude.{ℕ, ◌+◌, ◌-◌, ◌*◌, Bool, cond, not, List, ◌++◌, length, drop, Some, None, Ok, Err, Option, Result, ◌==◌, nat_lt, slice_set}
use Rattle.mcptt.specs.Ranges.{is_radio}
use Rattle.mcptt.specs.declared.identity.GroupId.{GroupId}
use Rattle.mcptt.specs.declared.refusal.Refusal.{Refusal}
use Rattle.mcptt.specs.declared.refusal.Refusal.TheVariants.{OutgoingTooShort, NumberOutOfRange, NotEnrolled, IntervalZero, WantedListFaulty, SerialsUsedUp, RowTooLong}
use Rattle.rows.specs.declared.entry.Entry.{Entry}
use Rattle.rows.specs.declared.request.Request.{Request}
use Rattle.rows.specs.Standings.{Standing}
use Rattle.rows.specs.Holdings.{row_of, held_elsewhere}
use Rattle.change.specs.declared.plan.Move.{Move}
use Rattle.change.specs.Keeping.{kept_of, may_want}
use Rattle.change.specs.Moves.{changed_row, left_row}
use Rattle.change.specs.Requests.{settled, requests_for}

-- what a call sees besides the user's own standing: the time, timer F, and the order of the groups for this user
pub record Moment : Type 0 where
  pub time : ℕ
  pub timer : ℕ
  pub before : ℕ → ℕ → Bool

-- a CHANGE: the user, a radio, an interval, the wanted groups, and how many places the outgoing list has
pub record Change : Type 0 where
  pub user : ℕ
  pub radio : ℕ
  pub interval : ℕ
  pub wanted : List GroupId
  pub places : ℕ

-- a LEAVE
pub record Leave : Type 0 where
  pub user : ℕ
  pub radio : ℕ
  pub places : ℕ

-- the three by their parts
abbrev pub moment : ℕ → ℕ → (ℕ → ℕ → Bool) → Moment
moment time timer before = record { time = time; timer = timer; before = before }

abbrev pub change_of : ℕ → ℕ → ℕ → List GroupId → ℕ → Change
change_of user radio interval wanted places = record { user = user; radio = radio; interval = interval; wanted = wanted; places = places }

abbrev pub leave_of : ℕ → ℕ → ℕ → Leave
leave_of user radio places = record { user = user; radio = radio; places = places }

-- the wanted groups that are kept
abbrev pub kept_groups : Moment → Standing → Change → List GroupId
kept_groups m s c = kept_of m.before (held_elsewhere m.time c.radio s.rows) s.limit c.wanted

-- what becomes of the row: a kept group's entry ends after the interval, one that is given up after twice timer F
abbrev pub change_moves : Moment → Standing → Change → List Move
change_moves m s c =
    changed_row (kept_groups m s c) m.time (m.time + c.interval) (m.time + 2 * m.timer) (row_of s.rows c.radio)

-- LEAVE asks for no order: the time, timer F, and the user's own standing
abbrev pub leave_moves : ℕ → ℕ → Standing → Leave → List Move
leave_moves time timer s c = left_row time (time + 2 * timer) (row_of s.rows c.radio)

-- the highest next serial at which a call may still use 24 of them
abbrev pub last_serial : ℕ
last_serial = 4294967271

-- the refusals that both have first, 4, 5, 8, and then those that follow; the places, the radio, and whether the user is enrolled
abbrev pub first_refusal : ℕ → ℕ → Bool → Option Refusal → Option Refusal
first_refusal places radio enrolled following =
    cond (nat_lt places 24) (Some OutgoingTooShort)
    (cond (not (is_radio radio)) (Some NumberOutOfRange)
    (cond (not enrolled) (Some NotEnrolled) following))

-- the refusals of CHANGE, in rising number: 4, 5, 8, 9, 10, 11, 12
abbrev pub change_refusal : Moment → Standing → Change → Option Refusal
change_refusal m s c =
    first_refusal c.places c.radio s.enrolled
    (cond (c.interval == 0) (Some IntervalZero)
    (cond (not (may_want c.wanted)) (Some WantedListFaulty)
    (cond (nat_lt last_serial s.next) (Some SerialsUsedUp)
    (cond (nat_lt 24 (length (change_moves m s c))) (Some RowTooLong) None))))

-- the refusals of LEAVE: 4, 5, 8, 11
abbrev pub leave_refusal : Standing → Leave → Option Refusal
leave_refusal s c =
    first_refusal c.places c.radio s.enrolled (cond (nat_lt last_serial s.next) (Some SerialsUsedUp) None)

-- the rows once a radio's row is the one that these moves make
abbrev pub rows_after : Standing → ℕ → List Move → List (List Entry)
rows_after s radio moves = slice_set s.rows (radio - 1) (settled s.next moves)

-- the requests that go out for these moves
abbrev pub sent_for : ℕ → Standing → ℕ → ℕ → List Move → List Request
sent_for time s user radio moves = requests_for user time (rows_after s radio moves) s.next moves

-- how the user stands after these moves: one row is new, and each request took a serial
abbrev pub standing_after : ℕ → Standing → ℕ → ℕ → List Move → Standing
standing_after time s user radio moves =
    record {
      enrolled = s.enrolled;
      limit = s.limit;
      next = s.next + length (sent_for time s user radio moves);
      rows = rows_after s radio moves;
    }

-- the outgoing list: the requests are its first places, and the places behind are as they were
abbrev pub filled : List Request → List Request → List Request
filled sent out = sent ++ drop (length sent) out

-- how many wanted groups are turned down
abbrev pub turned_down_count : Moment → Standing → Change → ℕ
turned_down_count m s c = length c.wanted - length (kept_groups m s c)

-- CHANGE: its answer, the pair of requests sent and wanted groups turned down; the standing after; the outgoing list after
unfoldable pub change_answer : Moment → Standing → Change → Result (ℕ × ℕ) Refusal
change_answer m s c =
    elim (change_refusal m s c) [
      | Some refusal ↦ Err refusal
      | None ↦ Ok (length (sent_for m.time s c.user c.radio (change_moves m s c)), turned_down_count m s c)
    ]

unfoldable pub after_change : Moment → Standing → Change → Standing
after_change m s c =
    elim (change_refusal m s c) [ Some refusal ↦ s | None ↦ standing_after m.time s c.user c.radio (change_moves m s c) ]

unfoldable pub out_after_change : Moment → Standing → Change → List Request → List Request
out_after_change m s c out =
    elim (change_refusal m s c) [ Some refusal ↦ out | None ↦ filled (sent_for m.time s c.user c.radio (change_moves m s c)) out ]

-- LEAVE: its answer, the requests sent; the standing after; the outgoing list after
unfoldable pub leave_answer : ℕ → ℕ → Standing → Leave → Result ℕ Refusal
leave_answer time timer s c =
    elim (leave_refusal s c) [ Some refusal ↦ Err refusal | None ↦ Ok (length (sent_for time s c.user c.radio (leave_moves time timer s c))) ]

unfoldable pub after_leave : ℕ → ℕ → Standing → Leave → Standing
after_leave time timer s c =
    elim (leave_refusal s c) [ Some refusal ↦ s | None ↦ standing_after time s c.user c.radio (leave_moves time timer s c) ]

unfoldable pub out_after_leave : ℕ → ℕ → Standing → Leave → List Request → List Request
out_after_leave time timer s c out =
    elim (leave_refusal s c) [ Some refusal ↦ out | None ↦ filled (sent_for time s c.user c.radio (leave_moves time timer s c)) out ]
