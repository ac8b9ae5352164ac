-- Who is enrolled, and what ENROL does.
use Rattle.std.specs.Prelude.{ℕ, ◌-◌, Bool, true, cond, not, ◌&&◌, List, is_some, Some, None, count_by, Option, nat_le, slice_set}
use Rattle.mcptt.specs.Ranges.{is_served}
use Rattle.mcptt.specs.declared.refusal.Refusal.{Refusal}
use Rattle.mcptt.specs.declared.refusal.Refusal.TheVariants.{NumberOutOfRange, AlreadyEnrolled, EnrolmentOutOfRange}
use Rattle.rows.specs.Standings.{Standing}
use Rattle.serving.specs.declared.state.Serving.{Serving}
use Rattle.serving.specs.States.{standings, standing_of, has_enrolled}

-- a user of 1 to 64 who was enrolled
abbrev pub is_enrolled : Serving → ℕ → Bool
is_enrolled s user = is_served user && (standing_of s user).enrolled

-- how many users are enrolled
abbrev pub enrolled_of : Serving → ℕ
enrolled_of s = count_by has_enrolled s.accounts

-- a limit N2 of 1 to 16, and a first serial that is not 0
abbrev pub can_enrol : ℕ → ℕ → Bool
can_enrol limit serial = (nat_le 1 limit && nat_le limit 16) && nat_le 1 serial

-- what ENROL refuses, and with what: 5, 6, 7
abbrev pub enrol_refusal : Serving → ℕ → ℕ → ℕ → Option Refusal
enrol_refusal s user limit serial =
    cond (not (is_served user)) (Some NumberOutOfRange)
    (cond (is_enrolled s user) (Some AlreadyEnrolled)
    (cond (not (can_enrol limit serial)) (Some EnrolmentOutOfRange) None))

-- the same rows, with that limit and that next serial
abbrev pub enrolled_with : Standing → ℕ → ℕ → Standing
enrolled_with s limit serial = record { enrolled = true; limit = limit; next = serial; rows = s.rows }

-- how the users stand after ENROL; a refusal changes nothing
abbrev pub after_enrol : Serving → ℕ → ℕ → ℕ → List Standing
after_enrol s user limit serial =
    cond (is_some (enrol_refusal s user limit serial)) (standings s)
    (slice_set (standings s) (user - 1) (enrolled_with (standing_of s user) limit serial))
