-- The calls of one user among many: what is refused before that user's standing is asked, what is answered, and what there is after.
use Rattle.std.specs.Prelude.{ℕ, ◌-◌, Bool, cond, List, Some, None, Err, Option, Result, nat_lt, slice_set}
use Rattle.mcptt.specs.Ranges.{is_served}
use Rattle.mcptt.specs.declared.refusal.Refusal.{Refusal}
use Rattle.mcptt.specs.declared.refusal.Refusal.TheVariants.{OutgoingTooShort, NumberOutOfRange}
use Rattle.rows.specs.declared.request.Request.{Request}
use Rattle.rows.specs.Standings.{Standing}
use Rattle.change.specs.Changes.{Moment, moment, Change, Leave, change_answer, after_change, out_after_change, leave_answer, after_leave, out_after_leave}
use Rattle.serving.specs.declared.state.Serving.{Serving}
use Rattle.serving.specs.States.{standings, standing_of}

-- a user whom the gateway does not serve: 5
abbrev pub user_refusal : ℕ → Option Refusal
user_refusal user = cond (is_served user) None (Some NumberOutOfRange)

-- a call that sends wants 24 places in the outgoing list, and a user: 4, 5
abbrev pub sending_refusal : ℕ → ℕ → Option Refusal
sending_refusal places user = cond (nat_lt places 24) (Some OutgoingTooShort) (user_refusal user)

-- the answer by the user's standing, unless the call is refused first
abbrev pub answer_unless : {X : Type 0} → Option Refusal → Result X Refusal → Result X Refusal
answer_unless None answer = answer
answer_unless (Some refusal) answer = Err refusal

-- what there is after; what there was before, where the call is refused first
abbrev pub after_unless : {X : Type 0} → Option Refusal → X → X → X
after_unless None before after = after
after_unless (Some refusal) before after = before

-- the standings once this user's is another
abbrev pub with_standing : Serving → ℕ → Standing → List Standing
with_standing s user new = slice_set (standings s) (user - 1) new

-- the time, timer F, and the order of the groups for a user
abbrev pub moment_of : Serving → (ℕ → ℕ → ℕ → Bool) → ℕ → Moment
moment_of s order user = moment s.time.seconds s.settings.timer (order user)

-- CHANGE: the answer, the standings after, and the outgoing list after
abbrev pub serving_change : Serving → (ℕ → ℕ → ℕ → Bool) → Change → Result (ℕ × ℕ) Refusal
serving_change s order c =
    answer_unless (sending_refusal c.places c.user) (change_answer (moment_of s order c.user) (standing_of s c.user) c)

abbrev pub standings_after_change : Serving → (ℕ → ℕ → ℕ → Bool) → Change → List Standing
standings_after_change s order c =
    after_unless (sending_refusal c.places c.user) (standings s)
    (with_standing s c.user (after_change (moment_of s order c.user) (standing_of s c.user) c))

abbrev pub outgoing_after_change : Serving → (ℕ → ℕ → ℕ → Bool) → Change → List Request → List Request
outgoing_after_change s order c out =
    after_unless (sending_refusal c.places c.user) out
    (out_after_change (moment_of s order c.user) (standing_of s c.user) c out)

-- LEAVE: the same three
abbrev pub serving_leave : Serving → Leave → Result ℕ Refusal
serving_leave s c =
    answer_unless (sending_refusal c.places c.user) (leave_answer s.time.seconds s.settings.timer (standing_of s c.user) c)

abbrev pub standings_after_leave : Serving → Leave → List Standing
standings_after_leave s c =
    after_unless (sending_refusal c.places c.user) (standings s)
    (with_standing s c.user (after_leave s.time.seconds s.settings.timer (standing_of s c.user) c))

abbrev pub outgoing_after_leave : Serving → Leave → List Request → List Request
outgoing_after_leave s c out =
    after_unless (sending_refusal c.places c.user) out
    (out_after_leave s.time.seconds s.settings.timer (standing_of s c.user) c out)
