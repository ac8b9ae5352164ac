-- NOTIFY, OUTCOME and STATUS of a user: the answers, and the standings after.
use Rattle.std.specs.Prelude.{ℕ, Bool, List, Result}
use Rattle.mcptt.specs.declared.refusal.Refusal.{Refusal}
use Rattle.rows.specs.Standings.{Standing}
use Rattle.notice.specs.declared.event.Event.{Event}
use Rattle.notice.specs.Notices.{Notify, notify_answer, after_notify, status_answer}
use Rattle.notice.specs.Outcomes.{outcome_answer, after_outcome}
use Rattle.serving.specs.declared.state.Serving.{Serving}
use Rattle.serving.specs.States.{standings, standing_of}
use Rattle.serving.specs.Calls.{user_refusal, answer_unless, after_unless, with_standing}

-- NOTIFY
abbrev pub serving_notify : Serving → ℕ → Notify → Result ℕ Refusal
serving_notify s user word = answer_unless (user_refusal user) (notify_answer s.time.seconds (standing_of s user) word)

abbrev pub standings_after_notify : Serving → ℕ → Notify → List Standing
standings_after_notify s user word =
    after_unless (user_refusal user) (standings s) (with_standing s user (after_notify s.time.seconds (standing_of s user) word))

-- what became of the request with this serial
abbrev pub serving_outcome : Serving → ℕ → ℕ → Event → Result ℕ Refusal
serving_outcome s user serial event = answer_unless (user_refusal user) (outcome_answer (standing_of s user) serial event)

abbrev pub standings_after_outcome : Serving → ℕ → ℕ → Event → List Standing
standings_after_outcome s user serial event =
    after_unless (user_refusal user) (standings s) (with_standing s user (after_outcome (standing_of s user) serial event))

-- whether the radio holds the group
abbrev pub serving_status : Serving → ℕ → ℕ → ℕ → Result Bool Refusal
serving_status s user radio group = answer_unless (user_refusal user) (status_answer s.time.seconds (standing_of s user) radio group)
