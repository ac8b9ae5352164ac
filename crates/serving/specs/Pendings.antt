-- BEGIN, COMPLETE and CANCEL of a user: the answers, the standings after, and the token.
use Rattle.std.specs.Prelude.{ℕ, Bool, false, List, Ok, Err, Result}
use Rattle.mcptt.specs.declared.refusal.Refusal.{Refusal}
use Rattle.rows.specs.Standings.{Standing}
use Rattle.notice.specs.Implicit.{begin_answer, after_begin, complete_answer, after_complete, cancel_answer, after_cancel}
use Rattle.serving.specs.declared.state.Serving.{Serving}
use Rattle.serving.specs.declared.pending.Pending.{Pending}
use Rattle.serving.specs.States.{standings, standing_of}
use Rattle.serving.specs.Calls.{user_refusal, answer_unless, after_unless, with_standing}

-- BEGIN: the serial of the pending affiliation
abbrev pub serving_begin : Serving → ℕ → ℕ → ℕ → Result ℕ Refusal
serving_begin s user radio group = answer_unless (user_refusal user) (begin_answer s.time.seconds (standing_of s user) radio group)

abbrev pub standings_after_begin : Serving → ℕ → ℕ → ℕ → List Standing
standings_after_begin s user radio group =
    after_unless (user_refusal user) (standings s) (with_standing s user (after_begin s.time.seconds (standing_of s user) radio group))

-- the token of the pending affiliation that has this serial, not yet settled
abbrev pub pending_of : ℕ → ℕ → ℕ → ℕ → Pending
pending_of user radio group serial =
    record {
      user = record { number = user };
      begun = record { radio = record { number = radio }; group = record { number = group }; serial = serial };
      settled = false;
    }

abbrev pub handed_out : ℕ → ℕ → ℕ → Result ℕ Refusal → Result Pending Refusal
handed_out user radio group (Ok serial) = Ok (pending_of user radio group serial)
handed_out user radio group (Err refusal) = Err refusal

-- COMPLETE: whether there was such a pending affiliation
abbrev pub serving_complete : Serving → ℕ → ℕ → ℕ → ℕ → Result Bool Refusal
serving_complete s user radio group serial =
    answer_unless (user_refusal user) (complete_answer s.time.seconds (standing_of s user) radio group serial)

abbrev pub standings_after_complete : Serving → ℕ → ℕ → ℕ → ℕ → List Standing
standings_after_complete s user radio group serial =
    after_unless (user_refusal user) (standings s)
    (with_standing s user (after_complete s.time.seconds (standing_of s user) radio group serial))

-- CANCEL: the same
abbrev pub serving_cancel : Serving → ℕ → ℕ → ℕ → ℕ → Result Bool Refusal
serving_cancel s user radio group serial = answer_unless (user_refusal user) (cancel_answer (standing_of s user) radio group serial)

abbrev pub standings_after_cancel : Serving → ℕ → ℕ → ℕ → ℕ → List Standing
standings_after_cancel s user radio group serial =
    after_unless (user_refusal user) (standings s) (with_standing s user (after_cancel (standing_of s user) radio group serial))
