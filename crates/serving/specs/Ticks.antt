-- What TICK refuses, and the time after it.
use Rattle.std.specs.Prelude.{ℕ, cond, not, is_some, Some, None, Option, nat_lt}
use Rattle.mcptt.specs.declared.refusal.Refusal.{Refusal}
use Rattle.mcptt.specs.declared.refusal.Refusal.TheVariants.{TimeBackwards, TimeTooFar}
use Rattle.rows.specs.Times.{is_time}

-- the refusals of TICK, by the present time and the one named: 2, 3
abbrev pub tick_refusal : ℕ → ℕ → Option Refusal
tick_refusal present named =
    cond (nat_lt named present) (Some TimeBackwards)
    (cond (not (is_time named)) (Some TimeTooFar) None)

-- the time is the one named, unless that is refused
abbrev pub time_after : ℕ → ℕ → ℕ
time_after present named = cond (is_some (tick_refusal present named)) present named
