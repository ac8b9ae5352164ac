-- The range of a time.
use Rattle.std.specs.Prelude.{ℕ, Bool, nat_le}

-- a time that TICK may name, in whole seconds
abbrev pub is_time : ℕ → Bool
is_time seconds = nat_le seconds 1099511627776
