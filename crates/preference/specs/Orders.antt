-- An order of groups by a rank of each.
use Rattle.std.specs.Prelude.{ℕ, Bool, ◌&&◌, ◌||◌, ◌==◌, nat_lt}

-- the smaller rank comes first, then the smaller group
abbrev pub by_rank : (ℕ → ℕ) → ℕ → ℕ → Bool
by_rank rank a b = nat_lt (rank a) (rank b) || (rank a == rank b && nat_lt a b)
