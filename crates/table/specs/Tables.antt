-- Which records are live, and where the first one stands.
use Rattle.std.specs.Prelude.{ℕ, Bool, ◌&&◌, List, Option, ◌==◌, nat_lt, position}

-- it ends later than the time
abbrev pub live : {X : Type 0} → (X → ℕ) → ℕ → X → Bool
live until time x = nat_lt time (until x)

-- it is kept by that key
abbrev pub of_key : {X : Type 0} → (X → ℕ) → ℕ → X → Bool
of_key ident key x = ident x == key

-- it is kept by that key, and is live
abbrev pub live_of : {X : Type 0} → (X → ℕ) → (X → ℕ) → ℕ → ℕ → X → Bool
live_of ident until key time x = of_key ident key x && live until time x

-- the place of the first that passes
abbrev pub first_place : {X : Type 0} → (X → Bool) → List X → Option ℕ
first_place p xs = position p xs
