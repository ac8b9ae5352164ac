-- The zones of groups, and how far they lie from a user's home zone.
use Rattle.std.specs.Prelude.{ℕ, ◌+◌, ◌-◌, ◌/◌, List, slice_index}

-- the zone of a group is its upper 16 bits
abbrev pub zone_of : ℕ → ℕ
zone_of g = g / 65536

-- the distance between two zone numbers; one of the two differences is 0, since `-` stops there
abbrev pub distance : ℕ → ℕ → ℕ
distance x y = (x - y) + (y - x)

-- the home zone of a user, of whom user 1 has the first
abbrev pub home_of : List ℕ → ℕ → ℕ
home_of homes u = slice_index homes (u - 1)

-- how far the zone of a group lies from the home zone of a user
abbrev pub far_from_home : List ℕ → ℕ → ℕ → ℕ
far_from_home homes u g = distance (zone_of g) (home_of homes u)
