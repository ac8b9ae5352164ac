-- The ranges of identities, sets of radios and settings.
use Rattle.std.specs.Prelude.{ℕ, ◌+◌, ◌-◌, ◌/◌, ◌%◌, ◌^◌, Bool, cond, ◌&&◌, ◌==◌, nat_le}

-- a user of any gateway; one whom this gateway serves
abbrev pub is_user : ℕ → Bool
is_user n = nat_le 1 n

abbrev pub is_served : ℕ → Bool
is_served n = nat_le 1 n && nat_le n 64

abbrev pub is_radio : ℕ → Bool
is_radio n = nat_le 1 n && nat_le n 4

abbrev pub is_group : ℕ → Bool
is_group n = nat_le 1 n

-- a set of radios, bit 0 for radio 1
abbrev pub is_radio_set : ℕ → Bool
is_radio_set bits = nat_le bits 15

-- the set has this radio
abbrev pub has_radio : ℕ → ℕ → Bool
has_radio bits radio = bits / 2 ^ (radio - 1) % 2 == 1

-- the set of those radios for which the mark is true
abbrev pub set_of : Bool → Bool → Bool → Bool → ℕ
set_of one two three four = cond one 1 0 + cond two 2 0 + cond three 4 0 + cond four 8 0

-- timer F and the grant G, in seconds
abbrev pub is_timer : ℕ → Bool
is_timer f = nat_le 1 f && nat_le f 3600

abbrev pub is_grant : ℕ → Bool
is_grant g = nat_le 2592000 g && nat_le g 4294967295

-- F and G of a gateway that was given no settings: F is 64 times half a second, G thirty days
abbrev pub usual_timer : ℕ
usual_timer = 32

abbrev pub usual_grant : ℕ
usual_grant = 2592000
