-- The accounts as they are read and put back.
use Rattle.std.proofs.Common.{◌≡◌, ℕ, ◌<◌, List, map, length, get_or, set, sym}
use Rattle.std.proofs.lemmas.List.{map-set, get_or-map}
use Rattle.rows.specs.declared.account.Account.{Account}
use Rattle.rows.specs.Standings.{standing, unused}

-- the standing of an account as it is read
pub account_read : (accounts : List Account) (k : ℕ) (d : Account) → k < length accounts → standing (get_or accounts k d) ≡ get_or (map standing accounts) k unused
account_read accounts k d h = sym (get_or-map standing accounts k d unused h)

-- the standings once an account is put in its place
pub account_put : (accounts : List Account) (k : ℕ) (account : Account) → map standing (set accounts k account) ≡ set (map standing accounts) k (standing account)
account_put accounts k account = map-set standing accounts k account

pub ruleset accounts = (account_read, account_put)
