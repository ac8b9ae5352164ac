-- How the users of the serving half stand.
use Rattle.std.specs.Prelude.{◌≡◌, ℕ, ◌-◌, Bool, List, is_some, map, slice_index_or, slice_set}
use Rattle.rows.specs.declared.account.Account.{Account}
use Rattle.rows.specs.Standings.{Standing, standing, unused, no_account}
use Rattle.serving.specs.declared.state.Serving.{Serving}

-- the standings of users 1 to 64; user n stands at place n - 1
abbrev pub standings : Serving → List Standing
standings s = map standing s.accounts

abbrev pub standing_of : Serving → ℕ → Standing
standing_of s user = slice_index_or (standings s) (user - 1) unused

-- the account of a user, as it is kept
abbrev pub account_of : Serving → ℕ → Account
account_of s user = slice_index_or s.accounts (user - 1) no_account

abbrev pub has_enrolled : Account → Bool
has_enrolled a = is_some a.enrolment

-- from a to b all is, as a value, what it was, but for the account of this user
pub record OthersSame (user : ℕ) (a b : Serving) : Type 0 where
  pub settings : b.settings ≡ a.settings
  pub time : b.time ≡ a.time
  pub accounts : b.accounts ≡ slice_set a.accounts (user - 1) (account_of b user)
