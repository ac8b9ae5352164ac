-- The rules of a document.
use Rattle.std.specs.Prelude.{ℕ, ◌+◌, Bool, true, false, cond, not, ◌&&◌, ◌||◌, List, [], ◌∷◌, length, ◌==◌, nat_le, nat_lt}
use Rattle.sheet.specs.declared.document.Member.{Member}
use Rattle.sheet.specs.declared.document.Document.{Document}
use Rattle.sheet.specs.Contents.{Content, content}

-- some member is this user
abbrev pub names : ℕ → List Member → Bool
names user [] = false
names user (m ∷ ms) = m.user.number == user || names user ms

-- the number of a user or of a group: 32 bits, from 1
abbrev pub numbered : ℕ → Bool
numbered n = nat_lt 0 n && nat_lt n 4294967296

-- the members are different users
abbrev pub different : List Member → Bool
different [] = true
different (m ∷ ms) = numbered m.user.number && (not (names m.user.number ms) && different ms)

-- how many members are required
abbrev pub required_of : List Member → ℕ
required_of [] = 0
required_of (m ∷ ms) = cond m.required 1 0 + required_of ms

-- a group, with a limit of 1 to 64, 0 to 64 different members, and no more required ones than the limit
abbrev pub keeps_rules : ℕ → Content → Bool
keeps_rules group c =
    numbered group
    && ((nat_lt 0 c.limit && nat_le c.limit 64)
    && (nat_le (length c.members) 64 && (different c.members && nat_le (required_of c.members) c.limit)))

-- a document in memory may break the rules by its count too
abbrev pub lawful : ℕ → Document → Bool
lawful group d = nat_le d.count 64 && keeps_rules group (content d)
