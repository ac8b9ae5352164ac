-- Which of the wanted groups are kept.
use Rattle.std.specs.Prelude.{ℕ, Bool, true, cond, not, ◌&&◌, ◌||◌, List, [], ◌∷◌, length, filter, nat_le, nat_lt}
use Rattle.mcptt.specs.declared.identity.GroupId.{GroupId}
use Rattle.rows.specs.Lists.{member, noted}

-- the groups of a list, and those of another that pass, each once
abbrev pub joined_by : (GroupId → Bool) → List GroupId → List GroupId → List GroupId
joined_by p [] found = found
joined_by p (w ∷ ws) found = joined_by p ws (cond (p w) (noted found w) found)

-- how many different groups the other radios hold, together with the wanted ones that come before this one
abbrev pub ahead_of : (ℕ → ℕ → Bool) → List GroupId → List GroupId → ℕ → ℕ
ahead_of before others wanted g = length (joined_by (λ w. before w.number g) wanted others)

-- another radio holds it, or fewer than N2 are ahead of it
abbrev pub is_kept : (ℕ → ℕ → Bool) → List GroupId → ℕ → List GroupId → GroupId → Bool
is_kept before others limit wanted g = member g.number others || nat_lt (ahead_of before others wanted g.number) limit

-- the wanted groups that are kept, in the order in which they are wanted
abbrev pub kept_of : (ℕ → ℕ → Bool) → List GroupId → ℕ → List GroupId → List GroupId
kept_of before others limit wanted = filter (is_kept before others limit wanted) wanted

-- no group is 0, and none stands twice
abbrev pub proper : List GroupId → Bool
proper [] = true
proper (w ∷ ws) = (nat_le 1 w.number && not (member w.number ws)) && proper ws

-- a list that may be wanted: at most 16 groups, none 0 and none twice
abbrev pub may_want : List GroupId → Bool
may_want wanted = nat_le (length wanted) 16 && proper wanted
