-- What a roster means: the groups that it carries, and for each group no document or one.
use Rattle.std.specs.Prelude.{◌≡◌, ℕ, Bool, true, false, cond, not, ◌&&◌, ◌||◌, List, [], ◌∷◌, map, length, is_some, Some, None, Option, ◌==◌, nat_le}
use Rattle.mcptt.specs.declared.identity.GroupId.{GroupId}
use Rattle.mcptt.specs.declared.identity.McpttId.{McpttId}
use Rattle.sheet.specs.declared.document.Member.{Member}
use Rattle.sheet.specs.Contents.{Content}

-- the number is one of these
abbrev pub among : ℕ → List ℕ → Bool
among g [] = false
among g (k ∷ ks) = k == g || among g ks

-- no number stands twice
abbrev pub apart : List ℕ → Bool
apart [] = true
apart (k ∷ ks) = not (among k ks) && apart ks

-- the group has no document, and the roster carries its full number
abbrev pub no_room : ℕ → (ℕ → Option Content) → List ℕ → ℕ → Bool
no_room most held carried group = not (is_some (held group)) && nat_le most (length carried)

-- the documents once this one stands in place of the group's former one, if any
abbrev pub with_document : (ℕ → Option Content) → ℕ → Content → ℕ → Option Content
with_document held group c g = cond (g == group) (Some c) (held g)

-- a document was put in: what the roster holds before, and after; its laws tell which groups it then carries
pub record Replaced (most : ℕ) (held held' : ℕ → Option Content) (carried : List ℕ) (group : ℕ) (c : Content) : Type 0 where
  pub room : no_room most held carried group ≡ false
  pub documents : (g : ℕ) → held' g ≡ with_document held group c g

-- the members of a group's document, in its order; none without a document
abbrev pub members_in : Option Content → List Member
members_in None = []
members_in (Some c) = c.members

-- their users
abbrev pub users_in : List Member → List McpttId
users_in members = map (λ (m : Member). m.user) members

-- numbers as groups
abbrev pub as_groups : List ℕ → List GroupId
as_groups numbers = map (λ n. record { number = n }) numbers
