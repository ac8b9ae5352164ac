-- The users of a site, as its radio list and its group sheets name them.
use Rattle.std.specs.Prelude.{◌≡◌, ℕ, ◌<◌, ◌≤◌, true, false, Some, None, Ok, Err, Option, Result}
use Rattle.mcptt.specs.declared.identity.McpttId.{McpttId}
use Rattle.sheet.specs.Contents.{Content}
use Rattle.sheet.specs.Rules.{names}
use Rattle.roster.specs.Meaning.{members_in}
use Rattle.serving.specs.declared.state.Serving.{Serving}
use Rattle.serving.specs.Enrolments.{is_enrolled, enrolled_of}
use Rattle.commission.specs.declared.difference.Side.{Side}
use Rattle.commission.specs.declared.difference.Side.TheVariants.{RadioList, Sheets}
use Rattle.commission.specs.declared.difference.Difference.{Difference}

-- the document of some group names the user
abbrev pub Named : (ℕ → Option Content) → ℕ → Type 0
Named held user = (group : ℕ) × (names user (members_in (held group)) ≡ true)

-- every enrolled user is named by the document of some group, and every user so named is enrolled; users are numbered from 1
abbrev pub SameUsers : Serving → (ℕ → Option Content) → Type 0
SameUsers s held =
    ((user : ℕ) → is_enrolled s user ≡ true → Named held user) × ((user : ℕ) → 1 ≤ user → Named held user → is_enrolled s user ≡ true)

-- the user is on this side only
abbrev pub OnlyOn : Side → Serving → (ℕ → Option Content) → ℕ → Type 0
OnlyOn RadioList s held user = (is_enrolled s user ≡ true) × (Named held user → ⊥)
OnlyOn Sheets s held user = Named held user × (is_enrolled s user ≡ false)

-- the lowest number above `after` that has P, or none if there is no such number
abbrev pub Lowest : (ℕ → Type 0) → ℕ → Option McpttId → Type 0
Lowest P after None = (user : ℕ) → after < user → P user → ⊥
Lowest P after (Some found) = (after < found.number) × P found.number × ((user : ℕ) → after < user → user < found.number → P user → ⊥)

-- the lowest difference above `after`, or none if there is no such difference
abbrev pub LowestDifference : Serving → (ℕ → Option Content) → ℕ → Option Difference → Type 0
LowestDifference s held after None = (user : ℕ) (side : Side) → after < user → OnlyOn side s held user → ⊥
LowestDifference s held after (Some d) =
    (after < d.user.number) × OnlyOn d.side s held d.user.number
    × ((user : ℕ) (side : Side) → after < user → user < d.user.number → OnlyOn side s held user → ⊥)

-- what the comparison answers: how many users are enrolled, where both sides name the same, else the lowest difference
abbrev pub Compares : Serving → (ℕ → Option Content) → Result ℕ Difference → Type 0
Compares s held (Ok users) = SameUsers s held × (users ≡ enrolled_of s)
Compares s held (Err first) = (SameUsers s held → ⊥) × LowestDifference s held 0 (Some first)
