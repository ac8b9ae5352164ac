-- Where there is no difference, both sides name the same users.
use Rattle.std.proofs.Common.{◌≡◌, ℕ, ◌<◌, Bool, true, false, ◌⊎◌, List, is_some, Some, None, Ok, Err, Option, Result, MatchOption, sym, refl, subst, ◌∙◌, inl, inr, arith}
use Rattle.std.proofs.lemmas.Bool.{false≢true, and_parts, leb-true}
use Rattle.sheet.specs.Contents.{Content}
use Rattle.roster.specs.Meaning.{among}
use Rattle.serving.specs.declared.state.Serving.{Serving}
use Rattle.serving.specs.Enrolments.{is_enrolled, enrolled_of}
use Rattle.commission.specs.declared.difference.Side.{Side}
use Rattle.commission.specs.declared.difference.Difference.{Difference}
use Rattle.commission.specs.declared.difference.Side.TheVariants.{RadioList, Sheets}
use Rattle.commission.specs.Users.{Named, OnlyOn, LowestDifference, SameUsers, Compares}
use Rattle.commission.proofs.Naming.{named_or_not}

-- users are numbered from 1
numbered : (s : Serving) (user : ℕ) → is_enrolled s user ≡ true → 0 < user
numbered s user h =
    let served = (and_parts _ _ (and_parts _ _ h).0).0 in
    let le = leb-true 1 user served in
    omega arith

listed_named : (s : Serving) (held : ℕ → Option Content) (user : ℕ) → (OnlyOn RadioList s held user → ⊥) → is_enrolled s user ≡ true
    → Named held user ⊎ (Named held user → ⊥) → Named held user
listed_named s held user never enrolled (inl named) = named
listed_named s held user never enrolled (inr free) = absurd (never (enrolled, free))

named_listed : (s : Serving) (held : ℕ → Option Content) (user : ℕ) → (OnlyOn Sheets s held user → ⊥) → Named held user
    → (b : Bool) → is_enrolled s user ≡ b → b ≡ true
named_listed s held user never named true e = refl
named_listed s held user never named false e = absurd (never (named, e))

none_differs : (s : Serving) (held : ℕ → Option Content) (carried : List ℕ) → ((g : ℕ) → is_some (held g) ≡ among g carried)
    → LowestDifference s held 0 None → SameUsers s held
none_differs s held carried law none = (
  (λ user h. listed_named s held user (none user RadioList (numbered s user h)) h (named_or_not held carried user law)),
  (λ user from named. named_listed s held user (none user Sheets (omega arith)) named (is_enrolled s user) refl),
)

one_differs : (s : Serving) (held : ℕ → Option Content) (side : Side) (user : ℕ) → 0 < user → OnlyOn side s held user → SameUsers s held → ⊥
one_differs s held RadioList user above only same = only.1 (same.0 user only.0)
one_differs s held Sheets user above only same = false≢true (sym only.1 ∙ same.1 user (omega arith) only.0)

-- the comparison answers what the lowest difference says
pub compared : (s : Serving) (held : ℕ → Option Content) (carried : List ℕ) → ((g : ℕ) → is_some (held g) ≡ among g carried)
    → (first : Option Difference) (answer : Result ℕ Difference) → MatchOption first (answer ≡ Ok (enrolled_of s)) (λ d. answer ≡ Err d)
    → LowestDifference s held 0 first → Compares s held answer
compared s held carried law None answer e none =
    let P : Result ℕ Difference → Type 0 = Compares s held in
    subst P (sym e) (none_differs s held carried law none, refl)
compared s held carried law (Some d) answer e lowest =
    let P : Result ℕ Difference → Type 0 = Compares s held in
    subst P (sym e) (one_differs s held d.side d.user.number lowest.0 lowest.1, lowest)
