-- The first of the two sides' lowest users is the lowest difference.
use Rattle.std.proofs.Common.{◌≡◌, ℕ, ◌+◌, ◌<◌, ◌≤◌, ◌++◌, Some, None, Option, refl, arith}
use Rattle.std.specs.List.{reduce}
use Rattle.std.specs.Option.{option_map, option_to_list}
use Rattle.std.specs.Ordering.{nat_cmp, min_by_ordering, ordering_then, MatchOrdering}
use Rattle.std.specs.declared.cmp.Ordering.{Ordering}
use Rattle.std.specs.declared.cmp.Ordering.TheVariants.{Less, Equal, Greater}
use Rattle.std.proofs.lemmas.Cmp.{ranked}
use Rattle.mcptt.specs.declared.identity.McpttId.{McpttId}
use Rattle.sheet.specs.Contents.{Content}
use Rattle.serving.specs.declared.state.Serving.{Serving}
use Rattle.commission.specs.declared.difference.Side.{Side}
use Rattle.commission.specs.declared.difference.Side.TheVariants.{RadioList, Sheets}
use Rattle.commission.specs.declared.difference.Difference.{Difference}
use Rattle.commission.specs.Users.{OnlyOn, Lowest, LowestDifference}

abbrev pub on_side : Side → McpttId → Difference
on_side side user = record { user = user; side = side }

-- no user so far is below n
abbrev NotBelow : ℕ → Option McpttId → Type 0
NotBelow n None = Unit {0}
NotBelow n (Some x) = n ≤ x.number

below_free : (P : ℕ → Type 0) (after : ℕ) (found : Option McpttId) → Lowest P after found → (n : ℕ) → NotBelow n found
    → (user : ℕ) → after < user → user < n → P user → ⊥
below_free P after None lowest n h user above below p = lowest user above p
below_free P after (Some x) lowest n h user above below p = lowest.2 user above (omega arith) p

module _ (s : Serving) (held : ℕ → Option Content) (after : ℕ) (missing extra : Option McpttId)
    (first : Lowest (OnlyOn RadioList s held) after missing) (second : Lowest (OnlyOn Sheets s held) after extra) where
  free : (n : ℕ) → NotBelow n missing → NotBelow n extra → (user : ℕ) (side : Side) → after < user → user < n → OnlyOn side s held user → ⊥
  free n a b user RadioList above below only = below_free (OnlyOn RadioList s held) after missing first n a user above below only
  free n a b user Sheets above below only = below_free (OnlyOn Sheets s held) after extra second n b user above below only

both : (s : Serving) (held : ℕ → Option Content) (after : ℕ) (x y : McpttId) → Lowest (OnlyOn RadioList s held) after (Some x) → Lowest (OnlyOn Sheets s held) after (Some y)
    → (o t : Ordering) → MatchOrdering o (x.number < y.number) (x.number ≡ y.number) (y.number < x.number)
    → LowestDifference s held after (Some (min_by_ordering (ordering_then o t) (on_side RadioList x) (on_side Sheets y)))
both s held after x y first second Less t h = (first.0, first.1, free s held after (Some x) (Some y) first second x.number (omega arith) (omega (arith, h)))
both s held after x y first second Equal Less h = (first.0, first.1, free s held after (Some x) (Some y) first second x.number (omega arith) (omega (arith, h)))
both s held after x y first second Equal Equal h = (first.0, first.1, free s held after (Some x) (Some y) first second x.number (omega arith) (omega (arith, h)))
both s held after x y first second Equal Greater h = (second.0, second.1, free s held after (Some x) (Some y) first second y.number (omega (arith, h)) (omega arith))
both s held after x y first second Greater t h = (second.0, second.1, free s held after (Some x) (Some y) first second y.number (omega (arith, h)) (omega arith))

-- the first of both by user, whatever is asked where the users are the same
abbrev pub first_of : (Difference → Difference → Ordering) → Difference → Difference → Difference
first_of then a b = min_by_ordering (ordering_then (nat_cmp a.user.number b.user.number) (then a b)) a b

pub first_is_lowest : (s : Serving) (held : ℕ → Option Content) (after : ℕ) (missing extra : Option McpttId)
    → Lowest (OnlyOn RadioList s held) after missing → Lowest (OnlyOn Sheets s held) after extra → (then : Difference → Difference → Ordering)
    → LowestDifference s held after (reduce (first_of then) (option_to_list (option_map (on_side RadioList) missing) ++ option_to_list (option_map (on_side Sheets) extra)))
first_is_lowest s held after None None first second then =
    λ user side above only. free s held after None None first second (user + 1) tt tt user side above (omega arith) only
first_is_lowest s held after (Some x) None first second then = (first.0, first.1, free s held after (Some x) None first second x.number (omega arith) tt)
first_is_lowest s held after None (Some y) first second then = (second.0, second.1, free s held after None (Some y) first second y.number tt (omega arith))
first_is_lowest s held after (Some x) (Some y) first second then =
    both s held after x y first second (nat_cmp x.number y.number) (then (on_side RadioList x) (on_side Sheets y)) (ranked x.number y.number (nat_cmp x.number y.number) refl)
