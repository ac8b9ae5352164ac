-- What a search by places goes through, and one by numbers.
use Rattle.std.proofs.Common.{◌≡◌, ℕ, zero, suc, ◌+◌, ◌-◌, ◌<◌, ◌≤◌, Bool, true, false, List, [], ◌∷◌, map, length, Some, None, Option, MatchOption, get_or, sym, refl, ap, subst, ◌∙◌, add-zero, zero-add, arith}
use Rattle.std.proofs.lemmas.List.{length-map}
use Rattle.std.proofs.iter.runs.Sources.{nat_range_inclusive_steps}
use denote.Param.Members.{Mut}
use Rattle.std.proofs.iter.Yields.{nat_range_steps}
use Rattle.std.proofs.lemmas.Iterator.{YieldsList, YieldsList-from_range}
use Rattle.std.proofs.lemmas.Iterator.Consumers.{YieldsList-from_shown, YieldsList-from_filter_map}
use Rattle.std.specs.Fn.{Called}
use Rattle.std.specs.Iterator.Adapters.{filter_map_source, filter_map_callee, filter_map_steps}
use Rattle.std.specs.declared.iter.FilterMap.{FilterMap}
use Rattle.std.specs.declared.ops.Range.{Range}
use Rattle.std.proofs.lemmas.List.FromFn.{length-range_with_len}
use Rattle.std.specs.List.{slice_get, filter_map, cons_option, range_with_len, AllWithin, HoldsAt}
use Rattle.std.specs.Range.{range_inclusive_start, range_inclusive_end, range_inclusive_exhausted, range_inclusive_len}
use Rattle.std.specs.declared.ops.RangeInclusive.{RangeInclusive}
use Rattle.mcptt.specs.declared.identity.McpttId.{McpttId}
use Rattle.commission.specs.Users.{Lowest}

module _ {X : Type 0} where
  from_place : (xs ys : List X) (a : ℕ) → ((k : ℕ) → slice_get ys (a + k) ≡ slice_get xs k) → filter_map (slice_get ys) (range_with_len a (length xs)) ≡ xs
  from_place [] ys a h = refl
  from_place (x ∷ xs) ys a h =
      let here : slice_get ys a ≡ Some x = ap (slice_get ys) (sym (add-zero a)) ∙ h 0 in
      let later : filter_map (slice_get ys) (range_with_len (a + 1) (length xs)) ≡ xs = from_place xs ys (a + 1) (λ k. let e : a + 1 + k ≡ a + suc k = omega arith in ap (slice_get ys) e ∙ h (suc k)) in
      ap (λ o. cons_option o (filter_map (slice_get ys) (range_with_len (a + 1) (length xs)))) here ∙ ap {B = List X} (λ l. x ∷ l) later

  at_all_places : (xs : List X) (n : ℕ) → n ≡ length xs → filter_map (slice_get xs) (range_with_len 0 n) ≡ xs
  at_all_places xs n e = ap (λ m. filter_map (slice_get xs) (range_with_len 0 m)) e ∙ from_place xs xs 0 (λ k. ap (slice_get xs) (zero-add k))

  -- a chain that asks for the element at each place gives the elements
  pub YieldsList-from_places : {F : Type 0} {s : FilterMap (Range ℕ) F} (g : Mut F (ℕ × Unit {0}) (Option X)) (xs : List X) (n : ℕ) {f : F}
      → filter_map_source s ≡ record { start = 0; end = n } → n ≡ length xs → filter_map_callee s ≡ f
      → ((place : ℕ) (r : Option X) (q : F) → Called g f (place, tt) r q → (q ≡ f) × (r ≡ slice_get xs place))
      → YieldsList (filter_map_steps nat_range_steps g) (λ y. y) s xs
  YieldsList-from_places {s = s} g xs n source long closure asks =
      subst (λ l. YieldsList (filter_map_steps nat_range_steps g) (λ y. y) s l) (at_all_places xs n long)
      (YieldsList-from_filter_map g (slice_get xs) (YieldsList-from_range 0 n n source (omega arith)) closure asks)

-- the numbers that an inclusive range has left
abbrev left : RangeInclusive ℕ → ℕ
left s = range_inclusive_len (λ x y. y - x) (range_inclusive_start s) (range_inclusive_end s) (range_inclusive_exhausted s)

abbrev shown : RangeInclusive ℕ → List ℕ
shown s = range_with_len (range_inclusive_start s) (left s)

counted : (a b n m : ℕ) → m + 1 ≡ n → (0 < m → b ≡ a + 1) → range_with_len a n ≡ a ∷ range_with_len b m
counted a b n zero e h = ap (range_with_len a) (sym e)
counted a b n (suc m) e h =
    let more : n ≡ suc (suc m) = omega arith in
    ap (range_with_len a) more ∙ ap {B = List ℕ} (λ s. a ∷ range_with_len s (suc m)) (sym (h (omega arith)))

goes_on : (s : RangeInclusive ℕ) → 0 < left s → (b : Bool) → range_inclusive_exhausted s ≡ b → b ≡ false
goes_on s h false e = refl
goes_on s h true e =
    let none : left s ≡ 0 = ap (range_inclusive_len (λ x y. y - x) (range_inclusive_start s) (range_inclusive_end s)) e in
    let never : ⊥ = omega arith in
    absurd never

counts_up : (s : RangeInclusive ℕ) → YieldsList nat_range_inclusive_steps (λ x. x) s (shown s)
counts_up = YieldsList-from_shown nat_range_inclusive_steps (λ x. x) shown
    (λ s t p. length-range_with_len (range_inclusive_start s) (left s) ∙ p.1.0)
    (λ s x t p.
    counted (range_inclusive_start s) (range_inclusive_start t) (left s) (left t) p.1.1 (λ pos. p.1.2 (goes_on t pos (range_inclusive_exhausted t) refl))
    ∙ ap {B = List ℕ} (λ y. y ∷ shown t) (sym p.1.0))

-- a range from a to b, with the end, gives b + 1 - a numbers from a
pub YieldsList-from_inclusive : {s : RangeInclusive ℕ} (a b : ℕ) → range_inclusive_start s ≡ a → range_inclusive_end s ≡ b → range_inclusive_exhausted s ≡ false
    → YieldsList nat_range_inclusive_steps (λ x. x) s (range_with_len a (b - a + 1 - (a - b)))
YieldsList-from_inclusive {s} a b e f g =
    let all : shown s ≡ range_with_len a (b - a + 1 - (a - b)) =
    ap (λ z. range_with_len z (range_inclusive_len (λ x y. y - x) z (range_inclusive_end s) (range_inclusive_exhausted s))) e
    ∙ ap (λ z. range_with_len a (range_inclusive_len (λ x y. y - x) a z (range_inclusive_exhausted s))) f
    ∙ ap (λ z. range_with_len a (range_inclusive_len (λ x y. y - x) a b z)) g in
    subst (λ l. YieldsList nat_range_inclusive_steps (λ x. x) s l) all (counts_up s)

abbrev pub as_users : ℕ → List McpttId
as_users n = map (λ k. record { number = k }) (range_with_len 1 n)

number_at : (a n k : ℕ) (d : McpttId) → k < n → (get_or (map (λ i. record { number = i }) (range_with_len a n)) k d).number ≡ a + k
number_at a zero k d h = let never : ⊥ = omega arith in absurd never
number_at a (suc n) zero d h = sym (add-zero a)
number_at a (suc n) (suc k) d h = let e : a + 1 + k ≡ a + suc k = omega arith in number_at (a + 1) n k d (omega arith) ∙ e

-- what a search for P above `after` says of the user it stops at, and of one it passes by
abbrev pub Hit : (ℕ → Type 0) → ℕ → McpttId → Type 0
Hit P after x = (after < x.number) × P x.number

abbrev pub Miss : (ℕ → Type 0) → ℕ → McpttId → Type 0
Miss P after x = after < x.number → P x.number → ⊥

long : (n : ℕ) → length (as_users n) ≡ n
long n = length-map (range_with_len 1 n) (λ k. record { number = k }) ∙ length-range_with_len 1 n

missed : (P : ℕ → Type 0) (after n user : ℕ) → 1 ≤ user → user ≤ n → ((d : McpttId) → Miss P after (get_or (as_users n) (user - 1) d)) → after < user → P user → ⊥
missed P after n user low high h above p =
    let d : McpttId = record { number = 0 } in
    let e : (get_or (as_users n) (user - 1) d).number ≡ user = number_at 1 n (user - 1) d (omega arith) ∙ (let f : 1 + (user - 1) ≡ user = omega arith in f) in
    let Q : ℕ → Type 0 = λ k. after < k → P k → ⊥ in
    subst Q e (h d) above p

-- the first of the users 1 to n that is hit is the lowest
pub first_is_lowest : (P : ℕ → Type 0) (after n : ℕ) → ((user : ℕ) → P user → (1 ≤ user) × (user ≤ n)) → (r : Option McpttId)
    → MatchOption r (AllWithin (Miss P after) (as_users n) 0 (length (as_users n)))
    (λ x. Hit P after x × (i : ℕ) × (i < length (as_users n)) × HoldsAt (λ y. y ≡ x) (as_users n) i × AllWithin (Miss P after) (as_users n) 0 i)
    → Lowest P after r
first_is_lowest P after n within None m =
    λ user above p. let w = within user p in missed P after n user w.0 w.1 (λ d. m (user - 1) d (omega arith) (omega (arith, long n, w.0, w.1))) above p
first_is_lowest P after n within (Some x) m = (
  m.0.0,
  m.0.1,
  (λ user above below p.
      let w = within user p in
      let at : x.number ≡ 1 + m.1 = sym (ap (λ (y : McpttId). y.number) (m.3 x)) ∙ number_at 1 n m.1 x (omega (arith, long n, m.2)) in
      missed P after n user w.0 w.1 (λ d. m.4 (user - 1) d (omega arith) (omega (arith, at, w.0, below))) above p),
)
