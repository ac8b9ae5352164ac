-- The lowest user whom only the sheets name, as it is searched for, is the lowest.
use Rattle.std.proofs.Common.{◌≡◌, ℕ, ◌<◌, ◌≤◌, Bool, true, false, cond, not, ◌&&◌, ◌||◌, eqb, ltb, ◌⊎◌, inl, inr, List, [], ◌∷◌, is_some, Option, fold, sym, refl, ap, ◌∙◌, arith}
use Rattle.std.specs.List.{filter, flat_map, list_any, reduce}
use Rattle.std.specs.Ordering.{min_by_ordering}
use Rattle.std.specs.declared.cmp.Ordering.{Ordering}
use Rattle.std.specs.declared.cmp.Ordering.TheVariants.{Less, Equal, Greater}
use Rattle.std.specs.Ordering.{MatchOrdering}
use Rattle.std.proofs.lemmas.Bool.{false≢true, and_parts, eqb-true, eq-eqb, ltb-true, lt-ltb, or_left, or_right}
use Rattle.std.proofs.lemmas.List.Folds.{list_any-append}
use Rattle.mcptt.specs.declared.identity.McpttId.{McpttId}
use Rattle.mcptt.specs.declared.identity.GroupId.{GroupId}
use Rattle.sheet.specs.declared.document.Member.{Member}
use Rattle.sheet.specs.Contents.{Content}
use Rattle.sheet.specs.Rules.{names}
use Rattle.roster.specs.Meaning.{members_in, users_in, as_groups, among}
use Rattle.serving.specs.declared.state.Serving.{Serving}
use Rattle.serving.specs.Enrolments.{is_enrolled}
use Rattle.commission.specs.declared.difference.Side.TheVariants.{Sheets}
use Rattle.commission.specs.Users.{OnlyOn, Lowest}
use Rattle.commission.proofs.Naming.{named_in, named_decides}

-- the user is one of these
abbrev has : ℕ → List McpttId → Bool
has user xs = list_any (λ (x : McpttId). eqb x.number user) xs

-- all users whom the groups name
abbrev pub users_of : (ℕ → Option Content) → List GroupId → List McpttId
users_of held groups = flat_map (λ (group : GroupId). users_in (members_in (held group.number))) groups

-- those above `after` who are not enrolled
abbrev pub is_extra : Serving → ℕ → McpttId → Bool
is_extra s after user = ltb after user.number && not (is_enrolled s user.number)

has_members : (user : ℕ) (ms : List Member) → has user (users_in ms) ≡ names user ms
has_members user [] = refl
has_members user (m ∷ ms) = ap (λ b. eqb m.user.number user || b) (has_members user ms)

has_users : (held : ℕ → Option Content) (carried : List ℕ) (user : ℕ) → has user (users_of held (as_groups carried)) ≡ named_in held carried user
has_users held [] user = refl
has_users held (g ∷ gs) user =
    list_any-append (λ (x : McpttId). eqb x.number user) (users_in (members_in (held g))) (users_of held (as_groups gs))
    ∙ ap (λ b. b || has user (users_of held (as_groups gs))) (has_members user (members_in (held g)))
    ∙ ap (λ b. names user (members_in (held g)) || b) (has_users held gs user)

abbrev kept : (ℕ → Bool) → List McpttId → List McpttId
kept q xs = filter (λ (x : McpttId). q x.number) xs

-- who is kept is one of these, and passes the test
abbrev Passing : (ℕ → Bool) → ℕ → List McpttId → Type 0
Passing q user xs = (has user xs ≡ true) × (q user ≡ true)

kept_first : (q : ℕ → Bool) (user : ℕ) (x : McpttId) (xs : List McpttId) → (has user (kept q xs) ≡ true → Passing q user xs)
    → (b : Bool) → q x.number ≡ b → (c : Bool) → eqb x.number user ≡ c → has user (cond b (x ∷ kept q xs) (kept q xs)) ≡ true → Passing q user (x ∷ xs)
kept_first q user x xs later true t true e h = (or_left _ (has user xs) e, ap q (sym (eqb-true x.number user e)) ∙ t)
kept_first q user x xs later true t false e h =
    let k = later (ap (λ b. b || has user (kept q xs)) (sym e) ∙ h) in
    (or_right (eqb x.number user) _ k.0, k.1)
kept_first q user x xs later false t c e h = let k = later h in (or_right (eqb x.number user) _ k.0, k.1)

kept_passes : (q : ℕ → Bool) (user : ℕ) (xs : List McpttId) → has user (kept q xs) ≡ true → Passing q user xs
kept_passes q user [] h = absurd (false≢true h)
kept_passes q user (x ∷ xs) h = kept_first q user x xs (kept_passes q user xs) (q x.number) refl (eqb x.number user) refl h

pass_first : (q : ℕ → Bool) (user : ℕ) (x : McpttId) (xs : List McpttId) → q user ≡ true → (has user xs ≡ true → has user (kept q xs) ≡ true)
    → (b : Bool) → q x.number ≡ b → (c : Bool) → eqb x.number user ≡ c → (c || has user xs) ≡ true → has user (cond b (x ∷ kept q xs) (kept q xs)) ≡ true
pass_first q user x xs p later true t true e h = or_left _ _ e
pass_first q user x xs p later true t false e h = or_right (eqb x.number user) _ (later h)
pass_first q user x xs p later false t true e h = absurd (false≢true (sym t ∙ ap q (eqb-true x.number user e) ∙ p))
pass_first q user x xs p later false t false e h = later h

passes_kept : (q : ℕ → Bool) (user : ℕ) (xs : List McpttId) → q user ≡ true → has user xs ≡ true → has user (kept q xs) ≡ true
passes_kept q user [] p h = absurd (false≢true h)
passes_kept q user (x ∷ xs) p h = pass_first q user x xs p (passes_kept q user xs p) (q x.number) refl (eqb x.number user) refl h

-- of two users the one that comes first
abbrev pub first_of : (McpttId → McpttId → Ordering) → McpttId → McpttId → McpttId
first_of cmp a b = min_by_ordering (cmp a b) a b

picked : (o : Ordering) (a b : McpttId) → MatchOrdering o (a.number < b.number) (a.number ≡ b.number) (b.number < a.number)
    → ((min_by_ordering o a b ≡ a) ⊎ (min_by_ordering o a b ≡ b)) × ((min_by_ordering o a b).number ≤ a.number) × ((min_by_ordering o a b).number ≤ b.number)
picked Less a b h = (inl refl, omega arith, omega arith)
picked Equal a b h = (inl refl, omega arith, omega (arith, h))
picked Greater a b h = (inr refl, omega (arith, h), omega arith)

module _ (cmp : McpttId → McpttId → Ordering) (law : (a b : McpttId) → MatchOrdering (cmp a b) (a.number < b.number) (a.number ≡ b.number) (b.number < a.number)) where
  abbrev IsLeast : McpttId → List McpttId → Type 0
  IsLeast m xs = (has m.number xs ≡ true) × ((user : ℕ) → has user xs ≡ true → m.number ≤ user)

  only : (x : McpttId) (user : ℕ) (b : Bool) → eqb x.number user ≡ b → (b || false) ≡ true → x.number ≤ user
  only x user true e h = let same = eqb-true x.number user e in omega arith
  only x user false e h = absurd (false≢true h)

  -- the least of z and ys is one of x, y and ys, where z is x or y
  one_of : (x y z : McpttId) (ys : List McpttId) (n : ℕ) → (z ≡ x) ⊎ (z ≡ y) → (b : Bool) → eqb z.number n ≡ b → (b || has n ys) ≡ true → has n (x ∷ y ∷ ys) ≡ true
  one_of x y z ys n (inl e) true t h = or_left _ (has n (y ∷ ys)) (ap (λ (w : McpttId). eqb w.number n) (sym e) ∙ t)
  one_of x y z ys n (inr e) true t h = or_right (eqb x.number n) _ (or_left _ (has n ys) (ap (λ (w : McpttId). eqb w.number n) (sym e) ∙ t))
  one_of x y z ys n e false t h = or_right (eqb x.number n) _ (or_right (eqb y.number n) _ h)

  under : (x y z : McpttId) (ys : List McpttId) (n : ℕ) → z.number ≤ x.number → z.number ≤ y.number → n ≤ z.number → ((user : ℕ) → has user ys ≡ true → n ≤ user)
      → (user : ℕ) (b c : Bool) → eqb x.number user ≡ b → eqb y.number user ≡ c → (b || (c || has user ys)) ≡ true → n ≤ user
  under x y z ys n zx zy nz rest user true c e f h = let same = eqb-true x.number user e in omega arith
  under x y z ys n zx zy nz rest user false true e f h = let same = eqb-true y.number user f in omega arith
  under x y z ys n zx zy nz rest user false false e f h = rest user h

  least : (x : McpttId) (xs : List McpttId) → IsLeast (fold (first_of cmp) x xs) (x ∷ xs)
  least x [] = (or_left _ false (eq-eqb x.number x.number refl), (λ user h. only x user (eqb x.number user) refl h))
  least x (y ∷ ys) =
      let z = first_of cmp x y in
      let m = fold (first_of cmp) z ys in
      let p = picked (cmp x y) x y (law x y) in
      let rest = least z ys in (
        one_of x y z ys m.number p.0 (eqb z.number m.number) refl rest.0,
        (λ user h. under x y z ys m.number p.1 p.2 (rest.1 z.number (or_left _ (has z.number ys) (eq-eqb z.number z.number refl))) (λ u k. rest.1 u (or_right (eqb z.number u) _ k)) user (eqb x.number user) (eqb y.number user) refl refl h),
      )

  -- of the users whom these groups name and who are not enrolled, the least is the lowest
  reduced : (P : ℕ → Type 0) (after : ℕ) (xs : List McpttId) → ((user : ℕ) → has user xs ≡ true → (after < user) × P user) → ((user : ℕ) → after < user → P user → has user xs ≡ true)
      → Lowest P after (reduce (first_of cmp) xs)
  reduced P after [] sound complete = λ user above p. false≢true (complete user above p)
  reduced P after (x ∷ xs) sound complete =
      let l = least x xs in
      let s = sound (fold (first_of cmp) x xs).number l.0 in
      (s.0, s.1, (λ user above below p. let le = l.1 user (complete user above p) in let never : ⊥ = omega arith in never))

  pub least_is_lowest : (s : Serving) (held : ℕ → Option Content) (after : ℕ) (carried : List ℕ) → ((g : ℕ) → is_some (held g) ≡ among g carried)
      → Lowest (OnlyOn Sheets s held) after (reduce (first_of cmp) (filter (is_extra s after) (users_of held (as_groups carried))))
  least_is_lowest s held after carried carries =
      let q : ℕ → Bool = λ user. ltb after user && not (is_enrolled s user) in
      let all = users_of held (as_groups carried) in
      reduced (OnlyOn Sheets s held) after (filter (is_extra s after) all)
      (λ user h.
      let k = kept_passes q user all h in
      let parts = and_parts (ltb after user) (not (is_enrolled s user)) k.1 in
      (ltb-true after user parts.0, ((named_decides held carried user carries).0 (sym (has_users held carried user) ∙ k.0), unfree (is_enrolled s user) parts.1)))
      (λ user above only. passes_kept q user all (both (ltb after user) (is_enrolled s user) (lt-ltb after user above) only.1) (has_users held carried user ∙ (named_decides held carried user carries).1 only.0))
    where
      unfree : (b : Bool) → not b ≡ true → b ≡ false
      unfree true e = absurd (false≢true e)
      unfree false e = refl

      both : (a b : Bool) → a ≡ true → b ≡ false → (a && not b) ≡ true
      both true false e f = refl
      both true true e f = absurd (false≢true (sym f))
      both false b e f = absurd (false≢true e)
