-- The loops that choose groups and move entries.
use Rattle.std.proofs.Common.{◌≡◌, ℕ, ◌+◌, ◌<◌, ◌≤◌, Bool, true, false, cond, List, [], ◌∷◌, map, length, get_or, drop, filter, Some, None, refl, ap, ◌∙◌}
use Rattle.std.specs.List.{filter_map, cons_option}
use Rattle.mcptt.specs.declared.identity.GroupId.{GroupId}
use Rattle.rows.specs.Lists.{noted}
use Rattle.rows.proofs.Steps.{more, done}
use Rattle.change.specs.Keeping.{joined_by}

-- those that pass, each as it is
pub filter_map_some : {X : Type 0} (p : X → Bool) (xs : List X) → filter_map (λ x. cond (p x) (Some x) None) xs ≡ filter p xs
filter_map_some p [] = refl
filter_map_some p (x ∷ xs) = by-test (p x) x (filter_map_some p xs)
  where
    by-test : {X : Type 0} {made kept : List X} (b : Bool) (x : X) → made ≡ kept → cons_option (cond b (Some x) None) made ≡ cond b (x ∷ kept) kept
    by-test true x rest = ap (λ ys. x ∷ ys) rest
    by-test false x rest = rest

-- each in another form
pub filter_map_all : {X Y : Type 0} (f : X → Y) (xs : List X) → filter_map (λ x. Some (f x)) xs ≡ map f xs
filter_map_all f [] = refl
filter_map_all f (x ∷ xs) = ap (λ ys. f x ∷ ys) (filter_map_all f xs)

-- an element is noted if it passes
pub joined_by_more : (p : GroupId → Bool) (xs : List GroupId) (i : ℕ) (d : GroupId) (found found' all : List GroupId) → i < length xs
    → found' ≡ cond (p (get_or xs i d)) (noted found (get_or xs i d)) found
    → joined_by p (drop i xs) found ≡ all → joined_by p (drop (i + 1) xs) found' ≡ all
joined_by_more p xs i d found found' all h new inv =
    ap (joined_by p (drop (i + 1) xs)) new ∙ more (λ z. joined_by p z found) xs i d all h inv

pub joined_by_all : (p : GroupId → Bool) (xs : List GroupId) (i n : ℕ) (found all : List GroupId) → length xs ≤ i → n ≡ length found
    → joined_by p (drop i xs) found ≡ all → n ≡ length all
joined_by_all p xs i n found all h e inv = e ∙ ap length (done (λ z. joined_by p z found) xs i all h inv)
