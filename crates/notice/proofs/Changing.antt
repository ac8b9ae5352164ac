-- A row changed in its place, and a pass that changes each of the first places of a list.
use Rattle.std.proofs.Common.{◌≡◌, ℕ, ◌+◌, ◌-◌, ◌<◌, ◌≤◌, List, [], ◌∷◌, ◌++◌, map, length, get_or, take, drop, set, sym, ap, ap₂, ◌∙◌, append-nil, arith}
use Rattle.std.proofs.lemmas.List.{take_all, drop_all, drop_more, take_at, get_or_at, get_or_default, get_or-map, map-set, length-append, length-map, length-take, length-drop, length-take-le}
use Rattle.std.proofs.lemmas.List.Edits.{map_over_more}
use Rattle.rows.specs.declared.entry.Entry.{Entry}
use Rattle.rows.specs.declared.row.Row.{Row}
use Rattle.rows.specs.Standings.{used}
use Rattle.rows.specs.Holdings.{row_of}

-- a row of a radio is written in its place
pub row_changed : (rows : List Row) (radio k : ℕ) (old new : Row) (becomes : List Entry → List Entry) → k ≡ radio - 1 → k < length rows
    → used new ≡ becomes (used (get_or rows k old))
    → map used (set rows k new) ≡ set (map used rows) (radio - 1) (becomes (row_of (map used rows) radio))
row_changed rows radio k old new becomes at lt e =
    map-set used rows k new
    ∙ ap₂ (λ j es. set (map used rows) j es) at
    (e ∙ ap becomes (sym (get_or-map used rows k old [] lt) ∙ ap (λ j. get_or (map used rows) j []) at))

-- ys began as xs, and the first i are changed
abbrev pub Changed : {X : Type 0} → (X → X) → List X → List X → ℕ → Type 0
Changed f xs ys i = ys ≡ map f (take i xs) ++ drop i xs

pub changed_more : {X : Type 0} (f : X → X) (xs ys : List X) (i : ℕ) (d new : X) → i < length xs → new ≡ f (get_or ys i d)
    → Changed f xs ys i → Changed f xs (set ys i new) (i + 1)
changed_more f xs ys i d new h is inv =
    let within : i < length ys = omega (arith, ap length inv, length-append (map f (take i xs)) (drop i xs), length-map (take i xs) f, length-take i xs, length-drop i xs) in
    ap (set ys i) is ∙ map_over_more f xs ys i (get_or ys i d) h inv (get_or_default ys i d _ within)

pub changed_all : {X : Type 0} (f : X → X) (xs ys : List X) (i : ℕ) → Changed f xs ys i → length xs ≤ i → ys ≡ map f xs
changed_all f xs ys i inv h =
    inv ∙ ap (λ zs. map f zs ++ drop i xs) (take_all i xs h) ∙ ap (λ zs. map f xs ++ zs) (drop_all i xs h) ∙ append-nil (map f xs)

-- the first n of a longer list, put back before the rest
pub changed_front : {X : Type 0} (f : X → X) (slots ys : List X) (n i : ℕ) → n ≤ length slots → Changed f (take n slots) ys i
    → length (take n slots) ≤ i → take n (ys ++ drop n slots) ≡ map f (take n slots)
changed_front f slots ys n i le inv h =
    let all : ys ≡ map f (take n slots) = changed_all f (take n slots) ys i inv h in
    take_at ys (drop n slots) n (ap length all ∙ length-map (take n slots) f ∙ length-take-le n slots le) ∙ all

-- the element whose turn it is, is as it was
changed_read : {X : Type 0} (f : X → X) (xs ys : List X) (i : ℕ) (d : X) → Changed f xs ys i → i < length xs → get_or ys i d ≡ get_or xs i d
changed_read f xs ys i d inv h =
    let front : length (map f (take i xs)) ≡ i = length-map (take i xs) f ∙ length-take-le i xs (omega arith) in
    ap (λ zs. get_or zs i d) (inv ∙ ap (λ zs. map f (take i xs) ++ zs) (drop_more xs i d h))
    ∙ get_or_at (map f (take i xs)) (get_or xs i d) (drop (i + 1) xs) d i front

-- something is counted on the way: n so far, and F of what is left
pub counted_more : {X : Type 0} (f : X → X) (F : List X → ℕ) (g : X → ℕ) (xs ys : List X) (i : ℕ) (d : X) (n m all : ℕ)
    → ((x : X) (zs : List X) → F (x ∷ zs) ≡ g x + F zs) → Changed f xs ys i → i < length xs → m ≡ g (get_or ys i d)
    → n + F (drop i xs) ≡ all → (n + m) + F (drop (i + 1) xs) ≡ all
counted_more f F g xs ys i d n m all step inv h is so_far =
    let left : F (drop i xs) ≡ g (get_or xs i d) + F (drop (i + 1) xs) = ap F (drop_more xs i d h) ∙ step _ _ in
    let one : m ≡ g (get_or xs i d) = is ∙ ap g (changed_read f xs ys i d inv h) in
    omega arith

pub counted_all : {X : Type 0} (F : List X → ℕ) (xs : List X) (i n all : ℕ) → F [] ≡ 0 → length xs ≤ i → n + F (drop i xs) ≡ all → n ≡ all
counted_all F xs i n all nil h so_far =
    let left : F (drop i xs) ≡ 0 = ap F (drop_all i xs h) ∙ nil in
    omega arith
