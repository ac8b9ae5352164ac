-- The rows of an account, and what they hold.
use Rattle.std.proofs.Common.{◌≡◌, ℕ, ◌+◌, ◌*◌, ◌<◌, ◌≤◌, Bool, true, false, cond, ◌||◌, List, [], ◌∷◌, map, length, get_or, drop, IfSome, Some, None, Option, sym, refl, ap, ◌∙◌, arith}
use Rattle.std.proofs.lemmas.List.{length-map, get_or-map}
use Rattle.std.specs.List.{list_any}
use Rattle.mcptt.specs.declared.identity.GroupId.{GroupId}
use Rattle.rows.specs.declared.entry.Entry.{Entry}
use Rattle.rows.specs.Entries.{held}
use Rattle.rows.specs.Holdings.{gathered, visited, is_left_out, number_of}
use Rattle.rows.specs.Standings.{used}
use Rattle.mcptt.specs.declared.checked.Radio.{Radio}
use Rattle.rows.specs.declared.row.Row.{Row}
use Rattle.rows.specs.Lists.{noted}
use Rattle.rows.proofs.Steps.{more, done}

pub gathered_more : (time : ℕ) (xs : List Entry) (i : ℕ) (d : Entry) (found found' all : List GroupId) → i < length xs
    → found' ≡ cond (held time (get_or xs i d)) (noted found (get_or xs i d).group) found
    → gathered time (drop i xs) found ≡ all → gathered time (drop (i + 1) xs) found' ≡ all
gathered_more time xs i d found found' all h new inv =
    ap (gathered time (drop (i + 1) xs)) new ∙ more (λ z. gathered time z found) xs i d all h inv

pub gathered_all : (time : ℕ) (xs : List Entry) (i : ℕ) (found all : List GroupId) → length xs ≤ i
    → gathered time (drop i xs) found ≡ all → found ≡ all
gathered_all time xs i found all h inv = done (λ z. gathered time z found) xs i all h inv

-- some element passes after a change of each just where some element passes the test of what it becomes
pub any_map : {X Y : Type 0} (p : Y → Bool) (f : X → Y) (xs : List X) → list_any (λ x. p (f x)) xs ≡ list_any p (map f xs)
any_map p f [] = refl
any_map p f (x ∷ xs) = ap (λ b. p (f x) || b) (any_map p f xs)

-- a row more was left out, where b is true, or gone through
visited_more : (time : ℕ) (out : Option ℕ) (rows : List Row) (i : ℕ) (d : Row) (found found' all : List GroupId) (b : Bool) → i < length rows → is_left_out out (i + 1) ≡ b
    → found' ≡ cond b found (gathered time (used (get_or rows i d)) found)
    → visited time out (i + 1) (drop i (map used rows)) found ≡ all → visited time out (i + 1 + 1) (drop (i + 1) (map used rows)) found' ≡ all
visited_more time out rows i d found found' all b h left new inv =
    ap (visited time out (i + 1 + 1) (drop (i + 1) (map used rows)))
    (new ∙ ap (λ row. cond b found (gathered time row found)) (sym (get_or-map used rows i d [] h)) ∙ ap (λ b. cond b found (gathered time (get_or (map used rows) i []) found)) (sym left))
    ∙ more (λ z. visited time out (i + 1) z found) (map used rows) i [] all (omega (arith, length-map rows used, h)) inv

pub visited_taken : (time : ℕ) (out : Option ℕ) (rows : List Row) (i : ℕ) (d : Row) (found found' all : List GroupId) → i < length rows → is_left_out out (i + 1) ≡ false
    → found' ≡ gathered time (used (get_or rows i d)) found
    → visited time out (i + 1) (drop i (map used rows)) found ≡ all → visited time out (i + 1 + 1) (drop (i + 1) (map used rows)) found' ≡ all
visited_taken time out rows i d found found' all = visited_more time out rows i d found found' all false

pub visited_skipped : (time : ℕ) (out : Option ℕ) (rows : List Row) (i : ℕ) (d : Row) (found all : List GroupId) → i < length rows → is_left_out out (i + 1) ≡ true
    → visited time out (i + 1) (drop i (map used rows)) found ≡ all → visited time out (i + 1 + 1) (drop (i + 1) (map used rows)) found ≡ all
visited_skipped time out rows i d found all h left = visited_more time out rows i d found found all true h left refl

-- with at most 24 groups to a row, they are 24 fewer once the radio that is left out was passed
pub few_more : (out : Option Radio) (k n n' : ℕ) → n' ≤ n + 24 → is_left_out (number_of out) (k + 1) ≡ false
    → IfSome out (λ radio. radio.number ≤ k → n + 24 ≤ 24 * k) → IfSome out (λ radio. radio.number ≤ k + 1 → n' + 24 ≤ 24 * (k + 1))
few_more None k n n' le other old = tt
few_more (Some radio) k n n' le other old = λ within. grind (arith, le, other, old, within)

pub few_same : (out : Option Radio) (k n : ℕ) → n ≤ 24 * k → IfSome out (λ radio. radio.number ≤ k + 1 → n + 24 ≤ 24 * (k + 1))
few_same None k n le = tt
few_same (Some radio) k n le = λ within. omega (arith, le)
