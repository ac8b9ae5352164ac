-- A pass over the rows of an account, one radio after another.
use Rattle.std.proofs.Common.{◌≡◌, ℕ, zero, suc, ◌+◌, ◌-◌, ◌<◌, ◌≤◌, ◌≢◌, List, [], ◌∷◌, map, length, get_or, set, sym, refl, ap, ◌∙◌, add-one, arith, below_more}
use Rattle.std.proofs.lemmas.List.{get_or-set_same, get_or-set_other, length-set, length-map, get_or_default, get_or-map}
use Rattle.rows.specs.declared.entry.Entry.{Entry}
use Rattle.rows.specs.declared.row.Row.{Row}
use Rattle.rows.specs.Standings.{used, no_row}
use Rattle.rows.specs.Holdings.{row_of}

-- the sum of the first k numbers that f gives, counted from 1
abbrev total : (ℕ → ℕ) → ℕ → ℕ
total f zero = 0
total f (suc k) = total f k + f (k + 1)

-- the first k radios have their new rows, the others their old ones, and n is what was counted
pub record Pass (becomes : ℕ → List Entry → List Entry) (counts : ℕ → List Entry → ℕ) (olds news : List Row) (k n : ℕ) : Type 0 where
  pub long : length news ≡ length olds
  pub done : (j : ℕ) → j < k → used (get_or news j no_row) ≡ becomes (j + 1) (used (get_or olds j no_row))
  pub rest : (j : ℕ) → k ≤ j → get_or news j no_row ≡ get_or olds j no_row
  pub count : n ≡ total (λ radio. counts radio (row_of (map used olds) radio)) k

pub pass_none : (becomes : ℕ → List Entry → List Entry) (counts : ℕ → List Entry → ℕ) (rows : List Row) → Pass becomes counts rows rows 0 0
pass_none becomes counts rows =
    record { long = refl; done = λ j h. absurd (omega arith); rest = λ j h. refl; count = refl }

-- the row of a radio as it is read
read_of : (rows : List Row) (k : ℕ) → k < length rows → used (get_or rows k no_row) ≡ row_of (map used rows) (k + 1)
read_of rows k h =
    let e : k ≡ (k + 1) - 1 = omega arith in
    sym (get_or-map used rows k no_row [] h) ∙ ap (λ j. get_or (map used rows) j []) e

pub pass_more : {becomes : ℕ → List Entry → List Entry} {counts : ℕ → List Entry → ℕ} {olds news : List Row} {k n m : ℕ} (old new : Row)
    → Pass becomes counts olds news k n → k < length olds
    → used new ≡ becomes (k + 1) (used (get_or news k old)) → m ≡ counts (k + 1) (used (get_or news k old))
    → Pass becomes counts olds (set news k new) (k + 1) (n + m)
pass_more {becomes} {counts} {olds} {news} {k} {n} {m} old new p h e c =
    let within : k < length news = omega (arith, p.long) in
    let was : get_or news k old ≡ get_or olds k no_row = get_or_default news k old no_row within ∙ p.rest k (omega arith) in
    record {
      long = length-set news k new ∙ p.long;
      done =
          below_more _ _
          (λ j lt. let ne : j ≢ k = omega arith in ap used (get_or-set_other news k j new no_row ne) ∙ p.done j lt)
          (ap used (get_or-set_same news k new no_row within) ∙ e ∙ ap (λ row. becomes (k + 1) (used row)) was);
      rest = λ j le. let ne : j ≢ k = omega arith in get_or-set_other news k j new no_row ne ∙ p.rest j (omega arith);
      count =
          let f : ℕ → ℕ = λ radio. counts radio (row_of (map used olds) radio) in
          let one : m ≡ f (k + 1) = c ∙ ap (λ row. counts (k + 1) (used row)) was ∙ ap (counts (k + 1)) (read_of olds k h) in
          let all : total f (k + 1) ≡ total f k + f (k + 1) = ap (total f) (add-one k) in
          let before : n ≡ total f k = p.count in
          omega arith;
    }

-- a list of four, element by element
four : {X : Type 0} (xs : List X) (d : X) → length xs ≡ 4 → xs ≡ get_or xs 0 d ∷ get_or xs 1 d ∷ get_or xs 2 d ∷ get_or xs 3 d ∷ []
four [] d h = absurd (omega arith)
four (a ∷ []) d h = absurd (omega arith)
four (a ∷ b ∷ []) d h = absurd (omega arith)
four (a ∷ b ∷ c ∷ []) d h = absurd (omega arith)
four (a ∷ b ∷ c ∷ e ∷ []) d h = refl
four (a ∷ b ∷ c ∷ e ∷ f ∷ xs) d h = absurd (omega arith)

-- the rows once all four radios had their turn
pub pass_rows : {becomes : ℕ → List Entry → List Entry} {counts : ℕ → List Entry → ℕ} {olds news : List Row} {k n : ℕ}
    → Pass becomes counts olds news k n → k ≡ 4 → length olds ≡ 4
    → map used news
    ≡ becomes 1 (row_of (map used olds) 1) ∷ becomes 2 (row_of (map used olds) 2) ∷ becomes 3 (row_of (map used olds) 3) ∷ becomes 4 (row_of (map used olds) 4) ∷ []
pass_rows {becomes} {counts} {olds} {news} {k} p e h =
    let row : (j : ℕ) → j < 4 → get_or (map used news) j [] ≡ becomes (j + 1) (row_of (map used olds) (j + 1)) =
    λ j lt.
    get_or-map used news j no_row [] (omega (arith, p.long))
    ∙ p.done j (omega arith)
    ∙ ap (becomes (j + 1)) (read_of olds j (omega arith)) in
    let first = row 0 (omega arith) in
    let second = row 1 (omega arith) in
    let third = row 2 (omega arith) in
    let fourth = row 3 (omega arith) in
    four (map used news) [] (length-map news used ∙ p.long ∙ h) ∙ cc

-- the same where it is the same of every radio
pub pass_map : {f : List Entry → List Entry} {counts : ℕ → List Entry → ℕ} {olds news : List Row} {k n : ℕ}
    → Pass (λ radio. f) counts olds news k n → k ≡ 4 → length olds ≡ 4 → map used news ≡ map f (map used olds)
pass_map {f} {counts} {olds} p e h = pass_rows p e h ∙ sym (ap (map f) (four (map used olds) [] (length-map olds used ∙ h)))

-- and what was counted
pub pass_count : {becomes : ℕ → List Entry → List Entry} {counts : ℕ → List Entry → ℕ} {olds news : List Row} {k n : ℕ}
    → Pass becomes counts olds news k n → k ≡ 4
    → n
    ≡ counts 1 (row_of (map used olds) 1) + counts 2 (row_of (map used olds) 2) + counts 3 (row_of (map used olds) 3) + counts 4 (row_of (map used olds) 4)
pass_count {becomes} {counts} {olds} {news} {k} {n} p e =
    let f : ℕ → ℕ = λ radio. counts radio (row_of (map used olds) radio) in
    let all : n ≡ total f 4 = p.count ∙ ap (total f) e in
    omega arith
