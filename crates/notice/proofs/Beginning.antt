-- How long the row is that BEGIN makes.
use Rattle.std.proofs.Common.{◌≡◌, ℕ, ◌+◌, ◌≤◌, Bool, true, false, cond, not, ◌&&◌, eqb, ltb, List, [], ◌∷◌, map, length, count_by, filter, sym, refl, ap, ◌∙◌, ap₂, arith}
use Rattle.std.proofs.lemmas.List.{length-append, length-map, length-take}
use Rattle.std.proofs.lemmas.Bool.Decides.{nat_tests}
use Rattle.std.proofs.lemmas.List.Sums.{length-filter, count_by-le-length}
use Rattle.rows.specs.declared.entry.Entry.{Entry}
use Rattle.rows.specs.declared.row.Row.{Row}
use Rattle.rows.specs.Standings.{used}
use Rattle.rows.specs.Entries.{live, lives}
use Rattle.notice.specs.Implicit.{begun_row, pending_in, pending_entry, implicit_time}

one_or_none : {X : Type 0} (b : Bool) (x : X) → length (cond b [] (x ∷ [])) ≡ cond (not b) 1 0
one_or_none true x = refl
one_or_none false x = refl

-- the live entries, and one more where none of them is the group's
pub begun_length : (time group serial : ℕ) (es : List Entry)
    → length (begun_row time group serial es) ≡ count_by (live time) es + cond (not (lives time group es)) 1 0
begun_length time group serial es =
    let kept : List Entry = filter (live time) es in
    let f : Entry → Entry = pending_in group (time + implicit_time) serial in
    let x : Entry = pending_entry group (time + implicit_time) serial in
    let a = length-append (map f kept) (cond (lives time group es) [] (x ∷ [])) in
    let b = length-map kept f in
    let c = length-filter (live time) es in
    let d = one_or_none (lives time group es) x in
    omega arith

-- it passes 24 only where 24 are live and none of them is the group's
pub too_long : (time group serial : ℕ) (row : Row) (there : Bool) (n : ℕ) → there ≡ lives time group (used row)
    → n ≡ count_by (live time) (used row) → (not there && eqb n 24) ≡ ltb 24 (length (begun_row time group serial (used row)))
too_long time group serial row there n is counted =
    let short : count_by (live time) (used row) ≤ 24 = omega (arith, count_by-le-length (live time) (used row), length-take row.entries.count row.entries.places, row.entries.within) in
    by-lives there n (omega arith) ∙ ap₂ (λ b m. ltb 24 (m + cond (not b) 1 0)) is counted ∙ ap (ltb 24) (sym (begun_length time group serial (used row)))
  where
    by-lives : (b : Bool) (m : ℕ) → m ≤ 24 → (not b && eqb m 24) ≡ ltb 24 (m + cond (not b) 1 0)
    by-lives true m le = grind (arith, nat_tests)
    by-lives false m le = grind (arith, nat_tests)
