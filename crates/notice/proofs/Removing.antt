-- How many are removed where some are kept.
use Rattle.std.proofs.Common.{◌≡◌, ℕ, ◌-◌, Bool, not, List, length, count_by, refl, arith}
use Rattle.std.proofs.lemmas.List.Filters.{length-filter_both}
use Rattle.std.proofs.lemmas.List.Sums.{length-filter}

-- those that do not pass are what is left over by those that pass
pub count_others : {X : Type 0} (p : X → Bool) (xs : List X) (n left : ℕ) → n ≡ length xs → left ≡ count_by (λ x. not (p x)) xs → n - left ≡ count_by p xs
count_others p xs n left h e =
    let a = length-filter_both p (λ x. not (p x)) (λ x. refl) xs in
    let b = length-filter p xs in
    let d = length-filter (λ x. not (p x)) xs in
    omega arith
