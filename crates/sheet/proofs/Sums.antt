-- The sum of a sheet, byte by byte.
use Rattle.std.proofs.Common.{◌≡◌, ℕ, zero, suc, ◌+◌, ◌*◌, ◌<◌, ◌≤◌, List, get_or, take, refl, add-one, arith}
use Rattle.std.proofs.lemmas.List.{get_or-take}
use Rattle.sheet.specs.Octets.{sum_of}

pub sum_none : (bytes : List ℕ) → 0 ≡ sum_of bytes 0
unfolding sum_of
sum_none bytes = refl

pub sum_more : (bytes : List ℕ) (i : ℕ) → sum_of bytes (i + 1) ≡ sum_of bytes i + (i + 1) * get_or bytes i 0
unfolding sum_of
sum_more bytes i = rw add-one

-- the sum over the first k bytes is that of any front with as many
pub sum_take : (bytes : List ℕ) (n k : ℕ) → k ≤ n → sum_of (take n bytes) k ≡ sum_of bytes k
unfolding sum_of
sum_take bytes n zero h = refl
sum_take bytes n (suc k) h =
    let lt : k < n = omega arith in
    let e = get_or-take n bytes k 0 lt in
    let ih = sum_take bytes n k (omega arith) in
    cc
