-- Writing within the first places of a list.
use Rattle.std.proofs.Common.{◌≡◌, ℕ, ◌<◌, List, take, set}
use Rattle.std.proofs.Math.Seq.{take-set-lt}

-- a change within the first n is a change of the first n
pub take_set_in : {X : Type 0} (n : ℕ) (xs : List X) (i : ℕ) (x : X) → i < n → take n (set xs i x) ≡ set (take n xs) i x
take_set_in n xs i x lt = take-set-lt n xs i x lt
