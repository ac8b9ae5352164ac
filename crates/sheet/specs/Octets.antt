-- Numbers in bytes, high byte first, and the sum of a sheet.
use Rattle.std.specs.Prelude.{ℕ, zero, suc, ◌+◌, ◌*◌, ◌/◌, ◌%◌, List, [], ◌∷◌, slice_index}

-- a number in two bytes, and in four
abbrev pub pair : ℕ → List ℕ
pair x = (x / 256 % 256) ∷ (x % 256) ∷ []

abbrev pub quad : ℕ → List ℕ
quad x = (x / 16777216 % 256) ∷ (x / 65536 % 256) ∷ (x / 256 % 256) ∷ (x % 256) ∷ []

-- the number that stands in the two bytes, or the four, from a place on
abbrev pub pair_at : List ℕ → ℕ → ℕ
pair_at bytes i = slice_index bytes i * 256 + slice_index bytes (i + 1)

abbrev pub quad_at : List ℕ → ℕ → ℕ
quad_at bytes i = slice_index bytes i * 16777216 + slice_index bytes (i + 1) * 65536 + slice_index bytes (i + 2) * 256 + slice_index bytes (i + 3)

-- the sum of (i + 1) × byte i over the first n bytes
unfoldable pub sum_of : List ℕ → ℕ → ℕ
sum_of bytes zero = 0
sum_of bytes (suc n) = sum_of bytes n + suc n * slice_index bytes n
