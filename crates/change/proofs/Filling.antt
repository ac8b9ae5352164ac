-- A loop that fills the first places of a lent list.
use Rattle.std.proofs.Common.{◌≡◌, ℕ, ◌+◌, ◌<◌, ◌≤◌, List, [], ◌∷◌, ◌++◌, length, take, drop, set, sym, ap, ◌∙◌, append_assoc, append-nil, arith}
use Rattle.std.proofs.lemmas.List.{take_more_set, drop-set-lt, drop-drop, take-append-drop, length-take-le, length-set}

-- ys began as xs; its first n places are filled, rest is still to come, and all will then stand there
pub record Filling {Y : Type 0} (xs ys : List Y) (n : ℕ) (rest all : List Y) : Type 0 where
  pub front : take n ys ++ rest ≡ all
  pub back : drop n ys ≡ drop n xs
  pub long : length ys ≡ length xs

-- what is to come, in other words
pub filling_as : {Y : Type 0} {xs ys rest rest' all : List Y} {n : ℕ} → Filling xs ys n rest all → rest ≡ rest' → Filling xs ys n rest' all
filling_as {Y} {xs} {ys} {rest} {rest'} {all} {n} f e =
    record { front = ap (λ z. take n ys ++ z) (sym e) ∙ f.front; back = f.back; long = f.long }

-- one more is written at n
pub filling_set : {Y : Type 0} {xs ys rest all : List Y} {n : ℕ} {y : Y} → Filling xs ys n (y ∷ rest) all → n < length ys
    → Filling xs (set ys n y) (n + 1) rest all
filling_set {Y} {xs} {ys} {rest} {all} {n} {y} f h =
    record {
      front = ap (λ z. z ++ rest) (take_more_set ys n y h) ∙ append_assoc (take n ys) (y ∷ []) rest ∙ f.front;
      back = drop-set-lt (n + 1) ys n y (omega arith) ∙ sym (drop-drop 1 n ys) ∙ ap (drop 1) f.back ∙ drop-drop 1 n xs;
      long = length-set ys n y ∙ f.long;
    }

-- nothing is to come
pub filling_all : {Y : Type 0} {xs ys all : List Y} {n : ℕ} → Filling xs ys n [] all → ys ≡ all ++ drop n xs
filling_all {Y} {xs} {ys} {all} {n} f =
    sym (take-append-drop n ys) ∙ ap (λ z. z ++ drop n ys) (sym (append-nil (take n ys)) ∙ f.front) ∙ ap (λ z. all ++ z) f.back

pub filling_count : {Y : Type 0} {xs ys all : List Y} {n : ℕ} → Filling xs ys n [] all → n ≤ length ys → n ≡ length all
filling_count {Y} {xs} {ys} {all} {n} f h = sym (length-take-le n ys h) ∙ ap length (sym (append-nil (take n ys)) ∙ f.front)
