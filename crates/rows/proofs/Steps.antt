-- Loops over a list: a turn, and the end, by what is left of it.
use Rattle.std.proofs.Common.{◌≡◌, ℕ, ◌+◌, ◌<◌, ◌≤◌, List, [], ◌∷◌, ◌++◌, length, get_or, drop, sym, refl, ap, ◌∙◌, append_assoc, append-nil}
use Rattle.std.proofs.lemmas.List.{drop_more, drop_all}
use Rattle.std.specs.List.{flat_map}

-- a recursion F over what is left
pub more : {X Y : Type 0} (F : List X → Y) (xs : List X) (i : ℕ) (d : X) (all : Y) → i < length xs → F (drop i xs) ≡ all
    → F (get_or xs i d ∷ drop (i + 1) xs) ≡ all
more F xs i d all h inv = sym (ap F (drop_more xs i d h)) ∙ inv

pub done : {X Y : Type 0} (F : List X → Y) (xs : List X) (i : ℕ) (all : Y) → length xs ≤ i → F (drop i xs) ≡ all → F [] ≡ all
done F xs i all h inv = sym (ap F (drop_all i xs h)) ∙ inv

-- what is made so far stands before what is left; the recursion may go over from F to G
pub pushed : {X Y : Type 0} (F G : List X → List Y) (xs : List X) (i : ℕ) (d : X) (made made' ys all : List Y) → i < length xs
    → F (get_or xs i d ∷ drop (i + 1) xs) ≡ ys ++ G (drop (i + 1) xs) → made' ≡ made ++ ys
    → made ++ F (drop i xs) ≡ all → made' ++ G (drop (i + 1) xs) ≡ all
pushed F G xs i d made made' ys all h step new inv =
    ap (λ z. z ++ G (drop (i + 1) xs)) new
    ∙ append_assoc made ys (G (drop (i + 1) xs))
    ∙ ap (λ z. made ++ z) (sym step)
    ∙ more (λ z. made ++ F z) xs i d all h inv

pub finished : {X Y : Type 0} (F : List X → List Y) (xs : List X) (i : ℕ) (made all : List Y) → length xs ≤ i → F [] ≡ []
    → made ++ F (drop i xs) ≡ all → made ≡ all
finished F xs i made all h nil inv = sym (append-nil made) ∙ ap (λ z. made ++ z) (sym nil) ∙ done (λ z. made ++ F z) xs i all h inv

-- each element gives a list of its own, which is put at the end
pub flat_more : {X Y : Type 0} (f : X → List Y) (xs : List X) (i : ℕ) (d : X) (made made' all : List Y) → i < length xs
    → made' ≡ made ++ f (get_or xs i d) → made ++ flat_map f (drop i xs) ≡ all → made' ++ flat_map f (drop (i + 1) xs) ≡ all
flat_more f xs i d made made' all h new inv = pushed (flat_map f) (flat_map f) xs i d made made' (f (get_or xs i d)) all h refl new inv

pub flat_all : {X Y : Type 0} (f : X → List Y) (xs : List X) (i : ℕ) (made all : List Y) → length xs ≤ i
    → made ++ flat_map f (drop i xs) ≡ all → made ≡ all
flat_all f xs i made all h inv = finished (flat_map f) xs i made all h refl inv
