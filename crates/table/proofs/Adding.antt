-- A turn of the loop that adds what a closure makes of each value.
use Rattle.std.proofs.Common.{◌≡◌, ℕ, ◌+◌, ◌<◌, List, [], ◌∷◌, ◌++◌, length, get_or, drop, Some, None, Option, sym, ap, ◌∙◌, append_assoc}
use Rattle.std.proofs.lemmas.List.{at_drop_more}
use Rattle.std.specs.List.{filter_map, cons_option}

turn : {X Y : Type 0} (p : X → Option Y) (xs : List X) (i : ℕ) (d : X) (made : List Y) (o : Option Y) → i < length xs → o ≡ p (get_or xs i d)
    → made ++ filter_map p (drop i xs) ≡ made ++ cons_option o (filter_map p (drop (i + 1) xs))
turn p xs i d made o h e =
    ap (λ z. made ++ z) (at_drop_more (filter_map p) xs i d h ∙ ap (λ z. cons_option z (filter_map p (drop (i + 1) xs))) (sym e))

-- it made y, which was added
pub added_more : {X Y : Type 0} (p : X → Option Y) (xs : List X) (i : ℕ) (d : X) (y : Y) (made made' all : List Y) → i < length xs → Some y ≡ p (get_or xs i d)
    → made' ≡ made ++ y ∷ [] → made ++ filter_map p (drop i xs) ≡ all → made' ++ filter_map p (drop (i + 1) xs) ≡ all
added_more p xs i d y made made' all h e new inv =
    ap (λ z. z ++ filter_map p (drop (i + 1) xs)) new
    ∙ append_assoc made (y ∷ []) (filter_map p (drop (i + 1) xs))
    ∙ sym (turn p xs i d made (Some y) h e)
    ∙ inv

-- it made nothing
pub added_none : {X Y : Type 0} (p : X → Option Y) (xs : List X) (i : ℕ) (d : X) (made all : List Y) → i < length xs → None ≡ p (get_or xs i d)
    → made ++ filter_map p (drop i xs) ≡ all → made ++ filter_map p (drop (i + 1) xs) ≡ all
added_none p xs i d made all h e inv = sym (turn p xs i d made None h e) ∙ inv
