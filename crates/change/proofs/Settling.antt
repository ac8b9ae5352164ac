-- A turn and the end of the loops that settle a row and send its requests.
use Rattle.std.proofs.Common.{◌≡◌, ℕ, ◌+◌, ◌<◌, ◌≤◌, true, false, List, [], ◌∷◌, ◌++◌, length, get_or, drop, sym, refl, ap, ◌∙◌, add_assoc}
use Rattle.std.proofs.lemmas.List.{drop_more, drop_all}
use Rattle.std.proofs.lemmas.Bool.{cond-true, cond-false}
use Rattle.rows.specs.declared.entry.Entry.{Entry}
use Rattle.rows.specs.declared.request.Request.{Request}
use Rattle.rows.proofs.Steps.{pushed, finished}
use Rattle.change.specs.declared.plan.Move.{Move}
use Rattle.change.specs.Requests.{sends, serial_after, with_serial, settled, request_for, requests_for}

pub settled_more : (xs : List Move) (i : ℕ) (d : Move) (serial serial' : ℕ) (y : Entry) (made made' all : List Entry) → i < length xs
    → y ≡ with_serial serial (get_or xs i d).entry (get_or xs i d).sending → serial' ≡ serial_after serial (get_or xs i d).sending → made' ≡ made ++ y ∷ []
    → made ++ settled serial (drop i xs) ≡ all → made' ++ settled serial' (drop (i + 1) xs) ≡ all
settled_more xs i d serial serial' y made made' all h is after new inv =
    pushed (settled serial) (settled serial') xs i d made made' (y ∷ []) all h
    (ap (λ z. z ∷ settled (serial_after serial (get_or xs i d).sending) (drop (i + 1) xs)) (sym is)
    ∙ ap (λ z. y ∷ settled z (drop (i + 1) xs)) (sym after))
    new inv

pub settled_all : (xs : List Move) (i serial : ℕ) (made all : List Entry) → length xs ≤ i → made ++ settled serial (drop i xs) ≡ all → made ≡ all
settled_all xs i serial made all h inv = finished (settled serial) xs i made all h refl inv

module _ (user time : ℕ) (rows : List (List Entry)) (next n : ℕ) (xs : List Move) (i : ℕ) (d : Move) (within : i < length xs) where
  pub requests-yes : (y : Request) → y ≡ request_for user time rows (next + n) (get_or xs i d).entry.group → sends (get_or xs i d).sending ≡ true
      → requests_for user time rows (next + n) (drop i xs) ≡ y ∷ requests_for user time rows (next + (n + 1)) (drop (i + 1) xs)
  requests-yes y is t =
      ap (requests_for user time rows (next + n)) (drop_more xs i d within)
      ∙ cond-true _ _ _ t
      ∙ ap (λ z. z ∷ requests_for user time rows ((next + n) + 1) (drop (i + 1) xs)) (sym is)
      ∙ ap (λ z. y ∷ requests_for user time rows z (drop (i + 1) xs)) (add_assoc next n 1)

  pub requests-no : sends (get_or xs i d).sending ≡ false
      → requests_for user time rows (next + n) (drop i xs) ≡ requests_for user time rows (next + n) (drop (i + 1) xs)
  requests-no t = ap (requests_for user time rows (next + n)) (drop_more xs i d within) ∙ cond-false _ _ _ t

pub requests_all : (user time : ℕ) (rows : List (List Entry)) (serial : ℕ) (xs : List Move) (i : ℕ) → length xs ≤ i
    → requests_for user time rows serial (drop i xs) ≡ []
requests_all user time rows serial xs i h = ap (requests_for user time rows serial) (drop_all i xs h)
