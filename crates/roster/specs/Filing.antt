-- Lemmas on pages: where a group stands, and what putting a document in makes of them.
use Rattle.std.specs.Prelude.{◌≡◌, ℕ, zero, suc, ◌+◌, ◌<◌, ◌≤◌, true, false, cond, not, ◌&&◌, ◌||◌, List, [], ◌∷◌, ◌++◌, map, length, get_or, take, drop, set, is_some, Some, None, Option, MatchOption, IsSomeAnd, ◌==◌, nat_le, nat_lt, slice_index_or, slice_set, refl}
use Rattle.std.proofs.Common.{sym, ap, ap₂, ltb, ◌∙◌, arith}
use Rattle.std.proofs.Math.Seq.{take-set-lt}
use Rattle.std.proofs.lemmas.List.{at_drop_more, map-set, map_push, take_more_set, length-map, length-take, length-take-le, get_or-map}
use Rattle.std.proofs.lemmas.List.Recursion.{is_position_or_len}
use Rattle.std.proofs.lemmas.Bool.Decides.{nat_tests}
use Rattle.std.specs.List.{find, position_or_len, slice_get}
use Rattle.std.specs.Option.{option_map}
use Rattle.mcptt.specs.declared.identity.GroupId.{GroupId}
use Rattle.roster.specs.Meaning.{among, apart, no_room, with_document, as_groups}
use Rattle.roster.specs.Pages.{Filed, groups_in, held_in, place_of, with_group}

-- one step of the search for a group's page
pub find_step : {P : Type 0} (says : P → Filed) (g : ℕ) (ps : List P) (i : ℕ) (p : P) → i < length ps → p ≡ slice_index_or ps i p
    → place_of g (map says (drop i ps)) ≡ cond ((says p).group == g) 0 (suc (place_of g (map says (drop (i + 1) ps))))
find_step says g ps i p lt e =
    at_drop_more (λ us. place_of g (map says us)) ps i p lt
    ∙ ap (λ q. cond ((says q).group == g) 0 (suc (place_of g (map says (drop (i + 1) ps))))) (sym e)

-- the pages once a document is put in: on the first page of its group, or on a new one at the end
abbrev pub put_in : List Filed → Filed → List Filed
put_in [] new = new ∷ []
put_in (p ∷ ps) new = cond (p.group == new.group) (new ∷ ps) (p ∷ put_in ps new)

place_within : (g : ℕ) (fs : List Filed) → place_of g fs ≤ length fs
place_within g [] = omega arith
place_within g (f ∷ fs) = let ih = place_within g fs in grind (arith, nat_tests)

nowhere_held : (g : ℕ) (fs : List Filed) → place_of g fs ≡ length fs → held_in fs g ≡ None
nowhere_held g [] e = refl
nowhere_held g (f ∷ fs) e = let ih = nowhere_held g fs in grind (arith, nat_tests)

place_held : (g : ℕ) (fs : List Filed) (d : Filed) → place_of g fs < length fs → held_in fs g ≡ Some (get_or fs (place_of g fs) d).document
place_held g [] d lt = let no_way : ⊥ = omega arith in absurd no_way
place_held g (f ∷ fs) d lt = let ih = place_held g fs d in grind (arith, nat_tests)

-- the page that was found has the group's document
pub found_held : {P : Type 0} (says : P → Filed) (g : ℕ) (ps : List P) (i : ℕ) (p : P) → i < length ps → place_of g (map says ps) ≡ i
    → p ≡ slice_index_or ps i p → held_in (map says ps) g ≡ Some (says p).document
found_held says g ps i p lt e is =
    let n = length-map ps says in
    place_held g (map says ps) (says p) (omega arith)
    ∙ ap (λ (f : Filed). Some f.document) (ap (λ k. get_or (map says ps) k (says p)) e ∙ (get_or-map says ps i p (says p) lt ∙ ap says (sym is)))

-- no page was found: the group has no document
pub none_held : {P : Type 0} (says : P → Filed) (g : ℕ) (ps : List P) → place_of g (map says ps) ≡ length ps → held_in (map says ps) g ≡ None
none_held says g ps e = nowhere_held g (map says ps) (e ∙ sym (length-map ps says))

some_place : (g : ℕ) (fs : List Filed) → is_some (held_in fs g) ≡ nat_lt (place_of g fs) (length fs)
some_place g [] = refl
some_place g (f ∷ fs) = let ih = some_place g fs in grind (arith, nat_tests)

found_some : {P : Type 0} (says : P → Filed) (g : ℕ) (ps : List P) (o : Option ℕ)
    → MatchOption o (place_of g (map says ps) ≡ length ps) (λ i. (i < length ps) × (place_of g (map says ps) ≡ i))
    → is_some o ≡ is_some (held_in (map says ps) g)
found_some says g ps None h = let s = some_place g (map says ps) in let n = length-map ps says in grind (arith, nat_tests)
found_some says g ps (Some i) h = let s = some_place g (map says ps) in let n = length-map ps says in grind (arith, nat_tests)

-- the group at a place, and past the last
pub group_there : {P : Type 0} (says : P → Filed) (ps : List P) (i : ℕ) (p : P) (g : GroupId) → i < length ps → p ≡ slice_index_or ps i p
    → g.number ≡ (says p).group → Some g ≡ slice_get (as_groups (groups_in (map says ps))) i
group_there says [] i p g lt is e = let no_way : ⊥ = omega arith in absurd no_way
group_there says (q ∷ qs) zero p g lt is e =
    let n = e ∙ ap (λ x. (says x).group) is in
    λ k. Some (record { number = n k })
group_there says (q ∷ qs) (suc i) p g lt is e = group_there says qs i p g (omega arith) is e

pub group_past : {P : Type 0} (says : P → Filed) (ps : List P) (i : ℕ) → length ps ≤ i → None ≡ slice_get (as_groups (groups_in (map says ps))) i
group_past says [] i le = refl
group_past says (p ∷ ps) zero le = let no_way : ⊥ = omega arith in absurd no_way
group_past says (p ∷ ps) (suc i) le = group_past says ps i (omega arith)

-- the group at a place, read off the page there
pub group_got : {P Q : Type 0} (says : P → Filed) (at : Q → P) (ps : List P) (i : ℕ) (o : Option Q) (r : Option GroupId)
    → MatchOption o (length ps ≤ i) (λ q. (i < length ps) × (at q ≡ get_or ps i (at q)))
    → MatchOption o (r ≡ None) (λ q. IsSomeAnd r (λ g. g.number ≡ (says (at q)).group))
    → r ≡ slice_get (as_groups (groups_in (map says ps))) i
group_got says at ps i None r none is = is ∙ group_past says ps i none
group_got says at ps i (Some q) None some is = absurd is
group_got says at ps i (Some q) (Some g) some is = group_there says ps i (at q) g some.0 some.1 is

-- where a search for the group ends
searched : {P : Type 0} (says : P → Filed) (g : ℕ) (ps : List P) → place_of g (map says ps) ≡ position_or_len (λ p. (says p).group == g) ps
searched says g ps =
    is_position_or_len (λ us. place_of g (map says us)) (λ p. (says p).group == g) refl
    (λ x xs. let e : suc (place_of g (map says xs)) ≡ 1 + place_of g (map says xs) = omega arith in ap (cond ((says x).group == g) 0) e)
    ps

-- the place that a search gives
pub found_place : {P : Type 0} (says : P → Filed) (g : ℕ) (ps : List P) (r : Option ℕ)
    → r ≡ cond (ltb (position_or_len (λ p. (says p).group == g) ps) (length ps)) (Some (position_or_len (λ p. (says p).group == g) ps)) None
    → MatchOption r (place_of g (map says ps) ≡ length ps) (λ i. (i < length ps) × (place_of g (map says ps) ≡ i))
found_place says g ps None e =
    let s = searched says g ps in
    let w = place_within g (map says ps) in
    let n = length-map ps says in
    grind (arith, nat_tests)
found_place says g ps (Some i) e =
    let s = searched says g ps in
    (grind (arith, nat_tests), grind (arith, nat_tests))

-- the page that a search gives has the group's document
held_found : {P : Type 0} (says : P → Filed) (g : ℕ) (ps : List P)
    → option_map (λ p. (says p).document) (find (λ p. (says p).group == g) ps) ≡ held_in (map says ps) g
held_found says g [] = refl
held_found says g (p ∷ ps) = let ih = held_found says g ps in grind (arith, nat_tests)

pub found_page : {P Q : Type 0} (says : P → Filed) (at : Q → P) (g : ℕ) (ps : List P) (r : Option Q)
    → option_map at r ≡ find (λ p. (says p).group == g) ps
    → MatchOption r (held_in (map says ps) g ≡ None) (λ q. held_in (map says ps) g ≡ Some (says (at q)).document)
found_page says at g ps None e = sym (ap (option_map (λ p. (says p).document)) e ∙ held_found says g ps)
found_page says at g ps (Some q) e = sym (ap (option_map (λ p. (says p).document)) e ∙ held_found says g ps)

-- a group has no room where no page of it was found and the pages in use are as many as there can be
pub no_room_is : {P : Type 0} (says : P → Filed) (g : ℕ) (ps : List P) (room : ℕ) (o : Option ℕ)
    → MatchOption o (place_of g (map says ps) ≡ length ps) (λ i. (i < length ps) × (place_of g (map says ps) ≡ i))
    → no_room room (held_in (map says ps)) (groups_in (map says ps)) g ≡ (not (is_some o) && nat_le room (length ps))
no_room_is says g ps room o h =
    let long = length-map (map says ps) (λ (f : Filed). f.group) ∙ length-map ps says in
    ap₂ (λ b n. not b && nat_le room n) (sym (found_some says g ps o h)) long

set_put : (fs : List Filed) (f : Filed) → place_of f.group fs < length fs → slice_set fs (place_of f.group fs) f ≡ put_in fs f
set_put [] f lt = let no_way : ⊥ = omega arith in absurd no_way
set_put (p ∷ ps) f lt = let ih = set_put ps f in grind (arith, nat_tests)

push_put : (fs : List Filed) (f : Filed) → place_of f.group fs ≡ length fs → fs ++ f ∷ [] ≡ put_in fs f
push_put [] f e = refl
push_put (p ∷ ps) f e = let ih = push_put ps f in grind (arith, nat_tests)

-- a page of those in use is written anew
pub put_found : {P : Type 0} (says : P → Filed) (ps : List P) (n i : ℕ) (p : P) (f : Filed) → n ≤ length ps → i < n
    → place_of f.group (map says (take n ps)) ≡ i → says p ≡ f → map says (take n (slice_set ps i p)) ≡ put_in (map says (take n ps)) f
put_found says ps n i p f le lt e is =
    let fs = map says (take n ps) in
    let long = length-map (take n ps) says ∙ length-take-le n ps le in
    ap (map says) (take-set-lt n ps i p lt)
    ∙ (map-set says (take n ps) i p
    ∙ (ap₂ (λ k x. set fs k x) (sym e) is
    ∙ set_put fs f (omega arith)))

-- the page behind those in use is written
pub put_new : {P : Type 0} (says : P → Filed) (ps : List P) (n i : ℕ) (p : P) (f : Filed) → n ≤ i → i < length ps
    → place_of f.group (map says (take n ps)) ≡ i → says p ≡ f → map says (take (i + 1) (slice_set ps i p)) ≡ put_in (map says (take n ps)) f
put_new says ps n i p f le lt e is =
    let fs = map says (take n ps) in
    let long = length-map (take n ps) says ∙ length-take-le n ps (omega arith) in
    let most = place_within f.group fs in
    let same : i ≡ n = omega arith in
    ap (map says) (take_more_set ps i p lt)
    ∙ (map_push says (take i ps) p
    ∙ (ap₂ (λ k x. map says (take k ps) ++ x ∷ []) same is
    ∙ push_put fs f (omega arith)))

-- a page is added behind those in use
pub put_last : {P : Type 0} (says : P → Filed) (ps : List P) (p : P) (f : Filed) → place_of f.group (map says ps) ≡ length ps → says p ≡ f
    → map says (ps ++ p ∷ []) ≡ put_in (map says ps) f
put_last says ps p f e is =
    map_push says ps p
    ∙ (ap (λ x. map says ps ++ x ∷ []) is
    ∙ push_put (map says ps) f (e ∙ sym (length-map ps says)))

held_put : (fs : List Filed) (f : Filed) (g : ℕ) → held_in (put_in fs f) g ≡ with_document (held_in fs) f.group f.document g
held_put [] f g = grind (arith, nat_tests)
held_put (p ∷ ps) f g = let ih = held_put ps f g in grind (arith, nat_tests)

groups_put : (fs : List Filed) (f : Filed) → groups_in (put_in fs f) ≡ with_group (groups_in fs) f.group
groups_put [] f = refl
groups_put (p ∷ ps) f = let ih = groups_put ps f in grind (arith, nat_tests)

pub carries_held : (fs : List Filed) (g : ℕ) → is_some (held_in fs g) ≡ among g (groups_in fs)
carries_held [] g = refl
carries_held (f ∷ fs) g = let ih = carries_held fs g in grind (arith, nat_tests)

-- no more groups are carried than pages are in use
pub carried_within : {P : Type 0} (says : P → Filed) (ps : List P) (n most : ℕ) → n ≤ most → length (groups_in (map says (take n ps))) ≤ most
carried_within says ps n most few = simp (length-map, length-take) (omega arith)

-- one more group at the end
pub among_push : (k g : ℕ) (gs : List ℕ) → among k (gs ++ g ∷ []) ≡ (among k gs || g == k)
among_push k g [] = grind (arith, nat_tests)
among_push k g (x ∷ xs) = let ih = among_push k g xs in grind (arith, nat_tests)

pub apart_push : (g : ℕ) (gs : List ℕ) → apart gs ≡ true → among g gs ≡ false → apart (gs ++ g ∷ []) ≡ true
apart_push g [] h k = refl
apart_push g (x ∷ xs) h k = let ih = apart_push g xs in let m = among_push x g xs in grind (arith, nat_tests)

-- what a roster means once a document is put in
pub put_means : (fs after : List Filed) (f : Filed) → after ≡ put_in fs f
    → ((g : ℕ) → held_in after g ≡ with_document (held_in fs) f.group f.document g) × (groups_in after ≡ with_group (groups_in fs) f.group)
put_means fs after f e = (λ g. ap (λ ps. held_in ps g) e ∙ held_put fs f g, ap groups_in e ∙ groups_put fs f)

-- the groups stay apart
pub apart_put : (fs after : List Filed) (f : Filed) → after ≡ put_in fs f → apart (groups_in fs) ≡ true → apart (groups_in after) ≡ true
apart_put fs after f is h =
    let e = ap groups_in is ∙ groups_put fs f in
    let p = apart_push f.group (groups_in fs) h in
    grind (arith, nat_tests)
