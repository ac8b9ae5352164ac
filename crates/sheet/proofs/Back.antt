-- What the sheet of a document says is the document.
use Rattle.std.proofs.Common.{◌≡◌, ℕ, zero, suc, ◌+◌, ◌-◌, ◌*◌, ◌/◌, ◌%◌, ◌<◌, ◌≤◌, min, Bool, true, false, cond, eqb, List, [], ◌∷◌, ◌++◌, length, get_or, replicate, sym, refl, ap, ◌∙◌, ap₂, append_assoc, arith}
use native.Mathlib.Nat.{div-div-eq-div-mul}
use Rattle.std.proofs.lemmas.Bool.Decides.{nat_tests}
use Rattle.std.proofs.lemmas.Nat.{mul-le}
use Rattle.std.proofs.lemmas.List.{take_at, get_or-append-add, length-append, length-replicate}
use Rattle.sheet.specs.declared.document.Member.{Member}
use Rattle.sheet.specs.Octets.{pair, quad, quad_at, sum_of}
use Rattle.sheet.specs.Contents.{Content}
use Rattle.sheet.specs.Rules.{different, keeps_rules}
use Rattle.sheet.specs.Layout.{member_marks, member_bytes, members_bytes, group_marks, head_bytes, body_bytes, sheet_bytes}
use Rattle.sheet.specs.Decoded.{member_of, members_of, group_of, content_of}
use Rattle.sheet.proofs.Sums.{sum_take}

-- numbers come back from their bytes
quad_sum : (x a b d : ℕ) → x / 256 ≡ a → a / 256 ≡ b → b / 256 ≡ d → x < 4294967296
    → d % 256 * 16777216 + b % 256 * 65536 + a % 256 * 256 + x % 256 ≡ x
quad_sum x a b d p q r h =
    let small : d < 256 = omega arith in
    let m : d % 256 ≡ d = omega arith in
    rw m (omega arith)

quad_back : (x : ℕ) (rest : List ℕ) → x < 4294967296 → quad_at (quad x ++ rest) 0 ≡ x
quad_back x rest h = quad_sum x (x / 256) (x / 65536) (x / 16777216) refl (div-div-eq-div-mul x 256 256) (div-div-eq-div-mul x 65536 256) h

marks_back : (one two four : Bool) (m : ℕ) → m ≡ cond one 1 0 + cond two 2 0 + cond four 4 0
    → (eqb (m % 2) 1 ≡ one) × (eqb (m / 2 % 2) 1 ≡ two) × (eqb (m / 4 % 2) 1 ≡ four)
marks_back one two four m e = grind (arith, nat_tests)

member_back : (m : Member) (rest : List ℕ) → m.user.number < 4294967296 → member_of (member_bytes m ++ rest) ≡ m
member_back m rest h =
    let q = quad_back m.user.number (member_marks m ∷ rest) h in
    let b = marks_back m.required m.may_join m.may_start (member_marks m) refl in
    λ i. record { user = record { number = q i }; required = b.0 i; may_join = b.1 i; may_start = b.2 i }

members_back : (ms : List Member) (rest : List ℕ) → different ms ≡ true → members_of (length ms) (members_bytes ms ++ rest) ≡ ms
members_back [] rest h = refl
members_back (m ∷ ms) rest h =
    let fits : m.user.number < 4294967296 = grind (arith, nat_tests) in
    let later : different ms ≡ true = grind (arith, nat_tests) in
    ap₂ (λ x xs. x ∷ xs) (member_back m (members_bytes ms ++ rest) fits) (members_back ms rest later)

-- what the head and the members say, whatever stands after them
content_from : (g : ℕ) (c : Content) (tail rest : List ℕ) → length c.members ≤ 64 → different c.members ≡ true
    → tail ≡ members_bytes c.members ++ rest → content_of (head_bytes g c ++ tail) ≡ c
content_from g c tail rest few each e =
    let f = marks_back c.disabled c.invite_members false (group_marks c) (omega arith) in
    let n : min (length c.members / 256 % 256 * 256 + length c.members % 256) 64 ≡ length c.members = omega arith in
    let ms : members_of (min (length c.members / 256 % 256 * 256 + length c.members % 256) 64) tail ≡ c.members =
    rw (n, e) (members_back c.members rest each) in
    λ i. record { disabled = f.0 i; invite_members = f.1 i; limit = c.limit; members = ms i }

-- what the sheet of a group and a content within the rules says is that group and that content
pub group_back : (g : ℕ) (c : Content) → keeps_rules g c ≡ true → group_of (sheet_bytes g c) ≡ g
unfolding sheet_bytes
group_back g c h =
    let bound : g < 4294967296 = grind (arith, nat_tests) in
    quad_back g [] bound

pub content_back : (g : ℕ) (c : Content) → keeps_rules g c ≡ true → content_of (sheet_bytes g c) ≡ c
unfolding sheet_bytes
content_back g c h =
    let few : length c.members ≤ 64 = grind (arith, nat_tests) in
    let each : different c.members ≡ true = grind (arith, nat_tests) in
    let zeros = replicate (500 - 5 * length c.members) 0 in
    let sum = quad (sum_of (body_bytes g c) 508) in
    content_from g c ((members_bytes c.members ++ zeros) ++ sum) (zeros ++ sum) few each (append_assoc (members_bytes c.members) zeros sum)

-- different groups or contents within the rules have different sheets
pub told_apart : (g h : ℕ) (c d : Content) → keeps_rules g c ≡ true → keeps_rules h d ≡ true → sheet_bytes g c ≡ sheet_bytes h d → (g ≡ h) × (c ≡ d)
told_apart g h c d v w e =
    (sym (group_back g c v) ∙ (ap group_of e ∙ group_back h d w), sym (content_back g c v) ∙ (ap content_of e ∙ content_back h d w))

length_members_bytes : (ms : List Member) → length (members_bytes ms) ≡ 5 * length ms
length_members_bytes [] = refl
length_members_bytes (m ∷ ms) = let ih = length_members_bytes ms in omega arith

length_body : (g : ℕ) (c : Content) → keeps_rules g c ≡ true → length (body_bytes g c) ≡ 508
length_body g c h =
    let le : length c.members ≤ 64 = grind (arith, nat_tests) in
    let n = length_members_bytes c.members in
    simp (length-append, length-replicate) (omega arith)

whole_length : (xs : List ℕ) (w : ℕ) → length xs ≡ 508 → length (xs ++ quad w) ≡ 512
whole_length xs w n = simp length-append (omega arith)

-- a sheet has 512 bytes
pub sheet_length : (g : ℕ) (c : Content) → keeps_rules g c ≡ true → length (sheet_bytes g c) ≡ 512
unfolding sheet_bytes
sheet_length g c h = whole_length (body_bytes g c) (sum_of (body_bytes g c) 508) (length_body g c h)

-- every element is a byte
Octets : List ℕ → Type 0
Octets bytes = (i : ℕ) → get_or bytes i 0 < 256

octets_more : (x : ℕ) (xs : List ℕ) → x < 256 → Octets xs → Octets (x ∷ xs)
unfolding Octets
octets_more x xs h hs zero = h
octets_more x xs h hs (suc i) = hs i

octets_append : (xs ys : List ℕ) → Octets xs → Octets ys → Octets (xs ++ ys)
unfolding Octets
octets_append [] ys p q i = q i
octets_append (x ∷ xs) ys p q zero = p 0
octets_append (x ∷ xs) ys p q (suc i) = octets_append xs ys (λ j. p (suc j)) q i

octets_none : Octets []
unfolding Octets
octets_none i = omega arith

octets_zeros : (n : ℕ) → Octets (replicate n 0)
octets_zeros zero = octets_none
octets_zeros (suc n) = octets_more 0 (replicate n 0) (omega arith) (octets_zeros n)

octets_quad : (x : ℕ) (rest : List ℕ) → Octets rest → Octets (quad x ++ rest)
octets_quad x rest h =
    octets_more _ _ (omega arith) (octets_more _ _ (omega arith) (octets_more _ _ (omega arith) (octets_more _ _ (omega arith) h)))

octets_members : (ms : List Member) → Octets (members_bytes ms)
octets_members [] = octets_none
octets_members (m ∷ ms) =
    let small : member_marks m < 256 = grind (arith, nat_tests) in
    octets_quad m.user.number (member_marks m ∷ members_bytes ms) (octets_more _ _ small (octets_members ms))

octets_body : (g : ℕ) (c : Content) → keeps_rules g c ≡ true → Octets (body_bytes g c)
octets_body g c h =
    let marks : group_marks c < 256 = grind (arith, nat_tests) in
    let limit : c.limit < 256 = grind (arith, nat_tests) in
    let rest = members_bytes c.members ++ replicate (500 - 5 * length c.members) 0 in
    octets_quad g (group_marks c ∷ c.limit ∷ (pair (length c.members) ++ rest))
    (octets_more _ _ marks (octets_more _ _ limit (octets_more _ _ (omega arith) (octets_more _ _ (omega arith)
    (octets_append (members_bytes c.members) (replicate (500 - 5 * length c.members) 0) (octets_members c.members) (octets_zeros (500 - 5 * length c.members)))))))

sum_small : (bytes : List ℕ) (n : ℕ) → Octets bytes → n ≤ 508 → sum_of bytes n ≤ n * 129540
unfolding Octets sum_of
sum_small bytes zero h le = omega arith
sum_small bytes (suc n) h le =
    let ih = sum_small bytes n h (omega arith) in
    let b = h n in
    omega (arith, mul-le (suc n) (get_or bytes n 0) 508 255 (omega arith) (omega arith))

whole_sum : (xs : List ℕ) (w : ℕ) → length xs ≡ 508 → sum_of (xs ++ quad w) 508 ≡ sum_of xs 508
whole_sum xs w n = sym (sum_take (xs ++ quad w) 508 508 (omega arith)) ∙ ap (λ z. sum_of z 508) (take_at xs (quad w) 508 n)

whole_quad : (xs : List ℕ) (w : ℕ) → length xs ≡ 508 → w < 4294967296 → quad_at (xs ++ quad w) 508 ≡ w
whole_quad xs w n h =
    let e : (k : ℕ) → get_or (xs ++ quad w) (508 + k) 0 ≡ get_or (quad w) k 0 = λ k. rw n at (get_or-append-add xs (quad w) k 0) in
    let q = quad_back w [] h in
    let e0 = e 0 in let e1 = e 1 in let e2 = e 2 in let e3 = e 3 in
    omega arith

-- the sum in the last four bytes of a sheet is right
pub sum_right : (g : ℕ) (c : Content) → keeps_rules g c ≡ true → sum_of (sheet_bytes g c) 508 ≡ quad_at (sheet_bytes g c) 508
unfolding sheet_bytes
sum_right g c h =
    let n = length_body g c h in
    let small = sum_small (body_bytes g c) 508 (octets_body g c h) (omega arith) in
    whole_sum (body_bytes g c) (sum_of (body_bytes g c) 508) n ∙ sym (whole_quad (body_bytes g c) (sum_of (body_bytes g c) 508) n (omega arith))
