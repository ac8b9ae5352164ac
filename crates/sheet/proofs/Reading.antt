-- Bytes read member by member, and what is found in the sheet of a document.
use Rattle.std.proofs.Common.{◌≡◌, ℕ, zero, suc, ◌+◌, ◌-◌, ◌*◌, ◌<◌, ◌≤◌, true, ◌==◌, ◌||◌, List, ◌∷◌, ◌++◌, map, length, take, drop, set, Some, None, cond, sym, refl, ap, ◌∙◌, ap₂, append_assoc, add-zero, arith}
use Rattle.std.proofs.lemmas.Slice.Eq.{bytes_eq-Decides}
use Rattle.std.proofs.lemmas.Bool.{and_from, and_parts, le-leb, cond-true, eq-eqb}
use Rattle.std.proofs.lemmas.List.{take_more_set, drop-drop, get_or-drop}
use Rattle.std.specs.List.{list_any, range_with_len}
use Rattle.sheet.specs.declared.document.Member.{Member}
use Rattle.sheet.specs.declared.document.Document.{Document}
use Rattle.mcptt.specs.declared.refusal.Refusal.TheVariants.{ContentFaulty}
use Rattle.sheet.specs.Octets.{quad_at, sum_of}
use Rattle.sheet.specs.Contents.{Content, content}
use Rattle.sheet.specs.Rules.{names, keeps_rules, lawful}
use Rattle.sheet.specs.Layout.{sheet_bytes}
use Rattle.sheet.specs.Decoded.{member_of, members_of, group_of, content_of}
use Rattle.sheet.specs.Promises.{ASheet, is_sheet, unread}
use Rattle.sheet.proofs.Back.{group_back, content_back}

-- a number at a place, and at the front of what is left from there on
pub quad_drop : (bytes : List ℕ) (k : ℕ) → quad_at bytes k ≡ quad_at (drop k bytes) 0
quad_drop bytes k = simp (get_or-drop, add-zero)

-- the member i of those that stand in the bytes
abbrev pub member_at : List ℕ → ℕ → Member
member_at bytes i = member_of (drop (8 + 5 * i) bytes)

-- n members from the member k on
pub members_from : (bytes : List ℕ) (k n : ℕ) → map (member_at bytes) (range_with_len k n) ≡ members_of n (drop (8 + 5 * k) bytes)
members_from bytes k zero = refl
members_from bytes k (suc n) =
    let e : 8 + 5 * (k + 1) ≡ (8 + 5 * k) + 5 = omega arith in
    ap (λ ms. member_at bytes k ∷ ms)
    (members_from bytes (k + 1) n ∙ ap (members_of n) (ap (λ j. drop j bytes) e ∙ sym (drop-drop 5 (8 + 5 * k) bytes)))

-- a user among them, by the numbers alone
pub names_from : (bytes : List ℕ) (user k n : ℕ)
    → list_any (λ i. quad_at bytes (8 + 5 * i) == user) (range_with_len k n) ≡ names user (map (member_at bytes) (range_with_len k n))
names_from bytes user k zero = refl
names_from bytes user k (suc n) =
    ap₂ (λ q b. q == user || b) (quad_drop bytes (8 + 5 * k)) (names_from bytes user (k + 1) n)

-- the members from the member i on: the member i, and those from the next on
pub members_more : (bytes : List ℕ) (i n : ℕ) → i < n
    → members_of (n - i) (drop (8 + 5 * i) bytes) ≡ member_of (drop (8 + 5 * i) bytes) ∷ members_of (n - (i + 1)) (drop (8 + 5 * (i + 1)) bytes)
members_more bytes i n lt =
    let m : n - i ≡ suc (n - (i + 1)) = omega arith in
    let k : 8 + 5 * (i + 1) ≡ (8 + 5 * i) + 5 = omega arith in
    rw (m, k, ← drop-drop 5 (8 + 5 * i) bytes)

-- one more member is read
pub member_read : (ms whole : List Member) (bytes : List ℕ) (i n : ℕ) (x : Member) → i < n → i < length ms
    → x ≡ member_of (drop (8 + 5 * i) bytes)
    → take i ms ++ members_of (n - i) (drop (8 + 5 * i) bytes) ≡ whole
    → take (i + 1) (set ms i x) ++ members_of (n - (i + 1)) (drop (8 + 5 * (i + 1)) bytes) ≡ whole
member_read ms whole bytes i n x lt within is h =
    rw (take_more_set ms i x within, append_assoc, is) (rw (members_more bytes i n lt) at h)

-- a sheet is read as the group and the content that it is of, and they are within the rules
pub found : (bytes : List ℕ) (g : ℕ) (c : Content) (group : ℕ) (d : Document) → keeps_rules g c ≡ true → bytes ≡ sheet_bytes g c
    → group ≡ group_of bytes → content d ≡ content_of bytes → d.count ≤ 64
    → (group ≡ g) × (content d ≡ c) × (lawful group d ≡ true) × (bytes ≡ sheet_bytes group (content d))
found bytes g c group d v e p q le =
    let x : group ≡ g = p ∙ (ap group_of e ∙ group_back g c v) in
    let y : content d ≡ c = q ∙ (ap content_of e ∙ content_back g c v) in
    let ok : keeps_rules group (content d) ≡ true = ap₂ keeps_rules x y ∙ v in
    (x, y, and_from _ _ (le-leb d.count 64 le) ok, e ∙ sym (ap₂ sheet_bytes x y))

-- the test of a sheet answers whether it is one
pub sheet_tested : (bytes : List ℕ) (g : ℕ) (c : Content) → keeps_rules g c ≡ true → bytes ≡ sheet_bytes g c → is_sheet bytes ≡ true
unfolding is_sheet
sheet_tested bytes g c v e =
    let x : group_of bytes ≡ g = ap group_of e ∙ group_back g c v in
    let y : content_of bytes ≡ c = ap content_of e ∙ content_back g c v in
    and_from _ _ (ap₂ keeps_rules x y ∙ v) ((bytes_eq-Decides bytes (sheet_bytes (group_of bytes) (content_of bytes))).1 (e ∙ sym (ap₂ sheet_bytes x y)))

pub tested_sheet : (bytes : List ℕ) → is_sheet bytes ≡ true → ASheet bytes
unfolding is_sheet
tested_sheet bytes t =
    let p = and_parts _ _ t in
    (group_of bytes, content_of bytes, p.0, (bytes_eq-Decides bytes (sheet_bytes (group_of bytes) (content_of bytes))).0 p.1)

pub lawful_tested : (bytes : List ℕ) (group : ℕ) (d : Document) → lawful group d ≡ true → bytes ≡ sheet_bytes group (content d) → is_sheet bytes ≡ true
lawful_tested bytes group d ok e = sheet_tested bytes group (content d) (and_parts _ _ ok).1 e

-- with 512 bytes and the right sum only the content can be wrong
pub unread_content : (bytes : List ℕ) → length bytes ≡ 512 → sum_of bytes 508 ≡ quad_at bytes 508
    → unread bytes ≡ cond (is_sheet bytes) None (Some ContentFaulty)
unread_content bytes n s = cond-true _ _ _ (eq-eqb _ _ n) ∙ cond-true _ _ _ (eq-eqb _ _ s)
