-- The parts of a sheet, written one after another, make its bytes.
use Rattle.std.proofs.Common.{◌≡◌, ℕ, ◌+◌, ◌-◌, ◌*◌, ◌≤◌, List, ◌++◌, length, take, replicate, ap, append_assoc, arith}
use Rattle.std.proofs.lemmas.List.{take_all}
use Rattle.sheet.specs.declared.document.Member.{Member}
use Rattle.sheet.specs.declared.document.Document.{Document}
use Rattle.sheet.specs.Octets.{quad, sum_of}
use Rattle.sheet.specs.Contents.{content}
use Rattle.sheet.specs.Layout.{head_bytes, members_bytes, sheet_bytes}
use Rattle.sheet.proofs.Sums.{sum_take}

assembled : (head members o1 o2 o3 o4 : List ℕ) (n w : ℕ) → n ≤ 64
    → take 8 o1 ≡ head
    → take (8 + 5 * n) o2 ≡ take 8 o1 ++ members
    → take 508 o3 ≡ take (8 + 5 * n) o2 ++ replicate (508 - (8 + 5 * n)) 0
    → w ≡ sum_of o3 508
    → take 512 o4 ≡ take 508 o3 ++ quad w
    → length o4 ≡ 512
    → o4 ≡ (head ++ (members ++ replicate (500 - 5 * n) 0)) ++ quad (sum_of (head ++ (members ++ replicate (500 - 5 * n) 0)) 508)
assembled head members o1 o2 o3 o4 n w le e1 e2 e3 e4 e5 long =
    let k : 508 - (8 + 5 * n) ≡ 500 - 5 * n = omega arith in
    let z = ap (λ m. replicate {A = ℕ} m 0) k in
    let a = append_assoc head members (replicate (500 - 5 * n) 0) in
    let body : take 508 o3 ≡ head ++ (members ++ replicate (500 - 5 * n) 0) = cc in
    let t = sum_take o3 508 508 (omega arith) in
    let all = take_all 512 o4 (omega arith) in
    cc

-- what `write` leaves in its buffer, from what its parts say
pub written : (g : ℕ) (d : Document) (ms : List Member) (o1 o2 o3 o4 q : List ℕ) (w : ℕ)
    → ms ≡ take d.count d.members → length ms ≡ d.count → d.count ≤ 64
    → take 8 o1 ≡ head_bytes g (content d)
    → take (8 + 5 * length ms) o2 ≡ take 8 o1 ++ members_bytes ms
    → take 508 o3 ≡ take (8 + 5 * d.count) o2 ++ replicate (508 - (8 + 5 * d.count)) 0
    → w ≡ sum_of o3 508 → q ≡ quad w
    → take (508 + length q) o4 ≡ take 508 o3 ++ q
    → length o4 ≡ 512
    → o4 ≡ sheet_bytes g (content d)
unfolding sheet_bytes
written g d ms o1 o2 o3 o4 q w ems n le e1 e2 e3 e4 eq e5 long =
    let m : length (take d.count d.members) ≡ d.count = rw ems at n in
    let k : take 512 o4 ≡ take 508 o3 ++ quad w = rw eq at e5 in
    let e2' = rw ems at e2 in
    let e3' = rw (← m) at e3 in
    assembled (head_bytes g (content d)) (members_bytes (take d.count d.members)) o1 o2 o3 o4 (length (take d.count d.members)) w (omega arith) e1 e2' e3' e4 k long
