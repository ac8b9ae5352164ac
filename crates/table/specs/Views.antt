-- What a table means: its records, and the slots behind them.
use Rattle.std.specs.Prelude.{◌≡◌, Bool, List, length, take, drop, nat_lt}
use Rattle.std.specs.Fn.{Shared, FnReturnsAt}
use Rattle.std.specs.Borrow.{Bor}
use Rattle.table.specs.declared.lent.Table.{Table}

-- the records of a table, in order
abbrev pub used : {T : Type 0} → Table T → List T
used t = take t.count.now t.slots.now

-- the slots behind them, which are free
abbrev pub behind : {T : Type 0} → Table T → List T
behind t = drop t.count.now t.slots.now

-- there is a free slot
abbrev pub has_room : {T : Type 0} → Table T → Bool
has_room t = nat_lt t.count.now (length t.slots.now)

-- the two stand over the same lent slots and count, so that the lender learns what became of them
abbrev pub SameLender : {T : Type 0} → Table T → Table T → Type 0
SameLender t u = (u.slots.ghost_name ≡ t.slots.ghost_name) × (u.count.ghost_name ≡ t.count.ghost_name)

-- each call of a closure, at a reference, answers what p says of the value
abbrev pub Answers : {F X R : Type 0} → Shared F (Bor X × Unit {0}) R → (X → R) → F → Type 0
Answers {X} {R} g p f = (x : X) (r : R) → FnReturnsAt g f x r → r ≡ p x
