-- What places with a count mean.
use Rattle.std.specs.Prelude.{ℕ, List, take}
use Rattle.table.specs.declared.owned.Slots.{Slots}

-- the records, in order
abbrev pub items : {T : Type 0} {N : ℕ} → Slots T N → List T
items s = take s.count s.places
