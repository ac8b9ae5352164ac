-- When a sheet is placed in a roster.
use Rattle.std.specs.Prelude.{ℕ, Bool, cond, List, Some, None, Option}
use Rattle.mcptt.specs.declared.refusal.Refusal.{Refusal}
use Rattle.mcptt.specs.declared.refusal.Refusal.TheVariants.{RosterFull}
use Rattle.sheet.specs.Contents.{Content}
use Rattle.sheet.specs.Decoded.{group_of}
use Rattle.sheet.specs.Promises.{unread}
use Rattle.roster.specs.Meaning.{no_room}

-- a refusal, or else that the roster is full, if it is
abbrev pub or_full : Option Refusal → Bool → Option Refusal
or_full None full = cond full (Some RosterFull) None
or_full (Some e) full = Some e

-- why bytes are not placed: they are no sheet, or their group has no room
abbrev pub unplaced : ℕ → (ℕ → Option Content) → List ℕ → List ℕ → Option Refusal
unplaced most held carried bytes = or_full (unread bytes) (no_room most held carried (group_of bytes))
