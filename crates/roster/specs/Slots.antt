-- What the slots of the table say.
use Rattle.sheet.specs.Contents.{content}
use Rattle.roster.specs.declared.slot.Slot.{Slot}
use Rattle.roster.specs.Pages.{Filed}

-- its group, and what its document says
abbrev pub slot_says : Slot → Filed
slot_says s = record { group = s.group.number; document = content s.document }
