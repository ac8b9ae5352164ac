-- What the sheets of the store say.
use Rattle.sheet.specs.Decoded.{group_of, content_of}
use Rattle.roster.specs.declared.kept_sheet.KeptSheet.{KeptSheet}
use Rattle.roster.specs.Pages.{Filed}

-- the group and the document that its bytes say
abbrev pub sheet_says : KeptSheet → Filed
sheet_says s = record { group = group_of s.bytes; document = content_of s.bytes }
