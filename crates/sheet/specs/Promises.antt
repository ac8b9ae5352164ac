-- What the writer and the reader of sheets promise.
use Rattle.std.specs.Prelude.{◌≡◌, ℕ, Bool, true, false, cond, ◌&&◌, ◌⊎◌, List, [], length, Some, None, Ok, Err, Option, Result, ◌==◌, ◌≢◌}
use Rattle.std.specs.Str.{bytes_eq}
use Rattle.mcptt.specs.declared.refusal.Refusal.{Refusal}
use Rattle.mcptt.specs.declared.refusal.Refusal.TheVariants.{NotSheetSize, WrongSum, ContentFaulty}
use Rattle.sheet.specs.declared.document.Document.{Document}
use Rattle.sheet.specs.declared.group_document.GroupDocument.{GroupDocument}
use Rattle.sheet.specs.Contents.{Content, content}
use Rattle.sheet.specs.Rules.{keeps_rules, lawful}
use Rattle.sheet.specs.Octets.{quad_at, sum_of}
use Rattle.sheet.specs.Layout.{sheet_bytes}
use Rattle.sheet.specs.Decoded.{group_of, content_of}

-- why a document is not written into so many bytes: first their number, then the rules
abbrev pub unwritten : ℕ → Document → ℕ → Option Refusal
unwritten group d room = cond (room == 512) (cond (lawful group d) None (Some ContentFaulty)) (Some NotSheetSize)

-- what `write` does to a buffer: all of the sheet where nothing is wrong, else nothing
abbrev pub Writes : ℕ → Document → List ℕ → List ℕ → Result (Unit {0}) Refusal → Type 0
Writes group d before after (Ok u) = (unwritten group d (length before) ≡ None) × (after ≡ sheet_bytes group (content d))
Writes group d before after (Err e) = (unwritten group d (length before) ≡ Some e) × (after ≡ before)

-- the bytes are the sheet of some group and content that keep the rules
abbrev pub ASheet : List ℕ → Type 0
ASheet bytes = (g : ℕ) × (c : Content) × (keeps_rules g c ≡ true) × (bytes ≡ sheet_bytes g c)

-- why bytes are refused: their number, else their sum, else that they are no sheet
abbrev pub Unread : List ℕ → Refusal → Type 0
Unread bytes e =
    ((length bytes ≢ 512) × (e ≡ NotSheetSize))
    ⊎ (((length bytes ≡ 512) × (sum_of bytes 508 ≢ quad_at bytes 508) × (e ≡ WrongSum))
    ⊎ ((length bytes ≡ 512) × (sum_of bytes 508 ≡ quad_at bytes 508) × (ASheet bytes → ⊥) × (e ≡ ContentFaulty)))

-- what `read` answers: the group and the document whose sheet the bytes are, or why there are none
abbrev pub Reads : List ℕ → Result GroupDocument Refusal → Type 0
Reads bytes (Ok d) = (lawful d.group.number d.document ≡ true) × (bytes ≡ sheet_bytes d.group.number (content d.document))
Reads bytes (Err e) = Unread bytes e

-- the answer is this group and this content
abbrev pub Gives : ℕ → Content → Result GroupDocument Refusal → Type 0
Gives g c (Ok d) = (d.group.number ≡ g) × (content d.document ≡ c)
Gives g c (Err e) = ⊥

-- every sheet is read
abbrev pub ReadsAll : List ℕ → Result GroupDocument Refusal → Type 0
ReadsAll bytes r = (g : ℕ) (c : Content) → keeps_rules g c ≡ true → bytes ≡ sheet_bytes g c → Gives g c r

-- the same as a test: the bytes are the sheet of what they say, and that keeps the rules
unfoldable pub is_sheet : List ℕ → Bool
is_sheet bytes = keeps_rules (group_of bytes) (content_of bytes) && bytes_eq bytes (sheet_bytes (group_of bytes) (content_of bytes))

-- why bytes are refused, if they are, as a function of the bytes
abbrev pub unread : List ℕ → Option Refusal
unread bytes =
    cond (length bytes == 512)
    (cond (sum_of bytes 508 == quad_at bytes 508) (cond (is_sheet bytes) None (Some ContentFaulty)) (Some WrongSum))
    (Some NotSheetSize)

-- the answer as a function of the bytes: nothing is wrong, and it is what they say; or what is wrong
abbrev pub AnswersTo : List ℕ → Result GroupDocument Refusal → Type 0
AnswersTo bytes (Ok d) = (unread bytes ≡ None) × (d.group.number ≡ group_of bytes) × (content d.document ≡ content_of bytes)
AnswersTo bytes (Err e) = unread bytes ≡ Some e

-- what comes of writing a document and reading it back
abbrev pub ComesBack : ℕ → Document → Result GroupDocument Refusal → Type 0
ComesBack group d (Ok e) = (lawful group d ≡ true) × (e.group.number ≡ group) × (content e.document ≡ content d)
ComesBack group d (Err e) = (lawful group d ≡ false) × (e ≡ ContentFaulty)

-- why bytes are not read and written into so many: the reader's refusal, then the number of these
abbrev pub unrewritten : List ℕ → ℕ → Option Refusal
unrewritten bytes room =
    elim (unread bytes) [
      | None ↦ cond (room == 512) None (Some NotSheetSize)
      | Some e ↦ Some e
    ]

-- what comes of reading bytes and writing what was read into a buffer
abbrev pub Rewrites : List ℕ → List ℕ → List ℕ → Result (Unit {0}) Refusal → Type 0
Rewrites bytes before after (Ok u) = (unrewritten bytes (length before) ≡ None) × (after ≡ bytes)
Rewrites bytes before after (Err e) = (unrewritten bytes (length before) ≡ Some e) × (after ≡ before)

-- sheets within the rules are equal only where group and content are
abbrev pub SheetsDiffer : Type 0
SheetsDiffer = (g h : ℕ) (c d : Content) → keeps_rules g c ≡ true → keeps_rules h d ≡ true → sheet_bytes g c ≡ sheet_bytes h d → (g ≡ h) × (c ≡ d)

-- the smallest content: limit 1, no marks and no members
abbrev pub smallest : Content
smallest = record { disabled = false; invite_members = false; limit = 1; members = [] }
