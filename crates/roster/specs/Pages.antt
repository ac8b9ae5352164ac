-- Documents in pages, one page to a group: what a list of pages says.
use Rattle.std.specs.Prelude.{ℕ, zero, suc, cond, List, [], ◌∷◌, ◌++◌, map, take, Some, None, Option, ◌==◌}
use Rattle.roster.specs.Meaning.{among}
use Rattle.table.specs.declared.owned.Slots.{Slots}
use Rattle.sheet.specs.declared.group_document.GroupDocument.{GroupDocument}
use Rattle.sheet.specs.Contents.{Content, content}

-- what one page says: a group, and its document
pub record Filed : Type 0 where
  pub group : ℕ
  pub document : Content

-- what the page of a document says
abbrev pub filed_as : GroupDocument → Filed
filed_as d = record { group = d.group.number; document = content d.document }

-- what the pages in use say, in order
abbrev pub filed : {P : Type 0} {N : ℕ} → (P → Filed) → Slots P N → List Filed
filed says pages = map says (take pages.count pages.places)

-- the groups of the pages, in order
abbrev pub groups_in : List Filed → List ℕ
groups_in pages = map (λ (p : Filed). p.group) pages

-- the document of a group: the first page of the group has it
abbrev pub held_in : List Filed → ℕ → Option Content
held_in [] group = None
held_in (p ∷ ps) group = cond (p.group == group) (Some p.document) (held_in ps group)

-- the place of the first page of a group, or the place behind the last page
abbrev pub place_of : ℕ → List Filed → ℕ
place_of group [] = zero
place_of group (p ∷ ps) = cond (p.group == group) zero (suc (place_of group ps))

-- the groups of the pages once this one is among them: a new one stands at the end
abbrev pub with_group : List ℕ → ℕ → List ℕ
with_group carried group = cond (among group carried) carried (carried ++ (group ∷ []))
