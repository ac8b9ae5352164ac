-- What a document says.
use Rattle.std.specs.Prelude.{ℕ, Bool, false, List, take}
use Rattle.sheet.specs.declared.document.Member.{Member}
use Rattle.sheet.specs.declared.document.Document.{Document}

-- two marks, the participant limit, and the members in order
pub record Content : Type 0 where
  pub disabled : Bool
  pub invite_members : Bool
  pub limit : ℕ
  pub members : List Member

-- a document's members are those below its count: the other places say nothing
abbrev pub content : Document → Content
content d = record { disabled = d.disabled; invite_members = d.invite_members; limit = d.limit; members = take d.count d.members }

-- a place where no member stands
abbrev pub nobody : Member
nobody = record { user = record { number = 0 }; required = false; may_join = false; may_start = false }
