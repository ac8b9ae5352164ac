-- The 512 bytes of a sheet.
use Rattle.std.specs.Prelude.{ℕ, ◌+◌, ◌-◌, ◌*◌, cond, List, [], ◌∷◌, ◌++◌, length, replicate}
use Rattle.sheet.specs.declared.document.Member.{Member}
use Rattle.sheet.specs.Octets.{pair, quad, sum_of}
use Rattle.sheet.specs.Contents.{Content}

-- a member: the user in four bytes, then bit 0 required, bit 1 may join, bit 2 may start
abbrev pub member_marks : Member → ℕ
member_marks m = cond m.required 1 0 + cond m.may_join 2 0 + cond m.may_start 4 0

abbrev pub member_bytes : Member → List ℕ
member_bytes m = quad m.user.number ++ (member_marks m ∷ [])

abbrev pub members_bytes : List Member → List ℕ
members_bytes [] = []
members_bytes (m ∷ ms) = member_bytes m ++ members_bytes ms

-- byte 4: bit 0 disabled, bit 1 invite-members
abbrev pub group_marks : Content → ℕ
group_marks c = cond c.disabled 1 0 + cond c.invite_members 2 0

-- bytes 0 to 7: the group, the marks, the participant limit, the number of members
abbrev pub head_bytes : ℕ → Content → List ℕ
head_bytes group c = quad group ++ (group_marks c ∷ c.limit ∷ pair (length c.members))

-- bytes 0 to 507: the head, the members, zeros
abbrev pub body_bytes : ℕ → Content → List ℕ
body_bytes group c = head_bytes group c ++ (members_bytes c.members ++ replicate (500 - 5 * length c.members) 0)

-- all 512 bytes: the body, then its sum
unfoldable pub sheet_bytes : ℕ → Content → List ℕ
sheet_bytes group c = body_bytes group c ++ quad (sum_of (body_bytes group c) 508)
