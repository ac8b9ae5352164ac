-- What any 512 bytes say, whether they are a sheet or not.
use Rattle.std.specs.Prelude.{ℕ, zero, suc, ◌/◌, ◌%◌, min, List, [], ◌∷◌, drop, ◌==◌, slice_index}
use Rattle.sheet.specs.declared.document.Member.{Member}
use Rattle.sheet.specs.Octets.{pair_at, quad_at}
use Rattle.sheet.specs.Contents.{Content}

-- the member in the first five bytes
abbrev pub member_of : List ℕ → Member
member_of bytes =
    record {
      user = record { number = quad_at bytes 0 };
      required = (slice_index bytes 4 % 2 == 1);
      may_join = (slice_index bytes 4 / 2 % 2 == 1);
      may_start = (slice_index bytes 4 / 4 % 2 == 1);
    }

-- so many members, five bytes each
abbrev pub members_of : ℕ → List ℕ → List Member
members_of zero bytes = []
members_of (suc n) bytes = member_of bytes ∷ members_of n (drop 5 bytes)

abbrev pub group_of : List ℕ → ℕ
group_of bytes = quad_at bytes 0

-- a count above 64 is read as 64
abbrev pub content_of : List ℕ → Content
content_of bytes =
    record {
      disabled = (slice_index bytes 4 % 2 == 1);
      invite_members = (slice_index bytes 4 / 2 % 2 == 1);
      limit = slice_index bytes 5;
      members = members_of (min (pair_at bytes 6) 64) (drop 8 bytes);
    }
