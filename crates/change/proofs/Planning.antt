-- What the plan of a CHANGE comes to.
use Rattle.std.proofs.Common.{◌≡◌, ℕ, ◌+◌, ◌*◌, ◌≤◌, true, false, List, length, nat_lt, None, ap, ◌∙◌, arith}
use Rattle.std.proofs.lemmas.Bool.Decides.{nat_tests}
use Rattle.mcptt.specs.declared.identity.GroupId.{GroupId}
use Rattle.rows.specs.declared.entry.Entry.{Entry}
use Rattle.rows.specs.Holdings.{row_of, held_elsewhere}
use Rattle.rows.specs.Standings.{Standing}
use Rattle.change.specs.declared.plan.Move.{Move}
use Rattle.change.specs.Keeping.{kept_of, may_want}
use Rattle.change.specs.Moves.{changed_row}
use Rattle.change.specs.Changes.{Moment, Change, first_refusal, change_refusal, kept_groups, change_moves, last_serial}

module _ (m : Moment) (s : Standing) (c : Change) where
  -- the groups chosen are those of the definitions; r is the radio as it was checked
  pub as_kept : (r limit : ℕ) (others chosen : List GroupId) → r ≡ c.radio → limit ≡ s.limit → others ≡ held_elsewhere m.time r s.rows
      → chosen ≡ kept_of m.before others limit c.wanted → chosen ≡ kept_groups m s c
  as_kept r limit others chosen e l o k =
      k
      ∙ ap (λ z. kept_of m.before z limit c.wanted) (o ∙ ap (λ z. held_elsewhere m.time z s.rows) e)
      ∙ ap (λ z. kept_of m.before (held_elsewhere m.time c.radio s.rows) z c.wanted) l

  -- and so are the moves planned
  pub as_planned : (r t u v : ℕ) (row : List Entry) (chosen : List GroupId) (moves : List Move) → r ≡ c.radio → chosen ≡ kept_groups m s c
      → t ≡ m.time → u ≡ m.time + c.interval → v ≡ m.time + 2 * m.timer → row ≡ row_of s.rows r → moves ≡ changed_row chosen t u v row → moves ≡ change_moves m s c
  as_planned r t u v row chosen moves e k t-is u-is v-is w p =
      p
      ∙ (λ i. changed_row (k i) (t-is i) (u-is i) (v-is i) ((w ∙ ap (row_of s.rows) e) i))

  -- with what was tested, nothing is refused
  pub refused_none : (moves : List Move) → first_refusal c.places c.radio s.enrolled None ≡ None → (c.interval ≡ 0 → ⊥) → true ≡ may_want c.wanted
      → false ≡ nat_lt last_serial s.next → moves ≡ change_moves m s c → length moves ≤ 24 → change_refusal m s c ≡ None
  refused_none moves first some-time fits serials p few = grind (arith, nat_tests, ap length p)
