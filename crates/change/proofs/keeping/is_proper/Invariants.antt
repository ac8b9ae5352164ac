use Rattle.std.proofs.Common.{◌≡◌, length}
use Rattle.change.specs.Keeping.{proper}
use Rattle.change.proofs.keeping.is_proper.Given as goal

abbrev pub invariant-loop-first : goal.invariant-loop-first
invariant-loop-first l = proper l.rest ≡ proper l.wanted

abbrev pub decreases-loop-first : goal.decreases-loop-first
decreases-loop-first l = length l.rest
