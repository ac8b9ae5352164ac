use Rattle.std.proofs.Common.{◌-◌}
use Rattle.fiyantuq.proofs.console.Console.differences.Given as goal

abbrev pub decreases-loop-difference : goal.decreases-loop-difference
decreases-loop-difference l = 4294967296 - l.after
