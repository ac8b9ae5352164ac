use Rattle.std.proofs.Common.{refl}
use Rattle.sheet.specs.Octets.{sum_of}
use Rattle.sheet.specs.Layout.{sheet_bytes}
use Rattle.sheet.proofs.laws.smallest_sum.Goals as goal

pub returns : goal.returns
unfolding sum_of sheet_bytes
returns c = record { sum = refl; ten = refl }
