use Rattle.std.proofs.Common.{replicate, refl}
use Rattle.roster.proofs.Written.{written_says}
use Rattle.roster.proofs.kept_sheet.KeptSheetPage.of.Goals as goal

pub returns : goal.returns
returns c = written_says c.args.document.now (replicate 512 0) c.write.new.out c.write.result c.write.ensures refl
