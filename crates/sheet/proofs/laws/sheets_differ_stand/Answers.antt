use Rattle.sheet.proofs.Back.{told_apart}
use Rattle.sheet.proofs.laws.sheets_differ_stand.Goals as goal

pub returns : goal.returns
returns c = told_apart
