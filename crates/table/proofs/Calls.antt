-- What a call of a closure answers.
use Rattle.std.proofs.Common.{◌≡◌, refl}
use Rattle.std.specs.Borrow.{Bor}
use Rattle.std.specs.Fn.{Shared}
use Rattle.table.specs.Views.{Answers}

-- a closure that answers p did so in the call at hand
pub answer_at : {F X R : Type 0} {g : Shared F (Bor X × Unit {0}) R} {p : X → R} {f : F} {shown : Bor X} {r : R} → Answers g p f → g.post f (shown, tt) r → r ≡ p shown.now
answer_at a met = a _ _ (record { shown = _; shows = refl; says = record { met = met } })
