-- Days since the beginning of 1970.
use Rattle.std.proofs.Common.{◌≡◌, pos, refl}
use Rattle.jiff.specs.Types.{Date}
use Rattle.jiff.specs.Words.{IsYmd, epoch_day}
use Rattle.jiff.proofs.OnLiterals.{jiff_on_literals}

-- it is the first of them
pub first_day : (date : Date) → IsYmd (pos 1970) (pos 1) (pos 1) date → epoch_day date ≡ pos 0
unfolding jiff_on_literals
first_day date is =
    let month : date.month ≡ 1 = cc (is.1, is.2) in
    let day : date.day ≡ 1 = cc (is.1, is.2) in
    rw (is.0, month, day) refl
