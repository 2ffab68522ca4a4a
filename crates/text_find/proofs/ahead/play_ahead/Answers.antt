use Rattle.std.proofs.Common.{◌≡◌, ◌∙◌, ℕ, ◌++◌, ap, arith, false, length, None, Option, refl, Some, subst, sym, take}
use Rattle.std.specs.Option.{is_some}
use Rattle.std.proofs.lemmas.Bool.{false≢true}
use Rattle.std.proofs.lemmas.List.{take_all}
use Rattle.text_find.specs.Lines.{AreBetween}
use Rattle.text_find.proofs.ahead.play_ahead.Goals as goal

none_of : (passing : Option ℕ) → is_some passing ≡ false → passing ≡ None
none_of None is = refl
none_of (Some start) is = absurd (false≢true (sym is))

pub returns-in_ok-catch_up-clause-lags : goal.returns-in_ok-catch_up-clause-lags
returns-in_ok-catch_up-clause-lags g c = λ lags.
    let so_far = c.in_ok-taken.ensures.lags lags in
    record { before = c.widened-steps.ensures _ _ _ so_far.before c.in_ok-catch_up.ensures.others; after = so_far.after }

pub returns-else-is_some-clause-ends : goal.returns-else-is_some-clause-ends
returns-else-is_some-clause-ends g c = λ profile before h are.
    let there = c.in_ok-taken.ensures.ahead profile before h are in
    let bytes = c.args.bytes.now in
    let all = c.in_ok-taken.ensures.all (none_of c.in_ok-taken.passing (sym c.is_some.ensures ∙ c.if-is_some.false)) in
    let screen = g.F.Finder.screens profile in
    subst (λ b. AreBetween c.args.text.now (screen before) (screen b) c.play_pieces.new.ends)
    (ap (λ n. before ++ take n bytes) all ∙ ap (λ b. before ++ b) (take_all (length bytes) bytes (omega arith))) there.between
