use Rattle.std.proofs.Common.{◌∙◌, arith, sym}
use Rattle.std.proofs.lemmas.Bool.{false≢true}
use Rattle.std.proofs.lemmas.List.{get_or_default}
use Rattle.screen_print.proofs.StartLemmas.{shown_fits}
use Rattle.screen_print.proofs.start.wanted_at.Goals as goal

pub returns-then-character-le126 : goal.returns-then-character-le126
returns-then-character-le126 c = λ cell fails.
    let within = c.if-place-text.true in (
      within,
      λ shown. false≢true (sym fails ∙ shown_fits cell c.index-text-place.result (omega arith) (omega arith)
          (shown ∙ get_or_default c.args.text.now c.args.place 0 c.index-text-place.result within ∙ sym c.index-text-place.is)),
    )
