use Rattle.std.proofs.Common.{◌∙◌, List, ap, sym}
use Rattle.standings.specs.Standing.{standing}
use Rattle.standings.specs.declared.place.Place.{Place}
use Rattle.std.proofs.lemmas.Bool.{not-true}
use Rattle.text_find.specs.Lines.{passed_lines}
use Rattle.text_find.proofs.LineLemmas.{none_of_all, none_passed, nothing_passed, places_kept}
use Rattle.text_find.proofs.lines.none_passes.Goals as goal

pub returns-then-is_none : goal.returns-then-is_none
returns-then-is_none c = λ _ text here there many stood lagged is is' lags index due len last lasts.
    let first = c.args.first.now in
    let one = c.args.one.now in
    let other = c.args.other.now in
    ap (passed_lines index due len first.rows.items first.places.items last lasts one.rows.items one.places.items other.rows.items) (places_kept text there other is')
    ∙ nothing_passed text index due len first.rows.items first.places.items last lasts one.rows.items one.places.items other.rows.items
    (c.is_none.ensures c.if-is_none.true one.rows.items other.rows.items lags) (places_kept text here one is)

pub returns-then-untouched : goal.returns-then-untouched
returns-then-untouched c = λ _ text here there many stood lagged is is' lags index due len last lasts.
    let first = c.args.first.now in
    let one = c.args.one.now in
    let other = c.args.other.now in
    let lines = λ (firsts places others : List Place). passed_lines index due len first.rows.items firsts last lasts one.rows.items places other.rows.items others in
    ap (λ ps. lines ps one.places.items other.places.items) stood
    ∙ ap (λ ps. lines (standing text first.rows.items) ps other.places.items) (places_kept text here one is)
    ∙ ap (lines (standing text first.rows.items) (standing text one.rows.items)) (places_kept text there other is')
    ∙ none_of_all index due len first.rows.items (standing text first.rows.items) last lasts one.rows.items (standing text one.rows.items) other.rows.items (standing text other.rows.items)
    (c.is_untouched-untouched.ensures c.if-untouched.true text first.rows.items one.rows.items other.rows.items many lagged lags)

pub returns-then-kept : goal.returns-then-kept
returns-then-kept c = λ h text here there many stood lagged is is' lags index due len last lasts.
    let first = c.args.first.now in
    let one = c.args.one.now in
    let other = c.args.other.now in
    let pairs = c.in-Ok.ensures text many (is.places ∙ ap (standing text) (sym is.rows)) (is'.places ∙ ap (standing text) (sym is'.rows)) lags in
    none_passed index due len first.rows.items first.places.items last lasts one.rows.items one.places.items other.rows.items other.places.items (c.keeps_all-kept.ensures c.if-kept.true pairs)

pub returns : goal.returns
returns c = λ h text here there many stood lagged is is' lags index due len last lasts.
    let first = c.args.first.now in
    let one = c.args.one.now in
    let other = c.args.other.now in
    let pairs = c.in-Ok.ensures text many (is.places ∙ ap (standing text) (sym is.rows)) (is'.places ∙ ap (standing text) (sym is'.rows)) lags in
    none_of_all index due len first.rows.items first.places.items last lasts one.rows.items one.places.items other.rows.items other.places.items
    ((c.may_pass.ensures pairs).none (not-true c.may_pass.result h))
