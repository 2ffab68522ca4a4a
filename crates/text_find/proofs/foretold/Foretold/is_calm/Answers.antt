use Rattle.std.proofs.Common.{◌≡◌, ◌∙◌, ◌<◌, [], ap, arith, length, subst, sym}
use Rattle.std.specs.Vec.{vec_len}
use Rattle.std.proofs.lemmas.Bool.{eqb-true}
use Rattle.std.proofs.lemmas.List.{nil_from_length}
use Rattle.standings.specs.Standing.{standing}
use Rattle.text_find.specs.Calm.{NonePass}
use Rattle.text_find.specs.FindLines.{rows_within}
use Rattle.text_find.specs.Foretold.{IsForetold, KeepsIn, taken_by}
use Rattle.text_find.specs.Pieces.{AreQuiet}
use Rattle.text_find.proofs.CalmLemmas.{kept_calm, moved_calm, nowhere_calm}
use Rattle.text_find.proofs.NowhereLemmas.{within_start}
use Rattle.text_find.proofs.QuietLemmas.{one_quiet, still_quiet}
use Rattle.text_find.proofs.foretold.Foretold.is_calm.Goals as goal

pub returns-in-MovesUp-clause-calm : goal.returns-in-MovesUp-clause-calm
returns-in-MovesUp-clause-calm c = λ calm text screen before bytes rows stood letters foretold first.
    let columns = c.in-MovesUp.field-0 in
    subst (λ f. IsForetold text screen before bytes f letters → NonePass text first screen before bytes (taken_by f)) (sym c.in-MovesUp.is)
    (λ told. moved_calm text first screen before bytes columns letters c.args.still.now rows told
    (c.stays_moved.ensures.keeps calm text columns (subst (λ r. 0 < length r) (sym rows) told.room) (stood ∙ ap (standing text) (sym rows)))) foretold

pub returns-in-MovesUp-clause-quiet : goal.returns-in-MovesUp-clause-quiet
returns-in-MovesUp-clause-quiet c = λ told text screen before bytes keeps.
    subst (λ f. AreQuiet text screen before bytes (taken_by f)) (sym c.in-MovesUp.is) (one_quiet text screen before bytes)

pub returns-in-MovesWithin-clause-calm : goal.returns-in-MovesWithin-clause-calm
returns-in-MovesWithin-clause-calm c = λ calm text screen before bytes rows stood letters foretold first.
    let places = c.args.still.now.places in
    let count : vec_len places ≡ 0 = eqb-true (vec_len places) 0 (sym c.is_empty.ensures ∙ calm) in
    let none : standing text (screen before) ≡ [] = sym stood ∙ nil_from_length places.items (omega (arith, count)) in
    subst (λ f. IsForetold text screen before bytes f letters → NonePass text first screen before bytes (taken_by f)) (sym c.in-MovesWithin.is)
    (λ told. nowhere_calm text first screen before bytes c.in-MovesWithin.field-0.taken (λ n lt.
    ap (standing text) (told.keeps n lt ∙ within_start screen before bytes) ∙ none)) foretold

pub returns-in-MovesWithin-clause-quiet : goal.returns-in-MovesWithin-clause-quiet
returns-in-MovesWithin-clause-quiet c = λ told text screen before bytes keeps.
    subst (λ f. KeepsIn text screen before bytes f → AreQuiet text screen before bytes (taken_by f)) (sym c.in-MovesWithin.is)
    (still_quiet text screen before bytes c.in-MovesWithin.field-0.taken) keeps

pub returns-in-Writes-clause-calm : goal.returns-in-Writes-clause-calm
returns-in-Writes-clause-calm c = λ calm text screen before bytes rows stood letters foretold first.
    subst (λ f. IsForetold text screen before bytes f letters → NonePass text first screen before bytes (taken_by f)) (sym c.in-Writes.is)
    (λ told. kept_calm text first screen before bytes c.in-Writes.field-0.taken told.keeps) foretold

pub returns-in-Types-clause-calm : goal.returns-in-Types-clause-calm
returns-in-Types-clause-calm c = λ calm text screen before bytes rows stood letters foretold first.
    let places = c.args.still.now.places in
    let count : vec_len places ≡ 0 = eqb-true (vec_len places) 0 (sym c.is_empty-in-Types.ensures ∙ calm) in
    let none : standing text (screen before) ≡ [] = sym stood ∙ nil_from_length places.items (omega (arith, count)) in
    subst (λ f. IsForetold text screen before bytes f letters → NonePass text first screen before bytes (taken_by f)) (sym c.in-Types.is)
    (λ told. nowhere_calm text first screen before bytes 1 (λ n lt.
    let start : n ≡ 0 = omega (arith, lt) in
    ap (λ k. standing text (rows_within screen before bytes k)) start ∙ ap (standing text) (within_start screen before bytes) ∙ none)) foretold

pub returns-in-Types-clause-quiet : goal.returns-in-Types-clause-quiet
returns-in-Types-clause-quiet c = λ told text screen before bytes keeps.
    subst (λ f. AreQuiet text screen before bytes (taken_by f)) (sym c.in-Types.is) (one_quiet text screen before bytes)
