use Rattle.std.proofs.Common.{◌≡◌, ◌+◌, ◌-◌, ◌∙◌, [], ap, arith, cond, drop, length, nat_eq, sym, take}
use Rattle.std.specs.List.{starts_with}
use Rattle.std.proofs.lemmas.List.{length-drop, take_rest}
use Rattle.screen_print.specs.FindLines.{begins, ends_line, line_text_from, row_texts}
use Rattle.screen_rows.specs.RowText.{row_text, characters}
use Rattle.screen_print.proofs.RunLemmas.{goes, nothing_left, row_told, stops}
use Rattle.screen_print.proofs.standing.runs_on.Goals as goal

pub returns-then-not-agrees : goal.returns-then-not-agrees
returns-then-not-agrees c =
    let still = c.args.still.now in
    let at = c.loop-at.at in
    let from = c.loop-at.from in
    let rest = c.loop-at.rest.now in
    let cells = c.cells_to_margin-cells.result.now in
    let is = c.cells_to_margin-cells.ensures.text ∙ ap (λ wide. row_text wide c.row.result.now) c.is_wide.ensures ∙ ap (row_text still.wide) c.row.ensures.value in
    let found = begins c.args.text.now (line_text_from (drop (c.args.line - 1) (row_texts still))) c.args.column in
    let told = row_told still at from rest cells found c.sound.ensures.whole (omega arith) (omega arith) c.loop-at.invariant.fits is c.loop-at.invariant.told in
    let behind = cond (ends_line (characters cells)) [] (line_text_from (drop at (row_texts still))) in
    sym (c.agrees.ensures.no c.if-not-agrees.true behind) ∙ told

pub returns-then-rest-part : goal.returns-then-rest-part
returns-then-rest-part c =
    let still = c.args.still.now in
    let at = c.loop-at.at in
    let from = c.loop-at.from in
    let rest = c.loop-at.rest.now in
    let cells = c.cells_to_margin-cells.result.now in
    let is = c.cells_to_margin-cells.ensures.text ∙ ap (λ wide. row_text wide c.row.result.now) c.is_wide.ensures ∙ ap (row_text still.wide) c.row.ensures.value in
    let found = begins c.args.text.now (line_text_from (drop (c.args.line - 1) (row_texts still))) c.args.column in
    let told = row_told still at from rest cells found c.sound.ensures.whole (omega arith) (omega arith) c.loop-at.invariant.fits is c.loop-at.invariant.told in
    let behind = cond (ends_line (characters cells)) [] (line_text_from (drop at (row_texts still))) in
    sym (c.agrees.ensures.yes c.if-not-agrees.false c.if-rest-part.true behind) ∙ told

pub returns-then-ends_line : goal.returns-then-ends_line
returns-then-ends_line c =
    let still = c.args.still.now in
    let at = c.loop-at.at in
    let from = c.loop-at.from in
    let rest = c.loop-at.rest.now in
    let cells = c.cells_to_margin-cells.result.now in
    let is = c.cells_to_margin-cells.ensures.text ∙ ap (λ wide. row_text wide c.row.result.now) c.is_wide.ensures ∙ ap (row_text still.wide) c.row.ensures.value in
    let found = begins c.args.text.now (line_text_from (drop (c.args.line - 1) (row_texts still))) c.args.column in
    let told = row_told still at from rest cells found c.sound.ensures.whole (omega arith) (omega arith) c.loop-at.invariant.fits is c.loop-at.invariant.told in
    let part = take (length cells - from) (drop from cells) in
    let more = line_text_from (drop at (row_texts still)) in
    sym (stops part rest (ends_line (characters cells)) more (sym c.ends_line.ensures ∙ c.if-ends_line.true) c.if-rest-part.false) ∙ told

pub loop-at-preserved : goal.loop-at-preserved
loop-at-preserved c =
    let still = c.args.still.now in
    let at = c.loop-at.at in
    let from = c.loop-at.from in
    let rest = c.loop-at.rest.now in
    let cells = c.cells_to_margin-cells.result.now in
    let is = c.cells_to_margin-cells.ensures.text ∙ ap (λ wide. row_text wide c.row.result.now) c.is_wide.ensures ∙ ap (row_text still.wide) c.row.ensures.value in
    let found = begins c.args.text.now (line_text_from (drop (c.args.line - 1) (row_texts still))) c.args.column in
    let told = row_told still at from rest cells found c.sound.ensures.whole (omega arith) (omega arith) c.loop-at.invariant.fits is c.loop-at.invariant.told in
    let part = take (length cells - from) (drop from cells) in
    let more = line_text_from (drop at (row_texts still)) in
    let next : at + 1 - 1 ≡ at = omega arith in
    let left = take_rest rest (length part) in
    record {
      told = ap (starts_with nat_eq (line_text_from (drop (at + 1 - 1) (row_texts still)))) left
          ∙ ap (λ n. starts_with nat_eq (line_text_from (drop n (row_texts still))) (drop (length part) rest)) next
          ∙ sym (goes part rest (ends_line (characters cells)) more (sym c.ends_line.ensures ∙ c.if-ends_line.false)
          (c.agrees.ensures.front c.if-not-agrees.false (omega (arith, c.if-rest-part.false))))
          ∙ told;
      fits = omega arith;
      some = λ _. omega (arith, ap length left, length-drop (length part) rest, c.if-rest-part.false);
    }

pub returns : goal.returns
returns c =
    sym (nothing_left c.args.still.now c.loop-at.at c.loop-at.from c.loop-at.rest.now c.sound.ensures.whole (omega arith) (c.loop-at.invariant.some (omega arith)))
    ∙ c.loop-at.invariant.told
