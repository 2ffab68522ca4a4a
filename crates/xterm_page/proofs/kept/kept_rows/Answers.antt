use Rattle.std.proofs.Common.{◌≡◌, ◌+◌, ◌-◌, ◌<◌, ◌≤◌, [], ◌∷◌, ◌++◌, length, take, ap, sym, ◌∙◌, arith, inl, inr}
use Rattle.std.proofs.lemmas.Bool.{cases_eq}
use Rattle.std.proofs.lemmas.List.{take_all, take_more}
use Rattle.sheet.specs.Grid.{row_at}
use Rattle.xterm_print.proofs.KeptLemmas.{row_read}
use Rattle.xterm_page.proofs.kept.kept_rows.Goals as goal

pub loop-line-init : goal.loop-line-init
loop-line-init c = record { told = c.in_ok-rows.ensures.items; wide = λ k low high. absurd (omega (arith, low, high)) }

pub loop-line-preserved : goal.loop-line-preserved
loop-line-preserved c =
    let line = c.loop-line.line in
    let rows = c.args.screen.now.picture.rows in
    let columns = c.args.screen.now.picture.columns in
    let row = c.in_ok-of.field-0 in
    let low : 1 ≤ line = omega arith in
    let within : line - 1 < length rows = omega (arith, c.screens_are_sound.ensures.rows, c.lines-line-end.ensures.value, c.loop-line-test.true) in
    let next : line - 1 + 1 ≡ line + 1 - 1 = omega arith in
    record {
      told = c.in_ok-push.ensures.items ∙ ap (λ l. l ++ row ∷ []) c.loop-line.invariant.told
          ∙ ap (λ r. take (line - 1) rows ++ r ∷ []) (c.in_ok-of.ensures ∙ c.row.ensures.value ∙ row_read rows line [] low (omega arith))
          ∙ sym (take_more rows (line - 1) [] within) ∙ ap (λ m. take m rows) next;
      wide = λ k here below. elim (cases_eq k line) [
        | inl e ↦ ap (λ m. length (row_at rows m)) e ∙ ap length (sym c.row.ensures.value) ∙ c.row.ensures.columns
        | inr ne ↦ c.loop-line.invariant.wide k here (omega arith)
      ];
    }

pub returns : goal.returns
returns c =
    let rows = c.args.screen.now.picture.rows in
    let past : length rows ≤ c.loop-line.line - 1 = omega (arith, c.screens_are_sound.ensures.rows, c.lines-line-end.ensures.value, c.loop-line-test.false) in
    let all = c.loop-line.invariant.told ∙ take_all (c.loop-line.line - 1) rows past in
    record {
      lines = ap length all ∙ c.screens_are_sound.ensures.rows;
      rows = all;
      columns = λ line low high. ap (λ l. length (row_at l line)) all
          ∙ c.loop-line.invariant.wide line low (omega (arith, high, c.lines-line-end.ensures.value, c.loop-line-test.false));
    }
