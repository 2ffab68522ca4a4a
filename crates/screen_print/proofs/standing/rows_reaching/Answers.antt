use Rattle.std.proofs.Common.{◌≡◌, ◌+◌, ◌-◌, ◌<◌, ◌≤◌, ◌++◌, ◌∙◌, ap, sym, subst, arith, drop, length}
use Rattle.std.proofs.lemmas.List.{length-append}
use Rattle.vt_screen.specs.Cells.{row_at}
use Rattle.screen_print.specs.FindLines.{row_texts, rows_reaching}
use Rattle.screen_rows.specs.RowText.{row_text}
use Rattle.screen_print.proofs.FindLemmas.{reaching_all, reaching_end, reaching_more}
use Rattle.screen_print.proofs.standing.rows_reaching.Goals as goal

pub returns-then-least-len : goal.returns-then-least-len
returns-then-least-len c =
    let still = c.args.still.now in
    let at = c.loop-at.at in
    let row = c.as_slice.result.now in
    let is : row ≡ row_text still.wide (row_at still.rows at) = c.as_slice.ensures.value ∙ c.row_text-row.ensures.text in
    let whole = rows_reaching c.args.least (drop (c.args.line - 1) (row_texts still)) in
    let enough : c.loop-at.least ≤ length row = omega (arith, c.if-least-len.true, c.len.ensures.value, ap length c.as_slice.ensures.value) in
    c.push_chars.ensures
    ∙ reaching_end still at c.loop-at.least c.loop-at.text.items row whole c.sound.ensures.whole (omega arith) (omega arith) is enough c.loop-at.invariant.joined

pub loop-at-preserved : goal.loop-at-preserved
loop-at-preserved c =
    let still = c.args.still.now in
    let at = c.loop-at.at in
    let n = c.loop-at.least in
    let row = c.as_slice.result.now in
    let is : row ≡ row_text still.wide (row_at still.rows at) = c.as_slice.ensures.value ∙ c.row_text-row.ensures.text in
    let whole = rows_reaching c.args.least (drop (c.args.line - 1) (row_texts still)) in
    let behind = drop (at + 1 - 1) (row_texts still) in
    let long : c.len-in-loop-at.result ≡ length row = c.len-in-loop-at.ensures.value ∙ ap length (sym c.as_slice.ensures.value) in
    let few : length row ≤ 132 = subst (λ l. length l ≤ 132) (sym c.as_slice.ensures.value) c.row_text-row.ensures.few in
    let too_few : length row < n = omega (arith, c.if-least-len.false, c.len.ensures.value, ap length c.as_slice.ensures.value) in
    record {
      joined = ap (λ t. t ++ rows_reaching (n - c.len-in-loop-at.result) behind) c.push_chars.ensures
          ∙ ap (λ m. (c.loop-at.text.items ++ row) ++ rows_reaching (n - m) behind) long
          ∙ reaching_more still at n c.loop-at.text.items row whole c.sound.ensures.whole (omega arith) (omega arith) is too_few c.loop-at.invariant.joined;
      room = omega (arith, ap length c.push_chars.ensures, length-append c.loop-at.text.items row, few, c.loop-at.invariant.room);
    }

pub returns : goal.returns
returns c =
    let still = c.args.still.now in
    let whole = rows_reaching c.args.least (drop (c.args.line - 1) (row_texts still)) in
    reaching_all still c.loop-at.at c.loop-at.least c.loop-at.text.items whole c.sound.ensures.whole (omega arith) c.loop-at.invariant.joined
