use Rattle.std.proofs.Common.{◌≡◌, ◌≤◌, ◌∙◌, ℕ, Bool, ap, arith, cond, length, refl, subst, sym}
use Rattle.std.specs.List.{flat_map}
use Rattle.std.proofs.lemmas.List.{take_all}
use Rattle.std.proofs.lemmas.List.Elements.{All-get_or}
use Rattle.sheet.specs.Grid.{row_at}
use Rattle.xterm_page.specs.Parts.{InSheet, IsNumbered, IsWithin, holds, is_renewed, no_line, renewed_lines, told_lines}
use Rattle.xterm_page.proofs.CaughtLemmas.{block_caught, line_caught, so_far}
use Rattle.xterm_page.proofs.KeptLemmas.{rows_by_line, told_or_stays}
use Rattle.xterm_page.proofs.RenewedLemmas.{holds_filtered, renewed_named}
use Rattle.xterm_page.proofs.caught.catch_up.Goals as goal
use Rattle.xterm_page.proofs.caught.catch_up.Goals.{in-Line, in-Moved}

pub copy_line-requires : goal.copy_line-requires
copy_line-requires c =
    let lines = c.args.screen.now.picture.lines in
    let within = subst (IsWithin lines) c.in-Line.is (All-get_or (IsWithin lines) c.args.changed.now c.loop-at.at no_line c.loop-at-test.true c.requires.lines) in
    let numbered = subst (IsNumbered c.args.screen.now.picture.rows) c.in-Line.is
    (All-get_or (IsNumbered c.args.screen.now.picture.rows) c.args.changed.now c.loop-at.at no_line c.loop-at-test.true c.requires.numbers) in
    record { rows = c.loop-at.invariant.whole; low = within.0; high = within.1; number = numbered }

pub move_block-requires : goal.move_block-requires
move_block-requires c =
    let lines = c.args.screen.now.picture.lines in
    subst (λ n. InSheet n c.in-Moved.block) (sym c.loop-at.invariant.whole)
    (subst (IsWithin lines) c.in-Moved.is (All-get_or (IsWithin lines) c.args.changed.now c.loop-at.at no_line c.loop-at-test.true c.requires.lines))

pub loop-at-init : goal.loop-at-init
loop-at-init c = record {
  whole = c.requires.rows;
  told = λ wide is k low high. record { row = refl; wide = wide k low high };
}

pub loop-at-preserved : goal.loop-at-preserved
loop-at-preserved c =
    let origins = c.args.screen.now.origins in
    let lines = c.args.screen.now.picture.lines in
    let columns = c.args.screen.now.picture.columns in
    let before = c.args.rows.now in
    let after = c.args.screen.now.picture.rows in
    let changed = c.args.changed.now in
    let at = c.loop-at.at in
    let rows = c.loop-at.rows in
    let within = c.loop-at-test.true in
    let kept = c.loop-at.invariant in
    let inside = All-get_or (IsWithin lines) changed at no_line within c.requires.lines in
    elim c.match-changed-at.branch [
      | in-Line w ↦
          let line = w.in-Line.line in
          let here = subst (IsWithin lines) w.in-Line.is inside in
          let copied = w.copy_line.ensures in
          let others = w.copy_line.new.rows in
          rw w.rows-is (record {
            whole = copied.whole ∙ kept.whole;
            told = λ wide is.
                let now = copied.copied (kept.told wide is line here.0 here.1).wide in
                line_caught changed at columns lines no_line origins before after rows others within (kept.told wide is) line w.in-Line.renewed w.in-Line.is
                now (ap length now ∙ copied.wide) copied.others;
          })
      | in-Moved w ↦
          let block = w.in-Moved.block in
          let moved = w.move_block.ensures in
          let others = w.move_block.new.rows in
          rw w.rows-is (record {
            whole = moved.whole ∙ kept.whole;
            told = λ wide is.
                block_caught changed at columns lines no_line origins before after rows others within (kept.told wide is) block w.in-Moved.is
                (subst (IsWithin lines) w.in-Moved.is inside) is moved.before moved.behind
                (moved.moved columns (λ k low high. (kept.told wide is k low (omega (arith, high, kept.whole))).wide));
          })
    ]

pub returns : goal.returns
returns c = λ wide tells is.
    let origins = c.args.screen.now.origins in
    let lines = c.args.screen.now.picture.lines in
    let before = c.args.rows.now in
    let after = c.args.screen.now.picture.rows in
    let changed = c.args.changed.now in
    let rows = c.loop-at.rows in
    let p : ℕ → Bool = λ k. is_renewed origins (row_at before k) (row_at after k) k in
    let kept = c.loop-at.invariant in
    let all : flat_map told_lines changed ≡ renewed_lines lines origins before after = renewed_named origins lines before after changed is in
    let whole = ap (flat_map told_lines) (take_all c.loop-at.at changed c.loop-at-test.false) ∙ all in
    let same : (k : ℕ) → 1 ≤ k → k ≤ lines → row_at rows k ≡ row_at after k = λ k low high.
    let gone : so_far changed c.loop-at.at k ≡ p k = ap (holds k) whole ∙ holds_filtered p k 1 lines low (omega (arith, high)) in
    (kept.told wide is k low high).row ∙ ap (λ b. cond b (row_at after k) (row_at before k)) gone ∙ told_or_stays origins k before after tells in
    record {
      lines = kept.whole;
      rows = rows_by_line lines rows after kept.whole c.screens_are_sound.ensures.rows same;
      columns = λ k low high. (kept.told wide is k low high).wide;
    }
