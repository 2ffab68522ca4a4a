use Rattle.std.proofs.Common.{◌≡◌, ◌+◌, ◌-◌, ◌≤◌, List, length, ap, sym, ◌∙◌, subst, arith, refl, filter, inl, inr}
use Rattle.std.proofs.lemmas.Bool.{cases_lt}
use Rattle.std.specs.List.{range_with_len}
use Rattle.sheet.specs.Cells.{Cell}
use Rattle.sheet.specs.Grid.{row_at}
use Rattle.xterm_print.specs.ChangeLines.{changed_lines, is_changed}
use Rattle.xterm_print.specs.Kept.{FollowAll, FollowLines, Follows}
use Rattle.xterm_print.proofs.KeptLemmas.{not_changed, passing_none}
use Rattle.xterm_print.proofs.kept.catch_up.Goals as goal

pub loop-line-init : goal.loop-line-init
loop-line-init c = record {
  low = omega arith;
  high = omega arith;
  whole = c.requires.rows;
  known = c.requires.known;
  changed = λ before told follow. c.clear.ensures;
  few = omega (arith, ap length c.clear.ensures);
  later = λ k here low. refl;
  caught = λ before told follow k low high. absurd (omega (arith, low, high));
}

pub loop-line-preserved-then-is_touched : goal.loop-line-preserved-then-is_touched
loop-line-preserved-then-is_touched c =
    let line = c.loop-line.line in
    let kept = c.loop-line.invariant in
    let there = c.catch_up_from-line.ensures in
    let columns = c.args.screen.now.picture.columns in
    -- those from the line on follow what was before until they are caught up with
    let was : (before : List (List Cell)) → FollowAll c.args.screen.now.picture.lines columns c.args.rows.now before
    → FollowLines line c.catch_up_from-line.result columns c.loop-line.rows before = λ before follow k low high.
    let here : 1 ≤ k = omega (arith, low, kept.low) in
    subst (λ row. Follows columns row (row_at before k)) (sym (kept.later k here low))
    (follow.row k here (omega (arith, high, there.high))) in
    record {
      low = omega (arith, kept.low, there.low);
      high = there.high;
      whole = there.whole ∙ kept.whole;
      known = there.known;
      changed = λ before told follow. there.changed before told (was before follow) (kept.changed before told follow);
      few = there.few;
      later = λ k here from. there.behind k from ∙ kept.later k here (omega (arith, from, there.low));
      caught = λ before told follow k here below. elim (cases_lt k line) [
        | inl so_far ↦ subst (λ row. Follows c.args.screen.now.picture.columns row (row_at c.args.screen.now.picture.rows k)) (sym (there.before k here so_far))
            (kept.caught before told follow k here so_far)
        | inr behind ↦ there.caught before told (was before follow) (kept.changed before told follow) k behind below
      ];
    }

pub loop-line-preserved : goal.loop-line-preserved
loop-line-preserved c =
    let line = c.loop-line.line in
    let after = c.args.screen.now.picture.rows in
    let columns = c.args.screen.now.picture.columns in
    let kept = c.loop-line.invariant in
    let next = c.next_touched-line.result in
    let there = c.next_touched-line.ensures in
    record {
      low = omega (arith, kept.low, there.low);
      high = there.high;
      whole = kept.whole;
      known = kept.known;
      changed = λ before told follow.
          let all : line - 1 + (next - line) ≡ next - 1 = omega (arith, kept.low, there.low) in
          kept.changed before told follow
          ∙ sym (passing_none (is_changed before after) (line - 1) (next - line)
          (λ k low high. sym (not_changed before after k (told.stay k (there.between k (omega (arith, low, kept.low)) (omega (arith, high, all, kept.low, there.low)))))))
          ∙ ap (λ n. filter (is_changed before after) (range_with_len 1 n)) all;
      few = omega (arith, kept.few, there.low);
      later = λ k here from. kept.later k here (omega (arith, from, there.low));
      caught = λ before told follow k here below. elim (cases_lt k line) [
        | inl so_far ↦ kept.caught before told follow k here so_far
        | inr behind ↦
            subst (λ row. Follows columns row (row_at after k)) (sym (kept.later k here behind))
            (subst (Follows columns (row_at c.args.rows.now k)) (sym (told.stay k (there.between k behind below))) (follow.row k here (omega (arith, below, there.high))))
      ];
    }

pub returns-clause-changed : goal.returns-clause-changed
unfolding changed_lines
returns-clause-changed c = λ before told follow.
    let all : c.loop-line.line - 1 ≡ c.args.screen.now.picture.lines = omega (arith, c.lines-lines.ensures.value, c.loop-line-test.false, c.loop-line.invariant.high) in
    c.loop-line.invariant.changed before told follow ∙ ap (λ n. filter (is_changed before c.args.screen.now.picture.rows) (range_with_len 1 n)) all

pub returns-clause-caught : goal.returns-clause-caught
returns-clause-caught c = λ before told follow. record {
  lines = c.loop-line.invariant.whole;
  row = λ k low high. c.loop-line.invariant.caught before told follow k low (omega (arith, high, c.lines-lines.ensures.value, c.loop-line-test.false));
}
