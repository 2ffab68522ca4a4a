use Rattle.std.proofs.Common.{◌≡◌, ◌≢◌, ◌+◌, ◌-◌, ◌<◌, ◌≤◌, false, true, ap, sym, subst, ◌∙◌, arith, IfSome, Option, Some, None, length, not, append-nil, if◌then◌else◌}
use Rattle.std.specs.List.{flat_map}
use Rattle.std.proofs.lemmas.Bool.{false≢true, not-true}
use Rattle.std.proofs.lemmas.Bool.Decides.{Decides-eqb}
use Rattle.std.proofs.lemmas.List.{length-replicate}
use Rattle.std.proofs.lemmas.List.Elements.{All-nil}
use Rattle.std.proofs.lemmas.Option.{cond_some}
use Rattle.sheet.specs.Grid.{AreMarked as MarksTell, row_at}
use Rattle.xterm_page.specs.Entries.{line_of}
use Rattle.xterm_page.specs.Parts.{AreDistinct, AreLines, AreNumbered, IsNumbered, IsWithin, is_renewed, renewed_to, told, told_of}
use Rattle.xterm_page.specs.Same.{row_number}
use Rattle.xterm_page.specs.declared.kept.Renewed.{Renewed}
use Rattle.xterm_page.proofs.RenewedLemmas.{renewed_apart, renewed_more, renewed_none, renewed_pushed, some_renewed, some_told, told_none}
use Rattle.xterm_page.proofs.kept.changed_rows.Goals as goal
use Rattle.xterm_page.proofs.kept.changed_rows.Goals.{in-Some+in_ok-push_renewed, in_default}

pub come_end-next-requires : goal.come_end-next-requires
come_end-next-requires c = record {
  low = omega arith;
  high = omega (arith, c.lines-in-loop-line.ensures.value);
  rows = c.requires;
  marked = c.renewed_line-renewed.ensures.marked;
}

pub push_renewed-requires : goal.push_renewed-requires
push_renewed-requires c = record {
  low = c.loop-line.invariant.low;
  high = omega arith;
  apart = omega (arith, c.come_end-next.ensures.low);
  come = λ more. (let come = c.come_end-next.ensures.within more in (come.0, omega (arith, come.1)));
}

pub loop-line-init : goal.loop-line-init
loop-line-init c =
    let first = c.touched_from-line.ensures in
    let lines = c.args.screen.now.picture.lines in
    let after = c.args.screen.now.picture.rows in
    let none = sym c.in_ok-changed.ensures.items in
    record {
      low = first.low;
      high = first.high;
      touched = first.touched;
      told = λ _ _. ap (flat_map told) c.in_ok-changed.ensures.items
          ∙ renewed_none c.args.screen.now.origins lines c.args.rows.now after 1 c.touched_from-line.result (omega arith) first.low first.between;
      lines = subst (AreLines lines) none (All-nil (IsWithin lines));
      numbers = subst (AreNumbered after) none (All-nil (IsNumbered after));
      long = length-replicate 2048 false;
      marked = λ line low high. absurd (omega (arith, low, high));
    }

pub loop-line-preserved : goal.loop-line-preserved
loop-line-preserved c =
    let line = c.loop-line.line in
    let rows = c.args.rows.now in
    let after = c.args.screen.now.picture.rows in
    let origins = c.args.screen.now.origins in
    let lines = c.args.screen.now.picture.lines in
    let kept = c.loop-line.invariant in
    let next = c.touched_from-line-in-loop-line in
    let here = is_renewed origins (row_at rows line) (row_at after line) line in
    let old = c.loop-line.changed.items in
    let was = line_of lines rows (row_at after line) in
    let count = c.loop-line.changed.len in
    let nonempty : not c.is_empty-some.result ≡ true → 0 < length old = λ some.
    let apart : count ≢ 0 = λ e. false≢true (sym (sym c.is_empty-some.ensures ∙ not-true c.is_empty-some.result some) ∙ (Decides-eqb count 0).1 e) in
    omega (arith, apart, c.loop-line.changed.ok.0) in
    let known : MarksTell rows origins after → AreDistinct rows c.args.distinct → told_of c.renewed_line-renewed.result ≡ (if here then Some was else None) = λ marks apart.
    c.renewed_line-renewed.ensures.told marks (λ some.
    some_renewed origins lines rows after (line - 1) (flat_map told old) (kept.told marks apart) (some_told lines old kept.lines (nonempty some))) in
    let n = c.match-renewed.next in
    let low : line + 1 ≤ n = elim c.match-renewed.branch [
      | in-Some+in_ok-push_renewed w ↦ rw w.next-is w.come_end-next.ensures.low
      | in_default w ↦ rw w.next-is (omega arith)
    ] in
    let passed = renewed_none origins lines rows after n next.result (omega (arith, low)) next.ensures.low next.ensures.between in
    record {
      low = omega (arith, low, next.ensures.low);
      high = next.ensures.high;
      touched = next.ensures.touched;
      told = λ marks apart. (elim c.match-renewed.branch [
        | in-Some+in_ok-push_renewed w ↦
            let r = w.in-Some.renewed in
            let is = cond_some here was r.was (sym (known marks apart) ∙ ap told_of w.in-Some.is) in
            let tells = marks.move (renewed_apart origins rows after line is.0) in
            rw (w.changed-is, w.next-is) (renewed_pushed origins lines rows after line w.come_end-next.result w.shift_by-shift.result r.was (flat_map told old) (flat_map told w.push_renewed.new.changed.items)
            kept.low (omega (arith, w.come_end-next.ensures.low)) is.0 is.1 (w.come_end-next.ensures.come tells apart) (kept.told marks apart) w.in_ok-push_renewed.ensures.told)
        | in_default w ↦
            rw (w.changed-is, w.next-is) (renewed_more origins lines rows after line false (flat_map told old) (flat_map told old) kept.low
            (sym (told_none c.renewed_line-renewed.result here was w.in_default.not-Some (known marks apart))) (kept.told marks apart) (sym (append-nil (flat_map told old))))
      ]) ∙ passed;
      lines = elim c.match-renewed.branch [
        | in-Some+in_ok-push_renewed w ↦ rw w.changed-is (subst (λ m. AreLines m w.push_renewed.new.changed.items) w.lines-in-Some.ensures.value
            (w.in_ok-push_renewed.ensures.lines (subst (λ m. AreLines m old) (sym w.lines-in-Some.ensures.value) kept.lines)))
        | in_default w ↦ rw w.changed-is kept.lines
      ];
      numbers = elim c.match-renewed.branch [
        | in-Some+in_ok-push_renewed w ↦
            let number = subst (λ (o : Option Renewed). IfSome o (λ renewed. IfSome renewed.number (λ number. number ≡ row_number (row_at after line))))
            w.in-Some.is c.renewed_line-renewed.ensures.number in
            rw w.changed-is (w.in_ok-push_renewed.ensures.numbers after number kept.numbers)
        | in_default w ↦ rw w.changed-is kept.numbers
      ];
      long = elim c.match-renewed.branch [
        | in-Some+in_ok-push_renewed w ↦ rw w.marks-is w.come_end-next.array_long
        | in_default w ↦ rw w.marks-is c.renewed_line-renewed.array_long
      ];
      marked = elim c.match-renewed.branch [
        | in-Some+in_ok-push_renewed w ↦ rw (w.marked-is, w.marks-is) w.come_end-next.ensures.marked
        | in_default w ↦ rw (w.marked-is, w.marks-is) c.renewed_line-renewed.ensures.marked
      ];
    }

pub returns : goal.returns
returns c =
    let origins = c.args.screen.now.origins in
    let lines = c.args.screen.now.picture.lines in
    let rows = c.args.rows.now in
    let after = c.args.screen.now.picture.rows in
    let all : c.loop-line.line - 1 ≡ lines =
    omega (arith, c.lines.ensures.value, c.loop-line-test.false, c.loop-line.invariant.high) in
    let kept = c.loop-line.invariant in
    record {
      changed = λ marks apart. kept.told marks apart ∙ ap (λ n. renewed_to n origins lines rows after) all;
      lines = kept.lines;
      numbers = kept.numbers;
    }
