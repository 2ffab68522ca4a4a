use Rattle.std.proofs.Common.{◌∙◌, List, ℕ, ap, append-nil, arith, subst, sym}
use Rattle.std.specs.List.{flat_map}
use Rattle.std.proofs.lemmas.List.{take_all}
use Rattle.std.proofs.lemmas.List.Elements.{All-get_or}
use Rattle.sheet.specs.Cells.{Cell}
use Rattle.sheet.specs.Grid.{IsUsed, row_at}
use Rattle.xterm_page.specs.Entries.{change_by}
use Rattle.xterm_page.specs.EntryText.{named_text}
use Rattle.held.specs.Held.{Wrote}
use Rattle.xterm_page.specs.Parts.{IsWithin, no_line, renewed_text, told}
use Rattle.xterm_page.specs.declared.kept.Renewal.{Renewal}
use Rattle.xterm_page.proofs.PageLemmas.{come_written}
use Rattle.xterm_page.proofs.RenewedLemmas.{texts_taken}
use Rattle.held.proofs.HeldLemmas.{wrote_both, wrote_none}
use Rattle.xterm_page.proofs.entry_printer.put_lines.Goals as goal
use Rattle.xterm_page.proofs.entry_printer.put_lines.Goals.{in-Line, in-Moved}

pub loop-at-init : goal.loop-at-init
loop-at-init g c = wrote_none c.args.writer.now c.args.held.now.items

pub put_changed-requires : goal.put_changed-requires
put_changed-requires g c = subst (λ (r : List Cell). IsUsed r c.used-used.result) (sym c.row-cells.ensures.value) c.used-used.ensures

pub put_block-requires : goal.put_block-requires
put_block-requires g c =
    let lines = c.args.screen.now.picture.lines in
    let inside = subst (IsWithin lines) c.in-Moved.is (All-get_or (IsWithin lines) c.args.changed.now c.loop-at.at no_line c.loop-at-test.true c.requires) in
    record { low = inside.low; apart = omega (arith, inside.some) }

pub loop-at-preserved : goal.loop-at-preserved
loop-at-preserved g c =
    let changed = c.args.changed.now in
    let at = c.loop-at.at in
    let after = c.args.screen.now.picture.rows in
    let text : Renewal → List ℕ = λ x. flat_map (renewed_text after) (told x) in
    let more = texts_taken text changed at no_line c.loop-at-test.true in
    elim c.match-changed-at.branch [
      | in-Line w ↦
          let line = w.in-Line.line in
          let named : List Cell → List ℕ = λ cells. named_text (line, change_by w.in-Line.renewed.was cells) in
          let is = ap named w.row-cells.ensures.value ∙ sym (ap text w.in-Line.is ∙ append-nil (named (row_at after line))) in
          rw (w.writer-is, w.held-is) (subst (Wrote g.W.Write.contents c.args.writer.now c.args.held.now.items w.put_changed.new.writer w.put_changed.new.held.items) (sym more)
          (wrote_both (subst (Wrote g.W.Write.contents c.loop-at.writer c.loop-at.held.items w.put_changed.new.writer w.put_changed.new.held.items) is w.put_changed.ensures) c.loop-at.invariant))
      | in-Moved w ↦
          rw (w.writer-is, w.held-is) (subst (Wrote g.W.Write.contents c.args.writer.now c.args.held.now.items w.put_block.new.writer w.put_block.new.held.items) (sym more)
          (wrote_both (subst (Wrote g.W.Write.contents c.loop-at.writer c.loop-at.held.items w.put_block.new.writer w.put_block.new.held.items) (sym (ap text w.in-Moved.is ∙ come_written after w.in-Moved.block.from w.in-Moved.block.end w.in-Moved.block.shift)) w.put_block.ensures) c.loop-at.invariant))
    ]

pub returns : goal.returns
returns g c =
    subst (λ l. Wrote g.W.Write.contents c.args.writer.now c.args.held.now.items c.loop-at.writer c.loop-at.held.items (flat_map (λ (x : Renewal). flat_map (renewed_text c.args.screen.now.picture.rows) (told x)) l))
    (take_all c.loop-at.at c.args.changed.now c.loop-at-test.false) c.loop-at.invariant
