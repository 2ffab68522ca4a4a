use Rattle.std.proofs.Common.{◌≡◌, ◌-◌, ◌≤◌, subst, arith, drop, length, take}
use Rattle.std.specs.List.{flat_map}
use Rattle.std.proofs.lemmas.List.{length-drop, take_all, take_rest}
use Rattle.sheet.specs.Cells.{Cell}
use Rattle.std.specs.Prelude.{List}
use Rattle.transcripts.specs.Told.{PutsPart}
use Rattle.transcripts.proofs.ToldLemmas.{puts_both, puts_none}
use Rattle.xterm_rows.specs.RowText.{printed}
use Rattle.xterm_transcript.proofs.RowLemmas.{texts_on}
use Rattle.xterm_transcript.proofs.rows.put_cells.Goals as goal

pub loop-at-init : goal.loop-at-init
loop-at-init g c = record { within = omega arith; puts = puts_none c.args.writer.now c.args.rows.now }

pub loop-at-preserved : goal.loop-at-preserved
loop-at-preserved g c =
    let cells = c.args.cells.now in
    let at = c.loop-at.at in
    let n = c.put_some-at.result in
    let rest : take (length cells - at) (drop at cells) ≡ drop at cells = take_rest cells at in
    let few : n ≤ length (drop at cells) = subst (λ (l : List Cell). n ≤ length l) rest c.put_some-at.ensures.within in
    record {
      within = omega (arith, few, length-drop at cells, c.loop-at.invariant.within);
      puts = subst (PutsPart g.W.Write.contents c.args.writer.now c.args.rows.now c.put_some-at.new.writer c.put_some-at.new.rows) (texts_on printed cells at n)
          (puts_both c.put_some-at.ensures.puts c.loop-at.invariant.puts);
    }

pub returns : goal.returns
returns g c =
    let cells = c.args.cells.now in
    let all : length cells ≤ c.loop-at.at = omega (arith, c.loop-at-test.false) in
    subst (λ l. PutsPart g.W.Write.contents c.args.writer.now c.args.rows.now c.loop-at.writer c.loop-at.rows (flat_map printed l)) (take_all c.loop-at.at cells all)
    c.loop-at.invariant.puts
