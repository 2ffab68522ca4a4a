use Rattle.std.proofs.Common.{◌-◌, ◌∙◌, ap, arith, max, subst}
use Rattle.tape_core.specs.Devices.{Gave}
use Rattle.screen_print.specs.EachByte.{chunk_lines_at, from_lines}
use Rattle.screen_print.specs.Stills.{still_of}
use Rattle.screen_print.proofs.EachByteLemmas.{lines_in_two}
use Rattle.chunk_walk.proofs.TextLemmas.{texts_from}
use Rattle.screen_print.proofs.each_byte.put_lines.Goals as goal

pub returns : goal.returns
returns g c = λ profile h.
    let tape = c.args.recording.now in
    let end = c.max-end.result in
    let first = from_lines c.args.text.now (still_of c.args.terminal.now.console) c.args.start c.args.from in
    let second = texts_from (chunk_lines_at c.args.text.now profile tape) c.args.start (end - c.args.start) in
    let high = c.max-end.ensures ∙ ap (λ n. max n c.args.start) c.due_count.ensures.count in
    let all = lines_in_two c.due_is_below_the_count.ensures profile tape c.args.from c.args.to c.args.text.now c.args.start end c.args.terminal.now c.requires.start high c.requires.within (omega (arith, c.due_count.ensures.count, c.due_count.ensures.within)) h in
    subst (λ t. Gave g.W.Write.contents c.args.writer.now c.put_between.new.writer t) all
    (c.gives_join.ensures.both _ _ _ first second (c.put_between.ensures profile h) c.put_from.ensures)
