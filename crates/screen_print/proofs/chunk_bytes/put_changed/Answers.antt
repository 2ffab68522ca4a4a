use Rattle.std.proofs.Common.{◌∙◌, subst, sym}
use Rattle.tape_core.specs.Devices.{Gave}
use Rattle.screen_print.specs.EachByte.{passed_lines}
use Rattle.screen_print.specs.FindLines.{standing}
use Rattle.screen_print.specs.ByLine.{DifferIn}
use Rattle.screen_print.specs.Stills.{Still, still_of}
use Rattle.screen_print.proofs.ByLineLemmas.{passed_are}
use Rattle.screen_print.proofs.EachByteLemmas.{nothing_passed}
use Rattle.screen_print.proofs.chunk_bytes.put_changed.Goals as goal

pub returns-then-stays : goal.returns-then-stays
returns-then-stays g c =
    let chunk = c.args.chunk.now in
    let ends = c.args.ends.now in
    let text = c.args.sought.now.text.now in
    let first = ends.first.now in
    let last = ends.last.now in
    let before = c.args.before.now in
    subst (λ (after : Still). Gave g.W.Write.contents c.args.writer.now c.args.writer.now
    (passed_lines chunk.index chunk.due chunk.len first (standing text first) last (standing text last) before (standing text before) after (standing text after)))
    (sym c.requires.after)
    (subst (λ t. Gave g.W.Write.contents c.args.writer.now c.args.writer.now t)
    (sym (nothing_passed text chunk.index chunk.due chunk.len first last (standing text first) (standing text last)
    before (still_of c.args.terminal.now.console) (c.stays.ensures c.if-stays.true 0 0)))
    (c.gives_join.ensures.nothing c.args.writer.now))

pub put_less-requires-clause-lines : goal.put_less-requires-clause-lines
put_less-requires-clause-lines g c =
    subst (λ (s : Still). DifferIn c.args.lines.now c.args.before.now s) (sym c.requires.after) c.requires.changed.others

pub put_less-requires-clause-moved : goal.put_less-requires-clause-moved
put_less-requires-clause-moved g c = c.went.ensures c.args.before.now c.args.after.now c.of-rise.ensures.rise

pub returns : goal.returns
returns g c =
    let chunk = c.args.chunk.now in
    let ends = c.args.ends.now in
    subst (Gave g.W.Write.contents c.args.writer.now c.put_less.new.writer)
    (passed_are c.args.sought.now.text.now chunk.index chunk.due chunk.len ends.first.now ends.last.now c.args.before.now c.args.after.now)
    c.put_less.ensures
