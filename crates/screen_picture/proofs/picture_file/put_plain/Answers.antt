use Rattle.std.proofs.Common.{◌≡◌, ◌+◌, ◌-◌, arith, subst, sym}
use Rattle.tape_core.specs.Devices.{Gave}
use Rattle.screen_picture.proofs.LineLemmas.{first_lines, line_more}
use Rattle.screen_picture.proofs.PlainLemmas.{escaped_line, plain_is}
use Rattle.screen_picture.proofs.picture_file.put_plain.Goals as goal

pub loop-line-preserved : goal.loop-line-preserved
loop-line-preserved g c =
    let f = escaped_line c.args.screen.now.picture in
    let line = c.loop-line.line in
    let same : line ≡ line + 1 - 1 = omega arith in
    subst (λ n. Gave g.W.Write.contents c.args.writer.now c.put_plain_line.new.writer (first_lines f n)) same
    (subst (λ t. Gave g.W.Write.contents c.args.writer.now c.put_plain_line.new.writer t) (sym (line_more f line (omega arith)))
    (c.gives_join.ensures.both _ _ _ _ _ c.put_plain_line.ensures c.loop-line.invariant))

pub returns : goal.returns
returns g c =
    let picture = c.args.screen.now.picture in
    let last : c.loop-line.line - 1 ≡ 24 = omega arith in
    let all : Gave g.W.Write.contents c.args.writer.now c.loop-line.writer (first_lines (escaped_line picture) 24) =
    subst (λ n. Gave g.W.Write.contents c.args.writer.now c.loop-line.writer (first_lines (escaped_line picture) n)) last c.loop-line.invariant in
    subst (λ t. Gave g.W.Write.contents c.args.writer.now c.loop-line.writer t) (plain_is picture c.screens_are_sound.ensures.rows) all
