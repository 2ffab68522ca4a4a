use Rattle.std.proofs.Common.{◌≤◌, take, ap, sym, ◌∙◌, arith}
use Rattle.std.specs.List.{list_all}
use Rattle.std.proofs.lemmas.List.{length-take, take-take}
use Rattle.vt_parser.specs.Syntax.{is_graphic}
use Rattle.vt_parser.proofs.LawLemmas.{runs_are_graphic}
use Rattle.xterm_transcript.proofs.PieceLemmas.{room_less}
use Rattle.xterm_transcript.proofs.transcriber.run_len.Goals as goal

pub returns-clause-graphic : goal.returns-clause-graphic
returns-clause-graphic c =
    let n = c.printable_run.result in
    let k = c.min.result in
    let bytes = c.args.bytes.now in
    ap (list_all is_graphic) (sym (take-take n k bytes (omega (arith, length-take k bytes))))
    ∙ runs_are_graphic (take k bytes) n (omega (arith, c.printable_run.ensures.value))

pub returns-clause-room : goal.returns-clause-room
returns-clause-room c more =
    let n = c.printable_run.result in
    let few : n ≤ c.room_for-room.result = omega (arith, length-take c.min.result c.args.bytes.now) in
    room_less c.args.terminal.now n c.room_for-room.result few (c.room_for-room.ensures.room (omega (arith, more, few)))
