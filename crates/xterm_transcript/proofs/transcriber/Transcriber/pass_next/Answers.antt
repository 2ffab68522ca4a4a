use Rattle.std.proofs.Common.{◌<◌, length, take, sym, ◌∙◌, subst, arith}
use Rattle.std.specs.Prelude.{slice_index}
use Rattle.std.proofs.lemmas.List.{length-take}
use Rattle.xterm_term.specs.Seen.{Seen, Shows}
use Rattle.xterm_transcript.specs.Playing.{mended}
use Rattle.xterm_transcript.specs.Transcribed.{Transcribed}
use Rattle.xterm_transcript.proofs.PassLemmas.{mended_played}
use Rattle.xterm_transcript.proofs.transcriber.Transcriber.pass_next.Goals as goal

pub returns-then-is_command-clause-played : goal.returns-then-is_command-clause-played
returns-then-is_command-clause-played c x was =
    let bytes = c.args.bytes.now in
    let n = c.in_ok-taken.taken in
    let some : 0 < n = c.in_ok-taken.ensures.some in
    let within = c.in_ok-taken.ensures.within in
    let long : 0 < length (take n bytes) = omega (arith, length-take n bytes, some, within) in
    mended_played c.pass_command.new.self x bytes n some long (c.in_ok-taken.ensures.played (mended x (slice_index bytes 0)) (c.break_if.ensures.played x was))

pub returns-clause-played : goal.returns-clause-played
returns-clause-played c x was =
    let bytes = c.args.bytes.now in
    let piece = c.next_piece-piece in
    let n = piece.result.taken in
    let long : 0 < length (take n bytes) = omega (arith, length-take n bytes, piece.ensures.some, piece.ensures.within) in
    let y : Transcribed = mended x (slice_index bytes 0) in
    let that = c.break_if.ensures.played x was in
    mended_played c.play.new.self x bytes n piece.ensures.some long
    (c.in_ok-play.ensures y y.term (subst (λ (seen : Seen). Shows seen y.term) (sym piece.ensures.terminal) that.shows) (λ seen shows. shows)
    (piece.ensures.home ∙ that.home) (piece.ensures.comes y that))
