use Rattle.std.proofs.Common.{◌<◌, ◌++◌, List, length, take, subst, sym, ap, ◌∙◌, arith}
use Rattle.std.specs.Prelude.{slice_index, ℕ}
use Rattle.std.proofs.lemmas.List.{length-take}
use Rattle.std.proofs.lemmas.Result.{err_from_is_err_and}
use Rattle.transcripts.specs.Told.{Tells, TellsFront}
use Rattle.transcripts.proofs.ToldLemmas.{front_first, front_second, front_whole, tells_both}
use Rattle.xterm_term.specs.Seen.{Seen, Shows}
use Rattle.xterm_term.specs.Term.{Term}
use Rattle.xterm_transcript.specs.Playing.{IsPlayed, broken_rows, mended, told_by}
use Rattle.xterm_transcript.specs.Transcribed.{Transcribed, left, play_on}
use Rattle.xterm_transcript.proofs.PassLemmas.{front_taken, mended_left, mended_played}
use Rattle.xterm_transcript.proofs.PieceLemmas.{one_of}
use Rattle.xterm_transcript.proofs.PutLemmas.{mended_plays}
use Rattle.xterm_transcript.proofs.transcriber.Transcriber.tell_next.Goals as goal

pub returns-in_err-tell_broken-clause-front : goal.returns-in_err-tell_broken-clause-front
returns-in_err-tell_broken-clause-front g c x is =
    let p = err_from_is_err_and c.from_residual.result c.from_residual.ensures.1 in
    let bytes = c.args.bytes.now in
    rw p.1 (subst (TellsFront g.W.Write.contents c.args.writer.now c.args.rows.now c.tell_broken.new.writer c.tell_broken.new.rows)
    (sym (mended_plays x bytes c.requires).0)
    (front_first (left (mended x (slice_index bytes 0)) bytes) (c.in_err-tell_broken.ensures.front x is)))

pub returns-in_err-tell_leaving-clause-front : goal.returns-in_err-tell_leaving-clause-front
returns-in_err-tell_leaving-clause-front g c x is =
    let p = err_from_is_err_and c.from_residual-in_err-tell_leaving.result c.from_residual-in_err-tell_leaving.ensures.1 in
    let bytes = c.args.bytes.now in
    let piece = c.next_piece-piece in
    let n = piece.result.taken in
    let long : 0 < length (take n bytes) = omega (arith, length-take n bytes, piece.ensures.some, piece.ensures.within) in
    let y : Transcribed = mended x (slice_index bytes 0) in
    let that = c.in_ok-tell_broken.ensures.played x is in
    let shows = subst (λ (seen : Seen). Shows seen y.term) (sym piece.ensures.terminal) that.shows in
    rw p.1 (front_taken x bytes n
    (subst (TellsFront g.W.Write.contents c.args.writer.now c.args.rows.now c.tell_leaving.new.writer c.tell_leaving.new.rows)
    (ap (λ (l : List (List ℕ)). broken_rows x (slice_index bytes 0) ++ l) (sym (piece.ensures.comes y that).rows) ∙ mended_left x bytes n piece.ensures.some long)
    (front_second (c.in_err-tell_leaving.ensures.front y.term shows) (c.in_ok-tell_broken.ensures.tells x is))))

pub returns-in_err-play-clause-front : goal.returns-in_err-play-clause-front
returns-in_err-play-clause-front g c x is =
    let p = err_from_is_err_and c.from_residual-in_err-play.result c.from_residual-in_err-play.ensures.1 in
    let bytes = c.args.bytes.now in
    let piece = c.next_piece-piece in
    let n = piece.result.taken in
    let long : 0 < length (take n bytes) = omega (arith, length-take n bytes, piece.ensures.some, piece.ensures.within) in
    let y : Transcribed = mended x (slice_index bytes 0) in
    let that = c.in_ok-tell_broken.ensures.played x is in
    let shows = subst (λ (seen : Seen). Shows seen y.term) (sym piece.ensures.terminal) that.shows in
    rw p.1 (front_taken x bytes n
    (subst (TellsFront g.W.Write.contents c.args.writer.now c.args.rows.now c.tell_leaving.new.writer c.tell_leaving.new.rows)
    (ap (λ (l : List (List ℕ)). broken_rows x (slice_index bytes 0) ++ l) (sym (piece.ensures.comes y that).rows) ∙ mended_left x bytes n piece.ensures.some long)
    (front_whole (tells_both (c.in_ok-tell_leaving.ensures.tells y.term shows) (c.in_ok-tell_broken.ensures.tells x is)))))

pub returns-clause-played : goal.returns-clause-played
returns-clause-played g c x is =
    let bytes = c.args.bytes.now in
    let piece = c.next_piece-piece in
    let n = piece.result.taken in
    let long : 0 < length (take n bytes) = omega (arith, length-take n bytes, piece.ensures.some, piece.ensures.within) in
    let y : Transcribed = mended x (slice_index bytes 0) in
    let that = c.in_ok-tell_broken.ensures.played x is in
    let shows = subst (λ (seen : Seen). Shows seen y.term) (sym piece.ensures.terminal) that.shows in
    let t : Term = told_by piece.result.leaving y.term in
    let comes = piece.ensures.comes y that in
    mended_played c.play.new.self x bytes n piece.ensures.some long
    (c.in_ok-play.ensures y t (c.in_ok-tell_leaving.ensures.shows y.term shows) comes.alike (piece.ensures.home ∙ that.home) comes)

pub returns-clause-tells : goal.returns-clause-tells
returns-clause-tells g c x is =
    let bytes = c.args.bytes.now in
    let piece = c.next_piece-piece in
    let n = piece.result.taken in
    let long : 0 < length (take n bytes) = omega (arith, length-take n bytes, piece.ensures.some, piece.ensures.within) in
    let y : Transcribed = mended x (slice_index bytes 0) in
    let that = c.in_ok-tell_broken.ensures.played x is in
    let shows = subst (λ (seen : Seen). Shows seen y.term) (sym piece.ensures.terminal) that.shows in
    subst (Tells g.W.Write.contents c.args.writer.now c.args.rows.now c.tell_leaving.new.writer c.tell_leaving.new.rows)
    (ap (λ (l : List (List ℕ)). broken_rows x (slice_index bytes 0) ++ l) (sym (piece.ensures.comes y that).rows) ∙ mended_left x bytes n piece.ensures.some long)
    (tells_both (c.in_ok-tell_leaving.ensures.tells y.term shows) (c.in_ok-tell_broken.ensures.tells x is))

pub returns-in_err-taken-clause-front : goal.returns-in_err-taken-clause-front
returns-in_err-taken-clause-front g c x is =
    let p = err_from_is_err_and c.from_residual-in_err-taken.result c.from_residual-in_err-taken.ensures.1 in
    let bytes = c.args.bytes.now in
    let that = c.in_ok-tell_broken.ensures.played x is in
    rw p.1 (subst (TellsFront g.W.Write.contents c.args.writer.now c.args.rows.now c.tell_command.new.writer c.tell_command.new.rows)
    (sym (mended_plays x bytes c.requires).0)
    (front_second (c.in_err-taken.ensures.front (mended x (slice_index bytes 0)) that) (c.in_ok-tell_broken.ensures.tells x is)))

pub returns-then-is_command-clause-played : goal.returns-then-is_command-clause-played
returns-then-is_command-clause-played g c x is =
    let bytes = c.args.bytes.now in
    let n = c.in_ok-taken.taken in
    let some : 0 < n = c.in_ok-taken.ensures.some in
    let within = c.in_ok-taken.ensures.within in
    let long : 0 < length (take n bytes) = omega (arith, length-take n bytes, some, within) in
    mended_played c.tell_command.new.self x bytes n some long
    (c.in_ok-taken.ensures.played (mended x (slice_index bytes 0)) (c.in_ok-tell_broken.ensures.played x is))

pub returns-then-is_command-clause-tells : goal.returns-then-is_command-clause-tells
returns-then-is_command-clause-tells g c x is =
    let bytes = c.args.bytes.now in
    let n = c.in_ok-taken.taken in
    let some : 0 < n = c.in_ok-taken.ensures.some in
    let within = c.in_ok-taken.ensures.within in
    let long : 0 < length (take n bytes) = omega (arith, length-take n bytes, some, within) in
    let that = c.in_ok-tell_broken.ensures.played x is in
    subst (Tells g.W.Write.contents c.args.writer.now c.args.rows.now c.tell_command.new.writer c.tell_command.new.rows)
    (mended_left x bytes n some long)
    (tells_both (c.in_ok-taken.ensures.tells (mended x (slice_index bytes 0)) that) (c.in_ok-tell_broken.ensures.tells x is))

-- a control

pub returns-in_err-tell_control-clause-front : goal.returns-in_err-tell_control-clause-front
returns-in_err-tell_control-clause-front g c x is =
    let p = err_from_is_err_and c.from_residual-in_err-tell_control.result c.from_residual-in_err-tell_control.ensures.1 in
    let bytes = c.args.bytes.now in
    let y : Transcribed = mended x (slice_index bytes 0) in
    let long : 0 < length (take 1 bytes) = omega (arith, length-take 1 bytes, c.requires) in
    rw p.1 (front_taken x bytes 1
    (subst (TellsFront g.W.Write.contents c.args.writer.now c.args.rows.now c.tell_control.new.writer c.tell_control.new.rows)
    (ap (λ l. broken_rows x (slice_index bytes 0) ++ left y l) (one_of bytes c.requires) ∙ mended_left x bytes 1 (omega arith) long)
    (front_second (c.in_err-tell_control.ensures.front y (c.in_ok-tell_broken.ensures.played x is)) (c.in_ok-tell_broken.ensures.tells x is))))

pub returns-then-is_effective-clause-played : goal.returns-then-is_effective-clause-played
returns-then-is_effective-clause-played g c x is =
    let bytes = c.args.bytes.now in
    let y : Transcribed = mended x (slice_index bytes 0) in
    let long : 0 < length (take 1 bytes) = omega (arith, length-take 1 bytes, c.requires) in
    mended_played c.tell_control.new.self x bytes 1 (omega arith) long
    (subst (λ l. IsPlayed c.tell_control.new.self (play_on y l)) (one_of bytes c.requires)
    (c.in_ok-tell_control.ensures.played y (c.in_ok-tell_broken.ensures.played x is)))

pub returns-then-is_effective-clause-tells : goal.returns-then-is_effective-clause-tells
returns-then-is_effective-clause-tells g c x is =
    let bytes = c.args.bytes.now in
    let y : Transcribed = mended x (slice_index bytes 0) in
    let long : 0 < length (take 1 bytes) = omega (arith, length-take 1 bytes, c.requires) in
    subst (Tells g.W.Write.contents c.args.writer.now c.args.rows.now c.tell_control.new.writer c.tell_control.new.rows)
    (ap (λ l. broken_rows x (slice_index bytes 0) ++ left y l) (one_of bytes c.requires) ∙ mended_left x bytes 1 (omega arith) long)
    (tells_both (c.in_ok-tell_control.ensures.tells y (c.in_ok-tell_broken.ensures.played x is)) (c.in_ok-tell_broken.ensures.tells x is))
