use Rattle.std.proofs.Common.{Bool, ap, ◌∙◌}
use Rattle.xterm_transcript.specs.Playing.{home_by}
use Rattle.xterm_transcript.proofs.PassLemmas.{piece_played}
use Rattle.xterm_transcript.proofs.transcriber.Transcriber.play.Goals as goal

pub returns : goal.returns
returns c x t shows alike home comes =
    let after = c.args.piece.after in
    piece_played
    (record { terminal = c.feed_in_place.new.self; parser = c.args.self.now.parser; home = c.is_home_after-self.result; reports = c.feed_in_place.new.sink })
    x c.args.bytes.now c.args.piece (alike c.feed_in_place.new.self (c.in_ok-feed_in_place.ensures.shows t shows))
    (c.is_home_after-self.ensures ∙ ap (home_by after c.args.self.now.home) c.screen.ensures.value
    ∙ ap (λ (h : Bool). home_by after h c.feed_in_place.new.self.console.picture) home) comes
