use Rattle.std.proofs.Common.{sym, ◌∙◌}
use Rattle.xterm_term.proofs.Ahead.{IsAtFoot, moves_up}
use Rattle.xterm_term.proofs.terminal.Terminal.moves_up.Goals as goal

pub returns-then-is_idle : goal.returns-then-is_idle
returns-then-is_idle c = λ is x shows.
    let foot : IsAtFoot c.args.self.now = record {
      title = c.is_idle.ensures.title c.if-is_idle.true;
      state = c.is_idle.ensures.state c.if-is_idle.true;
      character = c.is_idle.ensures.character c.if-is_idle.true;
      top = c.is_at_foot.ensures.top is;
      bottom = c.is_at_foot.ensures.bottom is;
      line = c.is_at_foot.ensures.line is;
    } in
    moves_up c.laws_below.ensures c.control_is_given.ensures c.args.self.now x c.args.byte foot (sym c.is_line_feed.ensures ∙ c.if-not-is_line_feed.false) shows
