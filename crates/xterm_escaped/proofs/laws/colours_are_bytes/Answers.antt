use Rattle.xterm_escaped.proofs.ColoursPlayed.{colours_played}
use Rattle.xterm_escaped.proofs.laws.colours_are_bytes.Goals as goal

pub returns : goal.returns
returns c =
    colours_played (record { ascii = c.widths_are_small.ensures.ascii; most = c.widths_are_small.ensures.most; proper = c.commands_are_proper.ensures })
