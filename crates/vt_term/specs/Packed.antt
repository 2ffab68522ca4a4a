-- Terminals that are kept for later.
use Rattle.vt_term.specs.declared.terminal.packed.PackedTerminal.TheInside.{Inside as Fields}
use Rattle.vt_screen.specs.Touched.{all_touched}
use Rattle.vt_term.specs.Seen.{Seen}

-- the same with all lines touched (ours)
abbrev pub wholly_touched : Seen → Seen
wholly_touched seen = record seen { touched = all_touched }

-- Private: what the fields of a packed terminal stand for (ours)
abbrev pub packed_seen : Fields → Seen
packed_seen t = record {
  console = record {
    profile = t.profile;
    picture = t.screen;
    modes = t.modes;
    rendition = t.rendition;
    sets = t.sets;
    saved = t.saved;
    leds = t.leds;
  };
  state = t.parser;
  touched = all_touched;
}
