-- Private: what the fields of a packed terminal stand for (ours).
use Rattle.xterm_term.specs.declared.terminal.packed.PackedTerminal.TheInside.{Inside as Fields}
use Rattle.std.specs.Prelude.{◌≡◌}
use Rattle.sheet.specs.Grid.{no_origins}
use Rattle.xterm_term.specs.Seen.{Seen, IsTerminal}

-- the same terminal, of which no line's origin is known
abbrev pub touched_whole : Seen → Seen
touched_whole seen = record seen { origins = no_origins seen.console.picture.lines }

abbrev pub packed_seen : Fields → Seen
packed_seen t = record {
  console = record {
    picture = t.screen;
    modes = t.modes;
    rendition = t.rendition;
    sets = t.sets;
    last = t.last;
    title = t.title;
    main_saved = t.main_saved;
    alternate_saved = t.alternate_saved;
  };
  state = t.parser;
  character = t.decoder;
  origins = no_origins t.screen.lines;
}

-- it is some terminal, and of the size that it tells
pub record IsPacked (t : Fields) : Type 0 where
  pub terminal : IsTerminal (packed_seen t)
  pub columns : t.columns ≡ t.screen.columns
  pub lines : t.lines ≡ t.screen.lines
