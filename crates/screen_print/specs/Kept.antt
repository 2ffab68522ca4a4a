-- Private: what is kept of a terminal from chunk to chunk.
use Rattle.std.specs.Prelude.{◌≡◌, true}
use Rattle.vt_term.specs.Seen.{Seen}
use Rattle.screen_print.specs.declared.each_byte.Kept.{Kept}
use Rattle.screen_print.specs.Stills.{still_of}

-- another terminal shows the same
pub record IsLike (seen other : Seen) : Type 0 where
  pub console : other.console ≡ seen.console
  pub state : other.state ≡ seen.state

-- all stills are alike
pub record AreAlike (kept : Kept) : Type 0 where
  pub last : kept.last.now ≡ kept.first.now
  pub before : kept.stills.before.now ≡ kept.first.now
  pub after : kept.stills.after.now ≡ kept.first.now

-- the second terminal shows the same, and the first still is of it
pub record IsCurrent (seen : Seen) (kept : Kept) : Type 0 where
  pub like : IsLike seen kept.terminal.now
  pub first : kept.first.now ≡ still_of seen.console

-- what is kept: stills that are alike, and where it is said to be current it is
pub record IsKeptOf (seen : Seen) (kept : Kept) : Type 0 where
  pub alike : AreAlike kept
  pub current : kept.current ≡ true → IsCurrent seen kept
