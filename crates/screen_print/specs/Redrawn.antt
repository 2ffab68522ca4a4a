-- What the escaped print draws again.
use Rattle.std.specs.Prelude.{◌≡◌, []}
use Rattle.vt_term.specs.declared.profile.Profile.{Profile}
use Rattle.vt_term.specs.Term.{Term, reset_term_as, play}
use Rattle.screen_print.specs.EscapedText.{escaped_text}

-- the second term shows what the first one shows: columns, sizes and cells, reversed flag, cursor; and
-- nothing is pending in it, and nothing was sent
pub record ShowsAgain (x again : Term) : Type 0 where
  pub columns : again.console.picture.wide ≡ x.console.picture.wide
  pub rows : again.console.picture.rows ≡ x.console.picture.rows
  pub reversed : again.console.modes.reverse_screen ≡ x.console.modes.reverse_screen
  pub line : again.console.picture.line ≡ x.console.picture.line
  pub column : again.console.picture.column ≡ x.console.picture.column
  pub pending : again.pending ≡ []
  pub reports : again.reports ≡ []

-- the escaped text of a term, played from the reset term of either profile, shows it again
abbrev pub DrawsAgain : Term → Type 0
DrawsAgain x =
    (profile : Profile) → ShowsAgain x (play (reset_term_as profile) (escaped_text x.console))
