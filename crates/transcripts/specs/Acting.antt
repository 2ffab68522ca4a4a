-- Private: where a byte comes, as the code says it.
use Rattle.transcripts.specs.declared.home.Place.{Place}
use Rattle.transcripts.specs.declared.home.Place.TheVariants.{Ground, Sequence, Text}
use Rattle.vt_parser.specs.declared.syntax.Context.{Context}
use Rattle.vt_parser.specs.declared.syntax.Context.TheVariants as context

-- that column of the parser's table
abbrev pub place_in : Place → Context
place_in Ground = context.Ground
place_in Sequence = context.Sequence
place_in Text = context.Text
