use Rattle.std.proofs.Common.{refl}
use Rattle.std.specs.Fmt.{digits}
use Rattle.tape_core.specs.Written.{seconds_form}
use Rattle.screen_page.specs.Parts.{first_text}
use Rattle.screen_page.proofs.page_file.first_text.Goals as goal

pub returns : goal.returns
unfolding first_text seconds_form digits
returns c = refl
