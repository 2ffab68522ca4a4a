use Rattle.std.proofs.Common.{refl}
use Rattle.std.specs.Fmt.{digits}
use Rattle.tape_core.specs.Written.{seconds_form}
use Rattle.xterm_page.specs.EntryText.{entry_front, entry_text, next_text}
use Rattle.xterm_page.specs.Parts.{first_text}
use Rattle.xterm_page.proofs.page_file.first_text.Goals as goal

pub returns : goal.returns
unfolding first_text next_text entry_text entry_front seconds_form digits
returns c = refl
