use Rattle.std.proofs.Common.{subst, sym}
use Rattle.tape_core.specs.Devices.{Gave}
use Rattle.vt_term.specs.Console.{Console}
use Rattle.screen_print.specs.Stills.{still_of}
use Rattle.screen_print.specs.Walk.{still_by}
use Rattle.screen_page.specs.Entries.{entry_of}
use Rattle.screen_page.specs.EntryText.{next_text}
use Rattle.screen_page.proofs.entry_printer.EntryPrinterVisitorTerminal.visit.Goals as goal

pub returns-clause-gave : goal.returns-clause-gave
returns-clause-gave g c = λ profile before after are shows told.
    subst (λ (s : Console). Gave g.W.Write.contents c.args.writer.now c.put_seen.new.writer (next_text (entry_of c.args.due (still_by profile before) (still_of s))))
    (sym shows.console) (c.put_seen.ensures.gave (still_by profile before) (sym are))
