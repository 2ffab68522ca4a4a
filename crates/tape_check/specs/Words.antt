-- The words that are looked for in a typescript, and those that are written.
use Rattle.std.specs.Prelude.{ℕ, List, [], ◌∷◌, ◌++◌, codes}
use Rattle.tape_check.specs.declared.words.Word.{Word}
use Rattle.tape_check.specs.declared.words.Word.TheVariants.{Opening, Closing, NotExecuted, TermLabel, ColumnsLabel, LinesLabel, EightyColumns, TwentyFourLines, Vt52, Vt100, Vt102, Xterm, Screen, Tmux, Linux, Vt220, Rxvt, Alacritty, Kitty, Foot, St, Gnome, Konsole, Putty, Ansi, Started, Term, Size, Note, NoHeader, OtherSize, PlayedSize, OtherTerm, PlayedTerm, HighBytes, NoUtf8, NotUtf8, Trailing, NeverShown, Resizes, LeftOut, Sessions, MoreSessions, Unplayed, Try, Beginning, Separator, Ending, EndingTry}

-- each word's bytes
unfoldable pub text_of : Word → List ℕ
-- what script(1) writes
text_of Opening = codes "Script started on "
text_of Closing = 10 ∷ codes "Script done on "
text_of NotExecuted = codes "<not executed on terminal>]"
text_of TermLabel = codes "TERM=" ++ 34 ∷ []
text_of ColumnsLabel = codes "COLUMNS=" ++ 34 ∷ []
text_of LinesLabel = codes "LINES=" ++ 34 ∷ []
-- the screen that is played, and the names of terminals
text_of EightyColumns = codes "80"
text_of TwentyFourLines = codes "24"
text_of Vt52 = codes "vt52"
text_of Vt100 = codes "vt100"
text_of Vt102 = codes "vt102"
text_of Xterm = codes "xterm"
text_of Screen = codes "screen"
text_of Tmux = codes "tmux"
text_of Linux = codes "linux"
text_of Vt220 = codes "vt220"
text_of Rxvt = codes "rxvt"
text_of Alacritty = codes "alacritty"
text_of Kitty = codes "kitty"
text_of Foot = codes "foot"
text_of St = codes "st"
text_of Gnome = codes "gnome"
text_of Konsole = codes "konsole"
text_of Putty = codes "putty"
text_of Ansi = codes "ansi"
-- facts
text_of Started = codes "started "
text_of Term = codes "term "
text_of Size = codes "size "
-- notes
text_of Note = codes "note "
text_of NoHeader = codes "header: not script's"
text_of OtherSize = codes "size: recorded at "
text_of PlayedSize = codes ", played at "
text_of OtherTerm = codes "term: recorded under "
text_of PlayedTerm = codes ", played as "
text_of HighBytes = codes "bytes: "
text_of NoUtf8 = codes " from 128 on: this terminal has no UTF-8"
text_of NotUtf8 = codes " parts that are no UTF-8"
text_of Trailing = codes "trailer: "
text_of NeverShown = codes " bytes behind the last chunk are never shown"
text_of Resizes = codes "resizes: "
text_of LeftOut = codes " left out"
text_of Sessions = codes "sessions: "
text_of MoreSessions = codes " more in the trailer"
-- unplayed sequences
text_of Unplayed = codes "unplayed "
-- the advice
text_of Try = codes "try --profile xterm" ++ 10 ∷ []
-- the line on standard error
text_of Beginning = codes "typetool: note: "
text_of Separator = codes "; "
text_of Ending = codes " (see typetool check)" ++ 10 ∷ []
text_of EndingTry = codes " (see typetool check, or try --profile xterm)" ++ 10 ∷ []
