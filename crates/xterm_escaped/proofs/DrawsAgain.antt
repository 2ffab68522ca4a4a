-- The escaped print of a terminal, played from a reset one, shows it again.
use Rattle.std.proofs.Common.{◌≡◌, ℕ, ◌+◌, ◌<◌, Bool, true, false, List, [], ◌∷◌, ◌++◌, refl, ap, ◌∙◌, arith, lit<, append-nil, not}
use Rattle.std.specs.Prelude.{codes, decimal, None}
use Rattle.std.proofs.lemmas.Fmt.{decimal_digit, decimal_step}
use Rattle.std.proofs.Math.Dec.{lit≤}
use Rattle.characters.specs.Law.{AsciiIsNarrow}
use Rattle.vt_parser.specs.Decimals.{params_text}
use Rattle.vt_parser.specs.Syntax.{escape}
use Rattle.sheet.specs.declared.rendition.Rendition.{Rendition}
use Rattle.sheet.specs.Cells.{Cell}
use Rattle.xterm_screen.specs.Picture.{Sound}
use Rattle.xterm_term.specs.Console.{Console, reset_console}
use Rattle.xterm_term.specs.Renditions.{rendition_set, renditions_set}
use Rattle.xterm_term.specs.Term.{Term}
use Rattle.xterm_escaped.specs.EscapedText.{closing_text, escaped_text, lines_text, no_rendition, opening_text, placed_text, text_where}
use Rattle.xterm_escaped.specs.Redrawn.{DrawsAgain}
use Rattle.xterm_escaped.proofs.Cells.{LawsBelow}
use Rattle.xterm_escaped.proofs.FittingTerms.{Fit}
use Rattle.xterm_escaped.proofs.Led.{Leads, ended, leads_as, leads_both, leads_none, private_leads, sequence_leads}
use Rattle.xterm_escaped.proofs.Lines.{place_leads}
use Rattle.xterm_escaped.proofs.LinesDrawn.{no_rows_to, rows_to, sheet_leads}
use Rattle.xterm_escaped.proofs.Numbers.{params_further}
use Rattle.xterm_escaped.proofs.Params.{are_params, low_text}
use Rattle.xterm_escaped.proofs.Shown.{canvas, drawing}

-- one number of one digit, and 25
pub digit_alone : (n : ℕ) → n < 10 → params_text (n ∷ []) ≡ (48 + n) ∷ []
digit_alone n small = params_further n [] ∙ append-nil (decimal n) ∙ decimal_digit n small

pub digits_25 : params_text (25 ∷ []) ≡ 50 ∷ 53 ∷ []
digits_25 =
    params_further 25 [] ∙ append-nil (decimal 25) ∙ decimal_step 25 (lit≤ tt) (lit< tt)
    ∙ ap (λ digits. digits ++ 53 ∷ []) (decimal_digit 2 (lit< tt))

-- the same with a cursor that is hidden or not
abbrev showing : Bool → Console → Console
showing shown c = record c { modes = record c.modes { cursor_shown = shown } }

none_set : (r : Rendition) → renditions_set 0 (0 ∷ []) r ≡ no_rendition
unfolding renditions_set rendition_set
none_set r = refl

module _ (laws : LawsBelow) where
  -- a reversed screen
  opened : (columns lines : ℕ) (reversed : Bool)
      → Leads (reset_console columns lines) (text_where reversed (escape ∷ codes "[?5h")) (canvas columns lines reversed)
  opened columns lines false = leads_none (reset_console columns lines)
  opened columns lines true =
      let s : Console = reset_console columns lines in
      let t : Console = canvas columns lines true in
      let numbers : List ℕ = 5 ∷ [] in
      leads_as s t t (escape ∷ 91 ∷ 63 ∷ (params_text numbers ++ 104 ∷ [])) (escape ∷ codes "[?5h")
      (private_leads laws.privates s t numbers 104 refl (are_params numbers (omega arith) (record { few = omega arith; all = refl })) (low_text numbers refl) refl (λ l. refl))
      (ap (λ text. escape ∷ 91 ∷ 63 ∷ (text ++ 104 ∷ [])) (digit_alone 5 (lit< tt))) refl

  module _ (c : Console) (title : c.title ≡ false) (rows : List (List Cell)) (at column : ℕ) (wrap : Bool) where
    -- no rendition
    plain : (r : Rendition) → Leads (drawing c rows at column wrap r) (escape ∷ codes "[0m") (drawing c rows at column wrap no_rendition)
    plain r =
        let s : Console = drawing c rows at column wrap r in
        let t : Console = drawing c rows at column wrap no_rendition in
        let numbers : List ℕ = 0 ∷ [] in
        leads_as s t t (escape ∷ 91 ∷ (params_text numbers ++ 109 ∷ [])) (escape ∷ codes "[0m")
        (sequence_leads laws.sequences s t numbers 109 title (are_params numbers (omega arith) (record { few = omega arith; all = refl })) (low_text numbers refl) refl
        (λ l. ap (λ q. let u : Console = ended l (drawing c rows at column wrap q) in u) (none_set r)) (λ l. refl))
        (ap (λ text. escape ∷ 91 ∷ (text ++ 109 ∷ [])) (digit_alone 0 (lit< tt))) refl

    -- a hidden cursor
    hidden : (shown : Bool) → c.modes.cursor_shown ≡ true
        → Leads (drawing c rows at column wrap no_rendition) (text_where (not shown) (escape ∷ codes "[?25l")) (drawing (showing shown c) rows at column wrap no_rendition)
    hidden true was =
        let s : Console = drawing c rows at column wrap no_rendition in
        let t : Console = drawing (showing true c) rows at column wrap no_rendition in
        leads_as s s t [] [] (leads_none s) refl (ap (λ b. let u : Console = drawing (showing b c) rows at column wrap no_rendition in u) was)
    hidden false was =
        let s : Console = drawing c rows at column wrap no_rendition in
        let t : Console = drawing (showing false c) rows at column wrap no_rendition in
        let numbers : List ℕ = 25 ∷ [] in
        leads_as s t t (escape ∷ 91 ∷ 63 ∷ (params_text numbers ++ 108 ∷ [])) (escape ∷ codes "[?25l")
        (private_leads laws.privates s t numbers 108 title (are_params numbers (omega arith) (record { few = omega arith; all = refl })) (low_text numbers refl) refl (λ l. refl))
        (ap (λ text. escape ∷ 91 ∷ 63 ∷ (text ++ 108 ∷ [])) digits_25) refl

  module _ (ascii : AsciiIsNarrow) (x : Term) (sound : Sound x.console.picture) (fit : Fit x.console) where
    abbrev columns : ℕ
    columns = x.console.picture.columns

    abbrev lines : ℕ
    lines = x.console.picture.lines

    abbrev rows : List (List Cell)
    rows = x.console.picture.rows

    abbrev blank_canvas : Console
    blank_canvas = canvas columns lines x.console.modes.reverse_screen

    abbrev shown_canvas : Console
    shown_canvas = showing x.console.modes.cursor_shown blank_canvas

    abbrev end : Console
    end = drawing shown_canvas rows x.console.picture.line x.console.picture.column false no_rendition

    all_leads : Leads (reset_console columns lines) (escaped_text x.console) end
    unfolding escaped_text closing_text
    all_leads =
        let columns_low = sound.columns_low in let columns_high = sound.columns_high in let lines_high = sound.lines_high in
        let line_low = sound.line_low in let line_high = sound.line_high in let column_low = sound.column_low in let column_high = sound.column_high in
        let long = fit.picture.rows_long in
        let sheet = sheet_leads laws ascii blank_canvas (record { canvas = record { autowrap = refl; insert = refl }; title = refl; set = refl }) refl
        (omega arith) (omega arith) columns_low rows fit.picture.rows (omega arith) in
        let s : Console = reset_console columns lines in
        let t : Console = drawing blank_canvas (rows_to 0 columns rows) 1 1 false no_rendition in
        let u : Console = drawing blank_canvas rows sheet.at sheet.column sheet.wrap sheet.rendition in
        let v : Console = drawing blank_canvas rows sheet.at sheet.column sheet.wrap no_rendition in
        let w : Console = drawing shown_canvas rows sheet.at sheet.column sheet.wrap no_rendition in
        let hides = text_where (not x.console.modes.cursor_shown) (escape ∷ codes "[?25l") in
        let place = placed_text x.console.picture.line x.console.picture.column in
        let first = leads_as s blank_canvas t (opening_text x.console) (opening_text x.console) (opened columns lines x.console.modes.reverse_screen) refl
        (ap (λ rs. drawing blank_canvas rs 1 1 false no_rendition) (no_rows_to columns lines rows long)) in
        let closes = leads_both u w end (escape ∷ codes "[0m" ++ hides) place
        (leads_both u v w (escape ∷ codes "[0m") hides (plain blank_canvas refl rows sheet.at sheet.column sheet.wrap sheet.rendition)
        (hidden blank_canvas refl rows sheet.at sheet.column sheet.wrap x.console.modes.cursor_shown refl))
        (place_leads laws shown_canvas rows sheet.at sheet.column sheet.wrap no_rendition x.console.picture.line x.console.picture.column refl refl
        (omega arith) (omega arith) line_low line_high column_low column_high) in
        leads_both s u end (opening_text x.console ++ lines_text no_rendition 1 rows) (closing_text x.console)
        (leads_both s t u (opening_text x.console) (lines_text no_rendition 1 rows) first sheet.leads) closes

    pub draws_again : DrawsAgain x
    draws_again =
        let done = all_leads None [] in
        let same = done.1 in
        record {
          rows = ap (λ (y : Term). y.console.picture.rows) same;
          reversed = ap (λ (y : Term). y.console.modes.reverse_screen) same;
          line = ap (λ (y : Term). y.console.picture.line) same;
          column = ap (λ (y : Term). y.console.picture.column) same;
          shown = ap (λ (y : Term). y.console.modes.cursor_shown) same;
          sequence = ap (λ (y : Term). y.sequence) same;
          character = ap (λ (y : Term). y.character) same;
          reports = ap (λ (y : Term). y.reports) same;
        }
