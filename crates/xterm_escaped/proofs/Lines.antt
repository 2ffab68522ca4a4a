-- The lines are drawn one after another, and the whole text.
use Rattle.std.proofs.Common.{◌≡◌, ℕ, ◌≤◌, Bool, true, false, List, [], ◌∷◌, ◌++◌, refl, sym, ap, ap₂, ◌∙◌, arith, lit<, append_assoc}
use Rattle.std.specs.Prelude.{decimal, nat_le, ◌==◌}
use Rattle.std.proofs.lemmas.Bool.Decides.{nat_tests}
use Rattle.vt_parser.specs.Decimals.{params_text}
use Rattle.vt_parser.specs.Syntax.{escape}
use Rattle.sheet.specs.declared.rendition.Rendition.{Rendition}
use Rattle.sheet.specs.Cells.{Cell}
use Rattle.xterm_screen.specs.Moves.{placed}
use Rattle.xterm_screen.specs.Picture.{Picture}
use Rattle.xterm_term.specs.Console.{Console, on_picture}
use Rattle.xterm_term.specs.Sequences.{param_or}
use Rattle.xterm_escaped.specs.EscapedText.{placed_text}
use Rattle.xterm_escaped.proofs.Cells.{LawsBelow}
use Rattle.xterm_escaped.proofs.Led.{Leads, ended, leads_as, sequence_leads}
use Rattle.xterm_escaped.proofs.Params.{are_params, IsShort, low_text}
use Rattle.xterm_escaped.proofs.Shown.{drawing}

-- CUP to a place of the screen
pub short_place : (line column : ℕ) → line ≤ 9999 → column ≤ 9999 → IsShort 16 (line ∷ column ∷ [])
short_place line column low high =
    let first : nat_le line 9999 ≡ true = grind (arith, nat_tests) in
    let second : nat_le column 9999 ≡ true = grind (arith, nat_tests) in
    record { few = omega arith; all = simp (first, second) }

pub first_given : (line column : ℕ) → 1 ≤ line → param_or (line ∷ column ∷ []) 0 1 ≡ line
first_given line column low = let test : (line == 0) ≡ false = grind (arith, nat_tests) in simp test

pub second_given : (line column : ℕ) → 1 ≤ column → param_or (line ∷ column ∷ []) 1 1 ≡ column
second_given line column low = let test : (column == 0) ≡ false = grind (arith, nat_tests) in simp test

placed_there : (line column : ℕ) (p : Picture) → line ≤ p.lines → column ≤ p.columns
    → placed line column false p ≡ record p { line = line; column = column; wrap = false }
placed_there line column p high within =
    ap₂ (λ (l k : ℕ). let q : Picture = record p { line = l; column = k; wrap = false } in q) (omega arith) (omega arith)

pub grouped : (a b : List ℕ) → (a ++ (59 ∷ []) ++ b) ≡ a ++ 59 ∷ b
grouped a b = append_assoc a (59 ∷ []) b

pub place_leads : LawsBelow → (c : Console) (rows : List (List Cell)) (l k : ℕ) (wrap : Bool) (r : Rendition) (line column : ℕ) → c.title ≡ false
    → c.modes.origin ≡ false → c.picture.lines ≤ 9999 → c.picture.columns ≤ 9999 → 1 ≤ line → line ≤ c.picture.lines → 1 ≤ column → column ≤ c.picture.columns
    → Leads (drawing c rows l k wrap r) (placed_text line column) (drawing c rows line column false r)
unfolding placed_text
place_leads laws c rows l k wrap r line column title origin few narrow line_low line_high column_low column_high =
    let s : Console = drawing c rows l k wrap r in
    let t : Console = drawing c rows line column false r in
    let numbers : List ℕ = line ∷ column ∷ [] in
    let short = short_place line column (omega arith) (omega arith) in
    leads_as s t t (escape ∷ 91 ∷ (params_text numbers ++ 72 ∷ [])) _
    (sequence_leads laws.sequences s t numbers 72 title (are_params numbers (lit< tt) short) (low_text numbers short.all) refl
    (λ last. ap₂ (λ (a b : ℕ). on_picture (placed a b c.modes.origin) (ended last s)) (first_given line column line_low) (second_given line column column_low)
    ∙ ap (λ o. on_picture (placed line column o) (ended last s)) origin
    ∙ ap (λ (p : Picture). let u : Console = record (ended last s) { picture = p } in u) (placed_there line column s.picture line_high column_high))
    (λ last. refl))
    (ap (λ t. escape ∷ 91 ∷ (t ++ 72 ∷ [])) (sym (grouped (decimal line) (decimal column)))) refl
