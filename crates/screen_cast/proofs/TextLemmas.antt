-- Texts that are laid out, slot by slot.
use Rattle.std.proofs.Common.{◌≡◌, ℕ, ◌<◌, ◌≤◌, All, Bool, List, None, Option, ap, get_or, get_or-set_same, inl, inr, length, set, subst, sym, ◌∙◌}
use Rattle.std.proofs.lemmas.Bool.{cases_lt}
use Rattle.std.proofs.lemmas.List.{get_or_past, length-set}
use Rattle.std.proofs.lemmas.List.Elements.{All-get_or}
use Rattle.vt_screen.specs.declared.cell.Row.{Row}
use Rattle.vt_screen.specs.Cells.{row_at}
use Rattle.vt_screen.specs.Slots.{ScreenState, slot_at}
use Rattle.screen_rows.specs.KeptRows.{IsFrom, Kept}
use Rattle.screen_cast.specs.Texts.{AreTexts, IsText}

-- the text of a line that had the row of another one in its slot
pub text_from : (kept : Kept) (s : ScreenState) (texts : List (Option (List ℕ))) (was reversed : Bool) (line source : ℕ)
    → AreTexts was kept.order kept.rows texts → IsFrom kept s line source → 1 ≤ source → was ≡ reversed
    → IsText reversed (row_at s.picture.rows line) (get_or texts (slot_at s.order line) None)
text_from kept s texts was reversed line source are from some same =
    let own = are source some from.high in
    subst (λ (b : Bool). IsText b (row_at s.picture.rows line) (get_or texts (slot_at s.order line) None)) same
    (subst (λ (row : Row). IsText was row (get_or texts (slot_at s.order line) None)) (from.row some)
    (subst (λ (slot : ℕ). IsText was (row_at kept.rows source) (get_or texts slot None)) (from.slot some) own))

-- no text is that of any row
no_text : (reversed : Bool) (row : Row) (text : Option (List ℕ)) → text ≡ None → IsText reversed row text
no_text reversed row text none = subst (IsText reversed row) (sym none) tt

-- what is none where there is something is none past the end too
none_at : (texts : List (Option (List ℕ))) (slot : ℕ) → (slot < length texts → get_or texts slot None ≡ None) → get_or texts slot None ≡ None
none_at texts slot there = elim (cases_lt slot (length texts)) [
  | inl within ↦ there within
  | inr past ↦ get_or_past texts slot None past
]

-- where no text was laid out
pub no_texts : (texts : List (Option (List ℕ))) (reversed : Bool) (order : List ℕ) (rows : List Row)
    → All (λ text. text ≡ None) texts → AreTexts reversed order rows texts
no_texts texts reversed order rows none = λ line low high.
    let slot = slot_at order line in
    no_text reversed (row_at rows line) (get_or texts slot None) (none_at texts slot (λ within. All-get_or (λ text. text ≡ None) texts slot None within none))

-- a text that is forgotten
pub forgotten : (reversed : Bool) (row : Row) (texts : List (Option (List ℕ))) (slot name : ℕ) → slot ≡ name
    → IsText reversed row (get_or (set texts slot None) name None)
forgotten reversed row texts slot name is =
    let there = none_at (set texts slot None) slot (λ within. get_or-set_same texts slot None None (subst (λ (n : ℕ). slot < n) (length-set texts slot None) within)) in
    no_text reversed row (get_or (set texts slot None) name None) (ap (λ (n : ℕ). get_or (set texts slot None) n None) (sym is) ∙ there)
