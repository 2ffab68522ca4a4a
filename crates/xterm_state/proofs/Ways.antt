-- The console on the way to another, and the sequences that lead there.
use Rattle.std.proofs.Common.{◌≡◌, ℕ, ◌≤◌, Bool, true, false, List, [], ◌∷◌, ◌++◌, refl, sym, ap, ap₂, ◌∙◌, lit<}
use Rattle.std.proofs.Math.Dec.{lit≤}
use Rattle.std.specs.Prelude.{codes, decimal, Option, Some, None, if◌then◌else◌}
use Rattle.std.proofs.lemmas.List.{append-nil}
use Rattle.vt_parser.specs.declared.commands.Command.TheVariants.{Esc}
use Rattle.vt_parser.specs.Decimals.{params_text}
use Rattle.vt_parser.specs.Forms.{is_whole, meaning}
use Rattle.vt_parser.specs.Step.{context_of, command_of, pending_after}
use Rattle.vt_parser.specs.Syntax.{escape}
use Rattle.sheet.specs.declared.rendition.Rendition.{Rendition}
use Rattle.sheet.specs.Cells.{Cell}
use Rattle.xterm_screen.specs.Moves.{placed}
use Rattle.xterm_screen.specs.Picture.{Picture, reset}
use Rattle.xterm_screen.specs.Tabs.{tab_made}
use Rattle.xterm_term.specs.declared.saved.Saved.{Saved}
use Rattle.xterm_term.specs.declared.sets.CharacterSet.{CharacterSet}
use Rattle.xterm_term.specs.declared.sets.CharacterSet.TheVariants.{Ascii, Uk, SpecialGraphics}
use Rattle.xterm_term.specs.declared.sets.Sets.{Sets}
use Rattle.xterm_term.specs.declared.sets.Slot.{Slot}
use Rattle.xterm_term.specs.declared.sets.Slot.TheVariants.{G0, G1}
use Rattle.xterm_term.specs.Console.{Console, on_picture, reset_console}
use Rattle.xterm_term.specs.Effect.{effect, reply}
use Rattle.xterm_term.specs.Escapes.{saved, saved_from}
use Rattle.xterm_term.specs.Term.{play}
use Rattle.xterm_escaped.specs.EscapedText.{placed_text, rendition_set_text, text_where}
use Rattle.xterm_escaped.proofs.Cells.{IsByteRendition, LawsBelow, set_leads}
use Rattle.xterm_escaped.proofs.DrawsAgain.{digit_alone}
use Rattle.xterm_escaped.proofs.Led.{behind, ended, leads_as, sequence_leads, stepped_by, whole_leads}
use Rattle.xterm_escaped.proofs.Lines.{first_given, grouped, second_given, short_place}
use Rattle.xterm_escaped.proofs.Params.{are_params, low_text}
use Rattle.xterm_escaped.proofs.Shown.{drawing}
use Rattle.xterm_state.specs.StateText.{in_force_text, set_byte, sets_text, slot_byte}
use Rattle.xterm_state.proofs.Brings.{Brings, brings_as, joined, nothing_brings, private_brings}

-- with these tab stops, rows of the sheet that isn't shown, margins and saves, and else what is there at first
abbrev pub way : ℕ → ℕ → List Bool → List (List Cell) → Bool → ℕ → ℕ → Option Saved → Option Saved → Console
way columns lines tabs other alternate top bottom main_saved alternate_saved = record (reset_console columns lines) {
  picture = record (reset columns lines) { tabs = tabs; other = other; alternate = alternate; top = top; bottom = bottom };
  main_saved = main_saved;
  alternate_saved = alternate_saved;
}

-- lines are counted from the top margin or not, with these sets
abbrev pub counting : Bool → Sets → Console → Console
counting origin sets c = record c { modes = record c.modes { origin = origin }; sets = sets }

-- ---- places

pub goes_brings : LawsBelow → (c : Console) (rows : List (List Cell)) (l k : ℕ) (wrap : Bool) (r : Rendition) (line column to : ℕ) → c.title ≡ false
    → 1 ≤ line → line ≤ 9999 → 1 ≤ column → column ≤ 9999
    → placed line column c.modes.origin (drawing c rows l k wrap r).picture ≡ (drawing c rows to column false r).picture
    → Brings (drawing c rows l k wrap r) (placed_text line column) (drawing c rows to column false r)
unfolding placed_text
goes_brings laws c rows l k wrap r line column to title line_low line_high column_low column_high there =
    let s : Console = drawing c rows l k wrap r in
    let t : Console = drawing c rows to column false r in
    let numbers : List ℕ = line ∷ column ∷ [] in
    let short = short_place line column line_high column_high in
    record {
      leads = leads_as s t t (escape ∷ 91 ∷ (params_text numbers ++ 72 ∷ [])) _
          (sequence_leads laws.sequences s t numbers 72 title (are_params numbers (lit< tt) short) (low_text numbers short.all) refl
          (λ last. ap₂ (λ (a b : ℕ). on_picture (placed a b c.modes.origin) (ended last s)) (first_given line column line_low) (second_given line column column_low)
          ∙ ap (λ (p : Picture). let u : Console = record (ended last s) { picture = p } in u) there)
          (λ last. refl))
          (ap (λ text. escape ∷ 91 ∷ (text ++ 72 ∷ [])) (sym (grouped (decimal line) (decimal column)))) refl;
    }

-- DECOM, which goes home
pub counts : LawsBelow → (c : Console) (rows : List (List Cell)) (l k : ℕ) (wrap : Bool) (r : Rendition) → c.title ≡ false
    → Brings (drawing c rows l k wrap r) (escape ∷ codes "[?6h") (drawing (counting true c.sets c) rows c.picture.top 1 false r)
counts laws c rows l k wrap r title =
    private_brings laws (drawing c rows l k wrap r) (drawing (counting true c.sets c) rows c.picture.top 1 false r) 6 104 (54 ∷ []) (digit_alone 6 (lit< tt)) (lit≤ tt) title refl (λ l. refl)

pub uncounts : LawsBelow → (c : Console) (rows : List (List Cell)) (l k : ℕ) (wrap : Bool) (r : Rendition) → c.title ≡ false
    → Brings (drawing c rows l k wrap r) (escape ∷ codes "[?6l") (drawing (counting false c.sets c) rows 1 1 false r)
uncounts laws c rows l k wrap r title =
    private_brings laws (drawing c rows l k wrap r) (drawing (counting false c.sets c) rows 1 1 false r) 6 108 (54 ∷ []) (digit_alone 6 (lit< tt)) (lit≤ tt) title refl (λ l. refl)

-- .. where it is to be
pub counted : LawsBelow → (c : Console) (rows : List (List Cell)) (l k : ℕ) (wrap : Bool) (r : Rendition) (origin : Bool) → c.title ≡ false → c.modes.origin ≡ false
    → (at : ℕ) × (column : ℕ) × (pending : Bool)
    × Brings (drawing c rows l k wrap r) (text_where origin (escape ∷ codes "[?6h")) (drawing (counting origin c.sets c) rows at column pending r)
counted laws c rows l k wrap r true title was = (c.picture.top, 1, false, counts laws c rows l k wrap r title)
counted laws c rows l k wrap r false title was =
    (l, k, wrap, brings_as (nothing_brings (drawing c rows l k wrap r)) refl (ap (λ b. drawing (counting b c.sets c) rows l k wrap r) was))

-- ---- escape sequences

pub hts_brings : (s : Console) → s.title ≡ false → Brings s (escape ∷ codes "H") (record s { picture = tab_made true s.picture })
unfolding context_of command_of pending_after is_whole meaning effect reply
hts_brings s title = record {
  leads = whole_leads s (record s { picture = tab_made true s.picture }) (27 ∷ 72 ∷ []) (Esc None 72) title refl ((refl, refl), refl) (λ l. refl) (λ l. refl);
}

saved_alike : (b : Bool) (last : Option ℕ) (s : Console)
    → (if b then record (ended last s) { alternate_saved = Some (saved_from s) } else record (ended last s) { main_saved = Some (saved_from s) })
    ≡ ended last (if b then record s { alternate_saved = Some (saved_from s) } else record s { main_saved = Some (saved_from s) })
saved_alike true last s = refl
saved_alike false last s = refl

pub decsc_brings : (s : Console) → s.title ≡ false → Brings s (escape ∷ codes "7") (saved s)
unfolding context_of command_of pending_after is_whole meaning effect reply
decsc_brings s title = record {
  leads = whole_leads s (saved s) (27 ∷ 55 ∷ []) (Esc None 55) title refl ((refl, refl), refl) (λ l. saved_alike s.picture.alternate l s) (λ l. refl);
}

-- ---- sets

first_set_brings : (s : Console) (set : CharacterSet) → s.title ≡ false → Brings s (escape ∷ 40 ∷ set_byte set ∷ []) (record s { sets = record s.sets { g0 = set } })
unfolding context_of command_of pending_after is_whole meaning effect reply
first_set_brings s Ascii title = record { leads = whole_leads s (record s { sets = record s.sets { g0 = Ascii } }) (27 ∷ 40 ∷ 66 ∷ []) (Esc (Some 40) 66) title refl ((refl, (refl, refl)), refl) (λ l. refl) (λ l. refl) }
first_set_brings s Uk title = record { leads = whole_leads s (record s { sets = record s.sets { g0 = Uk } }) (27 ∷ 40 ∷ 65 ∷ []) (Esc (Some 40) 65) title refl ((refl, (refl, refl)), refl) (λ l. refl) (λ l. refl) }
first_set_brings s SpecialGraphics title = record { leads = whole_leads s (record s { sets = record s.sets { g0 = SpecialGraphics } }) (27 ∷ 40 ∷ 48 ∷ []) (Esc (Some 40) 48) title refl ((refl, (refl, refl)), refl) (λ l. refl) (λ l. refl) }

second_set_brings : (s : Console) (set : CharacterSet) → s.title ≡ false → Brings s (escape ∷ 41 ∷ set_byte set ∷ []) (record s { sets = record s.sets { g1 = set } })
unfolding context_of command_of pending_after is_whole meaning effect reply
second_set_brings s Ascii title = record { leads = whole_leads s (record s { sets = record s.sets { g1 = Ascii } }) (27 ∷ 41 ∷ 66 ∷ []) (Esc (Some 41) 66) title refl ((refl, (refl, refl)), refl) (λ l. refl) (λ l. refl) }
second_set_brings s Uk title = record { leads = whole_leads s (record s { sets = record s.sets { g1 = Uk } }) (27 ∷ 41 ∷ 65 ∷ []) (Esc (Some 41) 65) title refl ((refl, (refl, refl)), refl) (λ l. refl) (λ l. refl) }
second_set_brings s SpecialGraphics title = record { leads = whole_leads s (record s { sets = record s.sets { g1 = SpecialGraphics } }) (27 ∷ 41 ∷ 48 ∷ []) (Esc (Some 41) 48) title refl ((refl, (refl, refl)), refl) (λ l. refl) (λ l. refl) }

-- SI and SO
slot_brings : (s : Console) (slot : Slot) → s.title ≡ false → Brings s (slot_byte slot ∷ []) (record s { sets = record s.sets { invoked = slot } })
unfolding play context_of command_of pending_after effect reply
slot_brings s G0 title = record {
  leads = λ last reports. (None, stepped_by (ended last s) [] reports 15 title refl ∙ ap (behind (ended None (record s { sets = record s.sets { invoked = G0 } })) []) (append-nil reports));
}
slot_brings s G1 title = record {
  leads = λ last reports. (None, stepped_by (ended last s) [] reports 14 title refl ∙ ap (behind (ended None (record s { sets = record s.sets { invoked = G1 } })) []) (append-nil reports));
}

pub sets_bring : (s : Console) (sets : Sets) → s.title ≡ false → Brings s (sets_text sets) (record s { sets = sets })
sets_bring s sets title =
    let one : Console = record s { sets = record s.sets { g0 = sets.g0 } } in
    let two : Console = record s { sets = record s.sets { g0 = sets.g0; g1 = sets.g1 } } in
    joined (joined (first_set_brings s sets.g0 title) (second_set_brings one sets.g1 title)) (slot_brings two sets.invoked title)

-- .. and a rendition
pub rendition_brings : LawsBelow → (c : Console) (rows : List (List Cell)) (l k : ℕ) (wrap : Bool) (last r : Rendition) → c.title ≡ false → IsByteRendition r
    → Brings (drawing c rows l k wrap last) (rendition_set_text r) (drawing c rows l k wrap r)
rendition_brings laws c rows l k wrap last r title is = record { leads = set_leads laws c title rows l k wrap last r is }

pub in_force_brings : LawsBelow → (c : Console) (rows : List (List Cell)) (l k : ℕ) (wrap : Bool) (last r : Rendition) (sets : Sets) → c.title ≡ false → IsByteRendition r
    → Brings (drawing c rows l k wrap last) (in_force_text r sets) (drawing (record c { sets = sets }) rows l k wrap r)
in_force_brings laws c rows l k wrap last r sets title is =
    joined (rendition_brings laws c rows l k wrap last r title is) (sets_bring (drawing c rows l k wrap r) sets title)
