-- What the text of modes brings, and a title.
use Rattle.std.proofs.Common.{◌≡◌, Bool, true, false, [], ◌∷◌, refl, sym, ap, ◌∙◌, lit<}
use Rattle.std.proofs.Math.Dec.{lit≤}
use Rattle.std.specs.Prelude.{codes, not, None}
use Rattle.std.proofs.lemmas.List.{append-nil}
use Rattle.vt_parser.specs.Forms.{is_whole, meaning}
use Rattle.vt_parser.specs.Step.{context_of, command_of, pending_after}
use Rattle.vt_parser.specs.Syntax.{escape}
use Rattle.xterm_term.specs.declared.modes.Modes.{Modes}
use Rattle.xterm_term.specs.Console.{Console, first_modes}
use Rattle.xterm_term.specs.Effect.{effect, reply}
use Rattle.xterm_term.specs.Term.{Term, play, step}
use Rattle.xterm_term.proofs.Runs.{on_ground}
use Rattle.xterm_term.proofs.Taken.{begun}
use Rattle.xterm_escaped.specs.EscapedText.{text_where}
use Rattle.xterm_escaped.proofs.Cells.{LawsBelow}
use Rattle.xterm_escaped.proofs.DrawsAgain.{digit_alone, digits_25}
use Rattle.xterm_escaped.proofs.Led.{ended, stepped_by}
use Rattle.xterm_state.specs.StateText.{keypad_text, modes_text}
use Rattle.xterm_state.proofs.Brings.{Brings, Goes, Settles, brings_as, digits_20, joined, nothing_brings, private_brings, sequence_brings, settled}

-- a console with these modes
abbrev pub with_modes : Modes → Console → Console
with_modes modes c = record c { modes = modes }

module _ (laws : LawsBelow) (c : Console) (title : c.title ≡ false) (m : Modes) where
  cursor_keys_bring : (b : Bool) → Brings (with_modes (record m { cursor_keys = false }) c) (text_where b (escape ∷ codes "[?1h")) (with_modes (record m { cursor_keys = b }) c)
  cursor_keys_bring true =
      private_brings laws (with_modes (record m { cursor_keys = false }) c) (with_modes (record m { cursor_keys = true }) c) 1 104 (49 ∷ []) (digit_alone 1 (lit< tt)) (lit≤ tt) title refl (λ l. refl)
  cursor_keys_bring false = nothing_brings _

  reverse_screen_brings : (b : Bool) → Brings (with_modes (record m { reverse_screen = false }) c) (text_where b (escape ∷ codes "[?5h")) (with_modes (record m { reverse_screen = b }) c)
  reverse_screen_brings true =
      private_brings laws (with_modes (record m { reverse_screen = false }) c) (with_modes (record m { reverse_screen = true }) c) 5 104 (53 ∷ []) (digit_alone 5 (lit< tt)) (lit≤ tt) title refl (λ l. refl)
  reverse_screen_brings false = nothing_brings _

  -- without DECAWM no wrap is pending
  autowrap_brings : (b : Bool) → (b ≡ false → c.picture.wrap ≡ false)
      → Brings (with_modes (record m { autowrap = true }) c) (text_where (not b) (escape ∷ codes "[?7l")) (with_modes (record m { autowrap = b }) c)
  autowrap_brings true none = nothing_brings _
  autowrap_brings false none =
      let t : Console = with_modes (record m { autowrap = false }) (record c { picture = record c.picture { wrap = false } }) in
      brings_as
      (private_brings laws (with_modes (record m { autowrap = true }) c) t 7 108 (55 ∷ []) (digit_alone 7 (lit< tt)) (lit≤ tt) title refl (λ l. refl))
      refl
      (ap (λ (w : Bool). with_modes (record m { autowrap = false }) (record c { picture = record c.picture { wrap = w } })) (sym (none refl)))

  cursor_shown_brings : (b : Bool) → Brings (with_modes (record m { cursor_shown = true }) c) (text_where (not b) (escape ∷ codes "[?25l")) (with_modes (record m { cursor_shown = b }) c)
  cursor_shown_brings true = nothing_brings _
  cursor_shown_brings false =
      private_brings laws (with_modes (record m { cursor_shown = true }) c) (with_modes (record m { cursor_shown = false }) c) 25 108 (50 ∷ 53 ∷ []) digits_25 (lit≤ tt) title refl (λ l. refl)

  newline_brings : (b : Bool) → Brings (with_modes (record m { newline = false }) c) (text_where b (escape ∷ codes "[20h")) (with_modes (record m { newline = b }) c)
  newline_brings true =
      sequence_brings laws (with_modes (record m { newline = false }) c) (with_modes (record m { newline = true }) c) 20 104 (50 ∷ 48 ∷ []) digits_20 (lit≤ tt) title refl (λ l. refl) (λ l. refl)
  newline_brings false = nothing_brings _

  insert_brings : (b : Bool) → Brings (with_modes (record m { insert = false }) c) (text_where b (escape ∷ codes "[4h")) (with_modes (record m { insert = b }) c)
  insert_brings true =
      sequence_brings laws (with_modes (record m { insert = false }) c) (with_modes (record m { insert = true }) c) 4 104 (52 ∷ []) (digit_alone 4 (lit< tt)) (lit≤ tt) title refl (λ l. refl) (λ l. refl)
  insert_brings false = nothing_brings _

  -- behind the keypad there is no last character
  keypad_settles : (b : Bool) → Settles (with_modes (record m { application_keypad = false }) c) (keypad_text b) (record (with_modes (record m { application_keypad = b }) c) { last = None })
  unfolding play context_of command_of pending_after is_whole meaning effect reply
  keypad_settles true = record {
    played = λ last reports.
        let s : Console = ended last (with_modes (record m { application_keypad = false }) c) in
        ap (λ (x : Term). step x 61) (begun s [] reports title).0 ∙ stepped_by s (27 ∷ []) reports 61 title refl
        ∙ ap (on_ground (record (with_modes (record m { application_keypad = true }) c) { last = None })) (append-nil reports);
  }
  keypad_settles false = record {
    played = λ last reports.
        let s : Console = ended last (with_modes (record m { application_keypad = false }) c) in
        ap (λ (x : Term). step x 62) (begun s [] reports title).0 ∙ stepped_by s (27 ∷ []) reports 62 title refl
        ∙ ap (on_ground (record (with_modes (record m { application_keypad = false }) c) { last = None })) (append-nil reports);
  }

-- what the modes were before their text: the first ones, but DECOM
abbrev pub modes_before : Modes → Modes
modes_before m = record first_modes { origin = m.origin }

pub modes_settle : LawsBelow → (c : Console) (m : Modes) → c.title ≡ false → (m.autowrap ≡ false → c.picture.wrap ≡ false)
    → Settles (with_modes (modes_before m) c) (modes_text m) (record (with_modes m c) { last = None })
modes_settle laws c m title none =
    let m0 = modes_before m in
    let m1 : Modes = record m0 { cursor_keys = m.cursor_keys } in
    let m2 : Modes = record m1 { reverse_screen = m.reverse_screen } in
    let m3 : Modes = record m2 { autowrap = m.autowrap } in
    let m4 : Modes = record m3 { cursor_shown = m.cursor_shown } in
    let m5 : Modes = record m4 { newline = m.newline } in
    let m6 : Modes = record m5 { insert = m.insert } in
    settled (joined (joined (joined (joined (joined
    (cursor_keys_bring laws c title m0 m.cursor_keys)
    (reverse_screen_brings laws c title m1 m.reverse_screen))
    (autowrap_brings laws c title m2 m.autowrap none))
    (cursor_shown_brings laws c title m3 m.cursor_shown))
    (newline_brings laws c title m4 m.newline))
    (insert_brings laws c title m5 m.insert))
    (keypad_settles laws c title m6 m.application_keypad)

-- a title is begun where there is no last character
pub title_goes : (c : Console) (title : Bool) → c.title ≡ false → (title ≡ true → c.last ≡ None) → Goes c (text_where title (escape ∷ codes "k")) (record c { title = title })
unfolding play context_of command_of pending_after is_whole meaning effect reply
title_goes c true none gone = record {
  played = λ reports.
      ap (λ (x : Term). step x 107) (begun c [] reports none).0 ∙ stepped_by c (27 ∷ []) reports 107 none refl
      ∙ ap (on_ground (record c { title = true; last = None })) (append-nil reports)
      ∙ ap (λ l. on_ground (record c { title = true; last = l }) reports) (sym (gone refl));
}
title_goes c false none gone = record { played = λ reports. ap (λ b. on_ground (record c { title = b }) reports) none }
