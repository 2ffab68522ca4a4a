-- What the text of modes, LEDs and VT52 mode brings.
use Rattle.std.proofs.Common.{◌≡◌, Bool, true, false, List, [], ◌∷◌, length, refl, ap, lit<, arith}
use Rattle.std.proofs.Math.Dec.{lit≤}
use Rattle.std.proofs.lemmas.Fmt.{decimal_step}
use Rattle.std.specs.Prelude.{codes, Some, if◌then◌else◌}
use Rattle.vt_parser.specs.declared.commands.Mode.{Mode}
use Rattle.vt_parser.specs.declared.commands.Mode.TheVariants.{Ansi, Vt52}
use Rattle.vt_parser.specs.declared.commands.Command.TheVariants.{Vt52 as Sequence}
use Rattle.vt_parser.specs.Fold.{Finishes}
use Rattle.vt_parser.specs.Forms.{is_whole, meaning}
use Rattle.vt_parser.specs.Step.{context_of, command_of, pending_after}
use Rattle.vt_parser.specs.Syntax.{escape}
use Rattle.vt_term.specs.declared.modes.Modes.{Modes}
use Rattle.vt_term.specs.Console.{Console, first_modes, dark}
use Rattle.vt_term.specs.Printing.{Brings}
use Rattle.vt_term.specs.Profile.{has_editing}
use Rattle.vt_term.specs.Effect.{effect, reply}
use Rattle.vt_term.proofs.Printed.{brings_effect, nothing_brings, escapes_bring, control_sequences_bring, private_sequences_bring}
use Rattle.screen_rows.specs.Texts.{text_where}
use Rattle.screen_print.proofs.Redrawn.{digit_texts, one_param, brings_as}
use Rattle.screen_state.specs.StateText.{modes_text, leds_text, vt52_text}
use Rattle.screen_state.proofs.Below.{joined}

-- a console with these modes
abbrev pub with_modes : Modes → Console → Console
with_modes modes c = record c { modes = modes }

module _ (c : Console) (m : Modes) where
  cursor_keys_bring : (b : Bool)
      → Brings (with_modes (record m { mode = Ansi; cursor_keys = false }) c) (text_where b (escape ∷ codes "[?1h")) (with_modes (record m { mode = Ansi; cursor_keys = b }) c)
  cursor_keys_bring true = brings_as _ (private_sequences_bring (with_modes (record m { mode = Ansi; cursor_keys = false }) c) (1 ∷ []) 104 refl (one_param 1 (lit≤ tt)) refl) (simp digit_texts refl) refl
  cursor_keys_bring false = nothing_brings _

  smooth_scroll_brings : (b : Bool)
      → Brings (with_modes (record m { mode = Ansi; smooth_scroll = false }) c) (text_where b (escape ∷ codes "[?4h")) (with_modes (record m { mode = Ansi; smooth_scroll = b }) c)
  smooth_scroll_brings true = brings_as _ (private_sequences_bring (with_modes (record m { mode = Ansi; smooth_scroll = false }) c) (4 ∷ []) 104 refl (one_param 4 (lit≤ tt)) refl) (simp digit_texts refl) refl
  smooth_scroll_brings false = nothing_brings _

  reverse_screen_brings : (b : Bool)
      → Brings (with_modes (record m { mode = Ansi; reverse_screen = false }) c) (text_where b (escape ∷ codes "[?5h")) (with_modes (record m { mode = Ansi; reverse_screen = b }) c)
  reverse_screen_brings true = brings_as _ (private_sequences_bring (with_modes (record m { mode = Ansi; reverse_screen = false }) c) (5 ∷ []) 104 refl (one_param 5 (lit≤ tt)) refl) (simp digit_texts refl) refl
  reverse_screen_brings false = nothing_brings _

  auto_repeat_brings : (b : Bool)
      → Brings (with_modes (record m { mode = Ansi; auto_repeat = false }) c) (text_where b (escape ∷ codes "[?8h")) (with_modes (record m { mode = Ansi; auto_repeat = b }) c)
  auto_repeat_brings true = brings_as _ (private_sequences_bring (with_modes (record m { mode = Ansi; auto_repeat = false }) c) (8 ∷ []) 104 refl (one_param 8 (lit≤ tt)) refl) (simp digit_texts refl) refl
  auto_repeat_brings false = nothing_brings _

  interlace_brings : (b : Bool)
      → Brings (with_modes (record m { mode = Ansi; interlace = false }) c) (text_where b (escape ∷ codes "[?9h")) (with_modes (record m { mode = Ansi; interlace = b }) c)
  interlace_brings true = brings_as _ (private_sequences_bring (with_modes (record m { mode = Ansi; interlace = false }) c) (9 ∷ []) 104 refl (one_param 9 (lit≤ tt)) refl) (simp digit_texts refl) refl
  interlace_brings false = nothing_brings _

  newline_brings : (b : Bool)
      → Brings (with_modes (record m { mode = Ansi; newline = false }) c) (text_where b (escape ∷ codes "[20h")) (with_modes (record m { mode = Ansi; newline = b }) c)
  newline_brings true = brings_as _ (control_sequences_bring (with_modes (record m { mode = Ansi; newline = false }) c) (20 ∷ []) 104 refl (one_param 20 (lit≤ tt)) refl refl) (simp (decimal_step 20 (lit≤ tt) (lit< tt), digit_texts) refl) refl
  newline_brings false = nothing_brings _

  insert_brings : (b : Bool) → (b ≡ true → has_editing c.profile ≡ true)
      → Brings (with_modes (record m { mode = Ansi; insert = false }) c) (text_where b (escape ∷ codes "[4h")) (with_modes (record m { mode = Ansi; insert = b }) c)
  insert_brings true edits =
      brings_as _ (control_sequences_bring (with_modes (record m { mode = Ansi; insert = false }) c) (4 ∷ []) 104 refl (one_param 4 (lit≤ tt)) refl refl) (simp digit_texts refl)
      (ap (λ (has : Bool). with_modes (if has then record m { mode = Ansi; insert = true } else record m { mode = Ansi; insert = false }) c) (edits refl))
  insert_brings false edits = nothing_brings _

  keypad_brings : (b : Bool)
      → Brings (with_modes (record m { mode = Ansi; application_keypad = false }) c) (text_where b (escape ∷ codes "=")) (with_modes (record m { mode = Ansi; application_keypad = b }) c)
  keypad_brings true = escapes_bring (with_modes (record m { mode = Ansi; application_keypad = false }) c) 61 refl refl refl refl refl
  keypad_brings false = nothing_brings _

-- what the modes were before their text: the first ones, but DECOM and DECAWM
abbrev pub modes_before : Modes → Modes
modes_before m = record first_modes { origin = m.origin; autowrap = m.autowrap }

pub modes_bring : (c : Console) (m : Modes) → (m.insert ≡ true → has_editing c.profile ≡ true)
    → Brings (with_modes (modes_before m) c) (modes_text m) (with_modes (record m { mode = Ansi }) c)
modes_bring c m edits =
    let m0 = modes_before m in
    let m1 : Modes = record m0 { cursor_keys = m.cursor_keys } in
    let m2 : Modes = record m1 { smooth_scroll = m.smooth_scroll } in
    let m3 : Modes = record m2 { reverse_screen = m.reverse_screen } in
    let m4 : Modes = record m3 { auto_repeat = m.auto_repeat } in
    let m5 : Modes = record m4 { interlace = m.interlace } in
    let m6 : Modes = record m5 { newline = m.newline } in
    let m7 : Modes = record m6 { insert = m.insert } in
    joined (joined (joined (joined (joined (joined (joined
    (cursor_keys_bring c m0 m.cursor_keys)
    (smooth_scroll_brings c m1 m.smooth_scroll))
    (reverse_screen_brings c m2 m.reverse_screen))
    (auto_repeat_brings c m3 m.auto_repeat))
    (interlace_brings c m4 m.interlace))
    (newline_brings c m5 m.newline))
    (insert_brings c m6 m.insert edits))
    (keypad_brings c m7 m.application_keypad)

-- ---- LEDs

-- a console with these LEDs
abbrev with_leds : List Bool → Console → Console
with_leds leds c = record c { leds = leds }

module _ (c : Console) (ansi : c.modes.mode ≡ Ansi) where
  led_1_brings : (x y z w b : Bool) → x ≡ false
      → Brings (with_leds (x ∷ y ∷ z ∷ w ∷ []) c) (text_where b (escape ∷ codes "[1q")) (with_leds (b ∷ y ∷ z ∷ w ∷ []) c)
  led_1_brings x y z w true dark = brings_as _ (control_sequences_bring (with_leds (x ∷ y ∷ z ∷ w ∷ []) c) (1 ∷ []) 113 ansi (one_param 1 (lit≤ tt)) refl refl) (simp digit_texts refl) refl
  led_1_brings x y z w false dark = brings_as _ (nothing_brings (with_leds (x ∷ y ∷ z ∷ w ∷ []) c)) refl (ap (λ (l : Bool). with_leds (l ∷ y ∷ z ∷ w ∷ []) c) dark)

  led_2_brings : (x y z w b : Bool) → y ≡ false
      → Brings (with_leds (x ∷ y ∷ z ∷ w ∷ []) c) (text_where b (escape ∷ codes "[2q")) (with_leds (x ∷ b ∷ z ∷ w ∷ []) c)
  led_2_brings x y z w true dark = brings_as _ (control_sequences_bring (with_leds (x ∷ y ∷ z ∷ w ∷ []) c) (2 ∷ []) 113 ansi (one_param 2 (lit≤ tt)) refl refl) (simp digit_texts refl) refl
  led_2_brings x y z w false dark = brings_as _ (nothing_brings (with_leds (x ∷ y ∷ z ∷ w ∷ []) c)) refl (ap (λ (l : Bool). with_leds (x ∷ l ∷ z ∷ w ∷ []) c) dark)

  led_3_brings : (x y z w b : Bool) → z ≡ false
      → Brings (with_leds (x ∷ y ∷ z ∷ w ∷ []) c) (text_where b (escape ∷ codes "[3q")) (with_leds (x ∷ y ∷ b ∷ w ∷ []) c)
  led_3_brings x y z w true dark = brings_as _ (control_sequences_bring (with_leds (x ∷ y ∷ z ∷ w ∷ []) c) (3 ∷ []) 113 ansi (one_param 3 (lit≤ tt)) refl refl) (simp digit_texts refl) refl
  led_3_brings x y z w false dark = brings_as _ (nothing_brings (with_leds (x ∷ y ∷ z ∷ w ∷ []) c)) refl (ap (λ (l : Bool). with_leds (x ∷ y ∷ l ∷ w ∷ []) c) dark)

  led_4_brings : (x y z w b : Bool) → w ≡ false
      → Brings (with_leds (x ∷ y ∷ z ∷ w ∷ []) c) (text_where b (escape ∷ codes "[4q")) (with_leds (x ∷ y ∷ z ∷ b ∷ []) c)
  led_4_brings x y z w true dark = brings_as _ (control_sequences_bring (with_leds (x ∷ y ∷ z ∷ w ∷ []) c) (4 ∷ []) 113 ansi (one_param 4 (lit≤ tt)) refl refl) (simp digit_texts refl) refl
  led_4_brings x y z w false dark = brings_as _ (nothing_brings (with_leds (x ∷ y ∷ z ∷ w ∷ []) c)) refl (ap (λ (l : Bool). with_leds (x ∷ y ∷ z ∷ l ∷ []) c) dark)

  pub leds_bring : (leds : List Bool) → length leds ≡ 4 → Brings (with_leds dark c) (leds_text leds) (with_leds leds c)
  leds_bring (x ∷ y ∷ z ∷ w ∷ []) four =
      joined (joined (joined (led_1_brings false false false false x refl) (led_2_brings x false false false y refl)) (led_3_brings x y false false z refl)) (led_4_brings x y z false w refl)
  leds_bring [] four = absurd (omega arith)
  leds_bring (x ∷ []) four = absurd (omega arith)
  leds_bring (x ∷ y ∷ []) four = absurd (omega arith)
  leds_bring (x ∷ y ∷ z ∷ []) four = absurd (omega arith)
  leds_bring (x ∷ y ∷ z ∷ w ∷ v ∷ rest) four = absurd (omega arith)

-- ---- VT52 mode

-- two sequences of VT52 mode
turning_on_finishes : Finishes Vt52 (escape ∷ 70 ∷ []) (Some (Sequence 70))
unfolding context_of command_of pending_after is_whole meaning
turning_on_finishes Ansi = ((refl, refl), refl)
turning_on_finishes Vt52 = ((refl, refl), refl)

leaving_finishes : Finishes Vt52 (escape ∷ 60 ∷ []) (Some (Sequence 60))
unfolding context_of command_of pending_after is_whole meaning
leaving_finishes Ansi = ((refl, refl), refl)
leaving_finishes Vt52 = ((refl, refl), refl)

-- a console in a mode, with VT52 graphics on or off
abbrev pub in_mode : Mode → Bool → Console → Console
in_mode mode graphics c = record c { modes = record c.modes { mode = mode }; sets = record c.sets { vt52_graphics = graphics } }

module _ (c : Console) where
  enters : (graphics : Bool) → Brings (in_mode Ansi graphics c) (escape ∷ codes "[?2l") (in_mode Vt52 false c)
  enters graphics = brings_as _ (private_sequences_bring (in_mode Ansi graphics c) (2 ∷ []) 108 refl (one_param 2 (lit≤ tt)) refl) (simp digit_texts refl) refl

  turns_on : Brings (in_mode Vt52 false c) (escape ∷ codes "F") (in_mode Vt52 true c)
  unfolding effect reply
  turns_on = brings_effect (in_mode Vt52 false c) (escape ∷ 70 ∷ []) (Sequence 70) turning_on_finishes refl

  pub leaves : (graphics : Bool) → Brings (in_mode Vt52 graphics c) (escape ∷ codes "<") (in_mode Ansi graphics c)
  unfolding effect reply
  leaves graphics = brings_effect (in_mode Vt52 graphics c) (escape ∷ 60 ∷ []) (Sequence 60) leaving_finishes refl

  pub vt52_brings : (mode : Mode) (graphics : Bool) → Brings (in_mode Ansi false c) (vt52_text mode graphics) (in_mode mode graphics c)
  vt52_brings Ansi false = nothing_brings _
  vt52_brings Ansi true = joined (joined (enters false) turns_on) (leaves true)
  vt52_brings Vt52 false = enters false
  vt52_brings Vt52 true = joined (enters false) turns_on
