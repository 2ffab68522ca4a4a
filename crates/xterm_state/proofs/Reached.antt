-- What every term keeps that comes of a reset one: where a wrap is pending and where one is saved, what the margins are,
-- and that a save lies on the sheet.
use Rattle.std.proofs.Common.{◌≡◌, ◌⊎◌, ℕ, zero, suc, ◌+◌, ◌-◌, ◌<◌, ◌≤◌, Bool, true, false, List, [], ◌∷◌, length, min, max, refl, sym, ap, subst, inl, inr, ◌∙◌, arith}
use Rattle.std.specs.Prelude.{nat_le, nat_lt, ◌==◌, ◌&&◌, fold, Option, Some, None, if◌then◌else◌, find, unwrap_or}
use Rattle.std.specs.List.{range_with_len}
use Rattle.std.proofs.lemmas.Bool.{false≢true}
use Rattle.std.proofs.lemmas.Bool.Decides.{nat_tests}
use Rattle.characters.specs.Width.{width}
use Rattle.sheet.specs.declared.rendition.Colour.{Colour}
use Rattle.sheet.specs.Cells.{Cell}
use Rattle.vt_parser.specs.declared.commands.Command.{Command}
use Rattle.vt_parser.specs.declared.commands.Command.TheVariants.{Show, Error, Control as ControlOf, Esc, Csi, Vt52, Vt52Address}
use Rattle.xterm_screen.specs.Margins.{are_margins}
use Rattle.xterm_screen.specs.Moves.{moved_home, moved_to_left}
use Rattle.xterm_screen.specs.Picture.{Picture, Sound}
use Rattle.xterm_screen.specs.Puts.{character_put, character_written, made_ready, mark_column, next_line, overhangs, room_made, wrap_taken, width as columns_of}
use Rattle.xterm_screen.specs.Scrolls.{indexed, is_in_region, reverse_indexed}
use Rattle.xterm_screen.specs.Tabs.{stop_after, stop_at, times}
use Rattle.xterm_term.specs.declared.saved.Saved.{Saved}
use Rattle.xterm_term.specs.declared.modes.Modes.{Modes}
use Rattle.xterm_term.specs.Console.{Console, forgotten, on_paper, reset_console, saved_here}
use Rattle.xterm_term.specs.Controls.{Control, Bs, Ht, Lf, Cr, So, Si, controls, control_effect, line_fed}
use Rattle.xterm_term.specs.Effect.{effect, control_sequence_effect}
use Rattle.xterm_term.specs.Escapes.{Escape, Ind, Nel, Ri, Hts, Decid, Ris, Decsc, Decrc, Deckpam, Deckpnm, Decaln, Title, Scs, escape_named, escape_effect, saved, restored, restored_from, saved_from}
use Rattle.xterm_term.specs.PrivateModes.{PrivateMode, Decckm, Decscnm, Decom, Decawm, Dectcem, AlternateSheet, Save, SaveAndSheet, private_modes, switches, mode_effect, mode_set, modes_set, sheet_shown, save_switched, save_and_sheet_switched}
use Rattle.xterm_term.specs.Puts.{put, put_by_width, shown_with, is_c1, put_times, repeated, character_for}
use Rattle.xterm_term.specs.Rows.{named, effect_of}
use Rattle.xterm_term.specs.Term.{forgotten_if, title_set}
use Rattle.xterm_term.specs.Sequences.{AnsiMode, Irm, Lnm, ansi_mode_effect, ansi_mode_set, ansi_modes, Sequence, Cuu, Cud, Cuf, Cub, Cnl, Cpl, Cha, Vpr, Vpa, Cup, Cht, Cbt, Ed, El, Ech, Ich, Dch, Il, Dl, Su, Sd, Rep, Tbc, Sm, Rm, Sgr, Decstbm, Scosc, Scorc, Da, Dsr, Decreqtparm, sequences, sequence_effect, param_or}

-- ---- pictures

-- a wrap is pending at the last column alone, and while characters wrap
abbrev pub Wraps : Picture → Bool → Type 0
Wraps p autowrap = p.wrap ≡ true → (p.column ≡ p.columns) × (autowrap ≡ true)

-- the margins are a region of two lines or more, or all lines
abbrev pub IsMargined : Picture → Type 0
IsMargined p = (p.top < p.bottom) ⊎ ((p.top ≡ 1) × (p.bottom ≡ p.lines))

-- a save lies on a sheet of so many columns and lines, and a wrap in it at the last column
abbrev pub IsSavedIn : ℕ → ℕ → Option Saved → Type 0
IsSavedIn columns lines None = Unit {0}
IsSavedIn columns lines (Some saved) = (saved.line ≤ lines) × (saved.column ≤ columns) × (saved.wrap ≡ true → saved.column ≡ columns)

pub record Reached (s : Console) : Type 0 where
  pub wraps : Wraps s.picture s.modes.autowrap
  pub margins : IsMargined s.picture
  pub main_saved : IsSavedIn s.picture.columns s.picture.lines s.main_saved
  pub alternate_saved : IsSavedIn s.picture.columns s.picture.lines s.alternate_saved

-- what a change leaves
pub record Still (p q : Picture) : Type 0 where
  pub columns : q.columns ≡ p.columns
  pub lines : q.lines ≡ p.lines
  pub top : q.top ≡ p.top
  pub bottom : q.bottom ≡ p.bottom

still : (p : Picture) → Still p p
still p = record { columns = refl; lines = refl; top = refl; bottom = refl }

still_if : (b : Bool) (p q r : Picture) → Still p q → Still p r → Still p (if b then q else r)
still_if true p q r one two = one
still_if false p q r one two = two

then_still : (p q r : Picture) → Still p q → Still q r → Still p r
then_still p q r one two = record {
  columns = two.columns ∙ one.columns;
  lines = two.lines ∙ one.lines;
  top = two.top ∙ one.top;
  bottom = two.bottom ∙ one.bottom;
}

-- .. where it leaves no wrap
pub record Unwraps (p q : Picture) : Type 0 where
  pub still : Still p q
  pub wrap : q.wrap ≡ false

unwraps_if : (b : Bool) (p q r : Picture) → Unwraps p q → Unwraps p r → Unwraps p (if b then q else r)
unwraps_if true p q r one two = one
unwraps_if false p q r one two = two

unwrapped : (p : Picture) (autowrap : Bool) → p.wrap ≡ false → Wraps p autowrap
unwrapped p autowrap none = λ wrap. absurd (false≢true (sym none ∙ wrap))

-- ---- consoles

reached_on : (s : Console) (p : Picture) → Still s.picture p → Wraps p s.modes.autowrap → Reached s → Reached (record s { picture = p })
reached_on s p same wraps reached = record {
  wraps = wraps;
  margins = elim reached.margins [
    | inl apart ↦ inl (let low = same.top in let high = same.bottom in omega arith)
    | inr all ↦ inr (same.top ∙ all.0, same.bottom ∙ all.1 ∙ sym same.lines)
  ];
  main_saved = in_size s.main_saved reached.main_saved;
  alternate_saved = in_size s.alternate_saved reached.alternate_saved;
}
  where
    in_size : (save : Option Saved) → IsSavedIn s.picture.columns s.picture.lines save → IsSavedIn p.columns p.lines save
    in_size save is =
        subst (λ c. IsSavedIn c p.lines save) (sym same.columns) (subst (λ l. IsSavedIn s.picture.columns l save) (sym same.lines) is)

-- to another place
reached_moved : (s : Console) (line column : ℕ) → Reached s → Reached (record s { picture = record s.picture { line = line; column = column; wrap = false } })
reached_moved s line column reached =
    let p : Picture = record s.picture { line = line; column = column; wrap = false } in
    reached_on s p (record { columns = refl; lines = refl; top = refl; bottom = refl }) (unwrapped p s.modes.autowrap refl) reached

-- other rows and tab stops, and another sheet
reached_rows : (s : Console) (rows other : List (List Cell)) (alternate : Bool) (tabs : List Bool) → Reached s
    → Reached (record s { picture = record s.picture { rows = rows; other = other; alternate = alternate; tabs = tabs } })
reached_rows s rows other alternate tabs reached = record {
  wraps = reached.wraps;
  margins = reached.margins;
  main_saved = reached.main_saved;
  alternate_saved = reached.alternate_saved;
}

-- other rows, and no wrap
reached_erased : (s : Console) (rows : List (List Cell)) → Reached s → Reached (record s { picture = record s.picture { rows = rows; wrap = false } })
reached_erased s rows reached =
    let p : Picture = record s.picture { rows = rows; wrap = false } in
    reached_on s p (record { columns = refl; lines = refl; top = refl; bottom = refl }) (unwrapped p s.modes.autowrap refl) reached

-- other rows, and column 1
reached_left : (s : Console) (rows : List (List Cell)) → Reached s → Reached (record s { picture = record s.picture { rows = rows; column = 1; wrap = false } })
reached_left s rows reached =
    let p : Picture = record s.picture { rows = rows; column = 1; wrap = false } in
    reached_on s p (record { columns = refl; lines = refl; top = refl; bottom = refl }) (unwrapped p s.modes.autowrap refl) reached

either_reached : (b : Bool) (s t : Console) → Reached s → Reached t → Reached (if b then s else t)
either_reached true s t one two = one
either_reached false s t one two = two

picture_if : (b : Bool) (s : Console) (p q : Picture) → Reached (record s { picture = p }) → Reached (record s { picture = q })
    → Reached (record s { picture = (if b then p else q) })
picture_if true s p q one two = one
picture_if false s p q one two = two

reached_row : {Name : Type 0} (change : Name → Console → Console) → ((row : Name) (s : Console) → Reached s → Reached (change row s)) → (row : Option Name) (s : Console)
    → Reached s → Reached (effect_of change row s)
reached_row change each None s reached = reached
reached_row change each (Some row) s reached = each row s reached

-- ---- characters

indexed_unwraps : (paper : Colour) (p r : Picture) → Still r p → Unwraps r (indexed paper p)
indexed_unwraps paper p r same =
    unwraps_if (p.line == p.bottom) r _ _
    (record { still = record { columns = same.columns; lines = same.lines; top = same.top; bottom = same.bottom }; wrap = refl })
    (record { still = record { columns = same.columns; lines = same.lines; top = same.top; bottom = same.bottom }; wrap = refl })

next_unwraps : (paper : Colour) (p : Picture) → Unwraps p (next_line paper p)
next_unwraps paper p = indexed_unwraps paper (moved_to_left p) p (record { columns = refl; lines = refl; top = refl; bottom = refl })

pub taken_still : (b : Bool) (paper : Colour) (p : Picture) → Still p (if b then next_line paper p else p)
taken_still true paper p = (next_unwraps paper p).still
taken_still false paper p = still p

taken_unwraps : (b : Bool) (paper : Colour) (p : Picture) → p.wrap ≡ b → Unwraps p (if b then next_line paper p else p)
taken_unwraps true paper p wrap = next_unwraps paper p
taken_unwraps false paper p wrap = record { still = still p; wrap = wrap }

found_unwraps : (b : Bool) (paper : Colour) (p q : Picture) → Unwraps p q → Unwraps p (if b then next_line paper q else q)
found_unwraps true paper p q before =
    let next = next_unwraps paper q in record { still = then_still p q _ before.still next.still; wrap = next.wrap }
found_unwraps false paper p q before = before

pub ready_unwraps : (wide autowrap : Bool) (paper : Colour) (p : Picture) → Unwraps p (made_ready wide autowrap paper p)
ready_unwraps wide autowrap paper p =
    found_unwraps (autowrap && overhangs wide (wrap_taken paper p)) paper p (wrap_taken paper p) (taken_unwraps p.wrap paper p refl)

-- the screen that a character is written on
written_unwraps : (p q : Picture) (b : Bool) (one two : List (List Cell)) → Unwraps p q
    → Unwraps p (let made : Picture = (if b then record q { rows = one } else q) in record made { rows = two })
written_unwraps p q true one two before =
    record { still = record { columns = before.still.columns; lines = before.still.lines; top = before.still.top; bottom = before.still.bottom }; wrap = before.wrap }
written_unwraps p q false one two before =
    record { still = record { columns = before.still.columns; lines = before.still.lines; top = before.still.top; bottom = before.still.bottom }; wrap = before.wrap }

advanced_wraps : (b autowrap : Bool) (p q : Picture) (column : ℕ) → Unwraps p q
    → Still p (if b then record q { column = q.columns; wrap = autowrap } else record q { column = column })
    × Wraps (if b then record q { column = q.columns; wrap = autowrap } else record q { column = column }) autowrap
advanced_wraps true autowrap p q column before = (record { columns = before.still.columns; lines = before.still.lines; top = before.still.top; bottom = before.still.bottom }, λ wrap. (refl, wrap))
advanced_wraps false autowrap p q column before =
    (record { columns = before.still.columns; lines = before.still.lines; top = before.still.top; bottom = before.still.bottom }, λ wrap. absurd (false≢true (sym before.wrap ∙ wrap)))

shown_wraps_if : (b autowrap : Bool) (p q r : Picture) → Unwraps p q → Still p r × Wraps r autowrap
    → Still p (if b then q else r) × Wraps (if b then q else r) autowrap
shown_wraps_if true autowrap p q r one two = (one.still, unwrapped q autowrap one.wrap)
shown_wraps_if false autowrap p q r one two = two

reached_shown : (wide : Bool) (character : ℕ) (s : Console) → Reached s → Reached (shown_with wide character s)
reached_shown wide character s reached =
    let paper = s.rendition.paper in
    let q = made_ready wide s.modes.autowrap paper s.picture in
    let ready = ready_unwraps wide s.modes.autowrap paper s.picture in
    let written = character_written character wide s.rendition (room_made s.modes.insert wide paper q) in
    let wrote : Unwraps s.picture written = written_unwraps s.picture q s.modes.insert _ _ ready in
    let put_there = advanced_wraps (nat_lt written.columns (written.column + columns_of wide)) s.modes.autowrap s.picture written (written.column + columns_of wide) wrote in
    let all = shown_wraps_if (overhangs wide q) s.modes.autowrap s.picture q (character_put character wide s.rendition s.modes.autowrap s.modes.insert q) ready put_there in
    let there = reached_on s _ all.0 all.1 reached in
    record { wraps = there.wraps; margins = there.margins; main_saved = there.main_saved; alternate_saved = there.alternate_saved }

reached_by_width : (n character : ℕ) (s : Console) → Reached s → Reached (put_by_width n character s)
reached_by_width zero character s reached =
    picture_if (mark_column s.picture == 0) s s.picture _ reached
    (reached_rows s _ s.picture.other s.picture.alternate s.picture.tabs reached)
reached_by_width (suc n) character s reached = reached_shown (n == 1) character s reached

reached_last : (s : Console) (last : Option ℕ) → Reached s → Reached (record s { last = last })
reached_last s last reached = record { wraps = reached.wraps; margins = reached.margins; main_saved = reached.main_saved; alternate_saved = reached.alternate_saved }

pub reached_put : (character : ℕ) (s : Console) → Reached s → Reached (put character s)
unfolding put
reached_put character s reached =
    either_reached (is_c1 character) (forgotten s) (put_by_width (width character) character s) (reached_last s None reached) (reached_by_width (width character) character s reached)

reached_times : (n character : ℕ) (s : Console) → Reached s → Reached (put_times n character s)
reached_times zero character s reached = reached
reached_times (suc n) character s reached = reached_put character (put_times n character s) (reached_times n character s reached)

reached_repeated : (n : ℕ) (last : Option ℕ) (s : Console) → Reached s → Reached (repeated n last s)
reached_repeated n None s reached = reached
reached_repeated n (Some character) s reached = reached_times n character s reached

-- ---- saves

-- the cursor and the margins lie on the sheet
pub record Bounded (p : Picture) : Type 0 where
  pub line : p.line ≤ p.lines
  pub column : p.column ≤ p.columns
  pub top : p.top ≤ p.lines
  pub bottom : p.bottom ≤ p.lines
  pub lines : 1 ≤ p.lines
  pub columns : 1 ≤ p.columns

pub bounded : (p : Picture) → Sound p → Bounded p
bounded p sound =
    let apart = sound.apart in let high = sound.bottom_high in let columns = sound.columns_low in
    record { line = sound.line_high; column = sound.column_high; top = omega arith; bottom = high; lines = sound.lines_low; columns = omega arith }

reached_saved_if : (alternate : Bool) (s : Console) → Bounded s.picture → Reached s
    → Reached (if alternate then record s { alternate_saved = Some (saved_from s) } else record s { main_saved = Some (saved_from s) })
reached_saved_if true s within reached = record {
  wraps = reached.wraps;
  margins = reached.margins;
  main_saved = reached.main_saved;
  alternate_saved = (within.line, within.column, λ wrap. (reached.wraps wrap).0);
}
reached_saved_if false s within reached = record {
  wraps = reached.wraps;
  margins = reached.margins;
  main_saved = (within.line, within.column, λ wrap. (reached.wraps wrap).0);
  alternate_saved = reached.alternate_saved;
}

reached_saved : (s : Console) → Bounded s.picture → Reached s → Reached (saved s)
reached_saved s within reached = reached_saved_if s.picture.alternate s within reached

-- other modes with the same DECAWM, another rendition and other sets
reached_else : (s t : Console) → t.picture ≡ s.picture → t.modes.autowrap ≡ s.modes.autowrap → t.main_saved ≡ s.main_saved → t.alternate_saved ≡ s.alternate_saved
    → Reached s → Reached t
reached_else s t picture autowrap main alternate reached = record {
  wraps = subst (λ (p : Picture). Wraps p t.modes.autowrap) (sym picture) (subst (Wraps s.picture) (sym autowrap) reached.wraps);
  margins = subst IsMargined (sym picture) reached.margins;
  main_saved = subst (λ (p : Picture). IsSavedIn p.columns p.lines t.main_saved) (sym picture) (subst (IsSavedIn s.picture.columns s.picture.lines) (sym main) reached.main_saved);
  alternate_saved = subst (λ (p : Picture). IsSavedIn p.columns p.lines t.alternate_saved) (sym picture) (subst (IsSavedIn s.picture.columns s.picture.lines) (sym alternate) reached.alternate_saved);
}

back_wraps : (wrap autowrap : Bool) (column columns : ℕ) → (wrap && autowrap && (min column columns == columns)) ≡ true → (min column columns ≡ columns) × (autowrap ≡ true)
back_wraps wrap autowrap column columns is = (grind (arith, nat_tests), grind (arith, nat_tests))

reached_restored_from : (save : Option Saved) (s : Console) → Reached s → Reached (restored_from save s)
reached_restored_from None s reached =
    let there = reached_moved s 1 1 reached in
    record { wraps = there.wraps; margins = there.margins; main_saved = there.main_saved; alternate_saved = there.alternate_saved }
reached_restored_from (Some save) s reached = record {
  wraps = λ wrap. back_wraps save.wrap s.modes.autowrap save.column s.picture.columns wrap;
  margins = reached.margins;
  main_saved = reached.main_saved;
  alternate_saved = reached.alternate_saved;
}

reached_restored : (s : Console) → Reached s → Reached (restored s)
reached_restored s reached = reached_restored_from (saved_here s) s reached

-- ---- controls and escape sequences

reached_indexed : (s : Console) (p : Picture) → Still s.picture p → Reached s → Reached (record s { picture = indexed s.rendition.paper p })
reached_indexed s p same reached =
    let q = indexed s.rendition.paper p in
    let moved = indexed_unwraps s.rendition.paper p s.picture same in reached_on s q moved.still (unwrapped q s.modes.autowrap moved.wrap) reached

reached_fed : (newline : Bool) (s : Console) → Reached s → Reached (on_paper (line_fed newline) s)
reached_fed true s reached = reached_indexed s (moved_to_left s.picture) (record { columns = refl; lines = refl; top = refl; bottom = refl }) reached
reached_fed false s reached = reached_indexed s s.picture (still s.picture) reached

reached_reverse : (s : Console) → Reached s → Reached (on_paper reverse_indexed s)
reached_reverse s reached =
    picture_if (s.picture.line == s.picture.top) s _ _
    (reached_erased s _ reached) (reached_moved s _ s.picture.column reached)

-- at the last column there is no stop further on
no_stop : (tabs : List Bool) (columns : ℕ) → stop_after tabs columns columns ≡ columns
no_stop tabs columns =
    let none : columns - columns ≡ 0 = omega arith in
    ap (λ n. unwrap_or (find (stop_at tabs) (range_with_len (columns + 1) n)) columns) none

no_stops : (n : ℕ) (tabs : List Bool) (columns column : ℕ) → column ≡ columns → times n (stop_after tabs columns) column ≡ columns
unfolding times
no_stops zero tabs columns column at = at
no_stops (suc n) tabs columns column at = ap (stop_after tabs columns) (no_stops n tabs columns column at) ∙ no_stop tabs columns

reached_tabbed : (s : Console) (column : ℕ) → (s.picture.column ≡ s.picture.columns → column ≡ s.picture.columns) → Reached s
    → Reached (record s { picture = record s.picture { column = column } })
reached_tabbed s column stays reached = record {
  wraps = λ wrap. (stays (reached.wraps wrap).0, (reached.wraps wrap).1);
  margins = reached.margins;
  main_saved = reached.main_saved;
  alternate_saved = reached.alternate_saved;
}

reached_control : (control : Control) (s : Console) → Reached s → Reached (control_effect control s)
reached_control Bs s reached = reached_moved s s.picture.line _ reached
reached_control Ht s reached =
    reached_tabbed s _ (λ at. ap (stop_after s.picture.tabs s.picture.columns) at ∙ no_stop s.picture.tabs s.picture.columns) reached
reached_control Lf s reached = reached_fed s.modes.newline s reached
reached_control Cr s reached = reached_moved s s.picture.line 1 reached
reached_control So s reached = reached_else s _ refl refl refl refl reached
reached_control Si s reached = reached_else s _ refl refl refl refl reached

pub reached_reset : (columns lines : ℕ) → Reached (reset_console columns lines)
reached_reset columns lines = record {
  wraps = λ wrap. absurd (false≢true wrap);
  margins = inr (refl, refl);
  main_saved = tt;
  alternate_saved = tt;
}

reached_escape : (escape : Escape) (s : Console) → Bounded s.picture → Reached s → Reached (escape_effect escape s)
reached_escape Ind s within reached = reached_fed false s reached
reached_escape Nel s within reached = reached_fed true s reached
reached_escape Ri s within reached = reached_reverse s reached
reached_escape Hts s within reached = reached_rows s s.picture.rows s.picture.other s.picture.alternate _ reached
reached_escape Decid s within reached = reached
reached_escape Ris s within reached = reached_reset s.picture.columns s.picture.lines
reached_escape Decsc s within reached = reached_saved s within reached
reached_escape Decrc s within reached = reached_restored s reached
reached_escape Deckpam s within reached = reached_else s _ refl refl refl refl reached
reached_escape Deckpnm s within reached = reached_else s _ refl refl refl refl reached
reached_escape Decaln s within reached = record {
  wraps = λ wrap. absurd (false≢true wrap);
  margins = inr (refl, refl);
  main_saved = reached.main_saved;
  alternate_saved = reached.alternate_saved;
}
reached_escape Title s within reached = reached_else s _ refl refl refl refl reached
reached_escape (Scs slot set) s within reached = reached_else s _ refl refl refl refl reached

-- ---- control sequences

reached_margins : (b : Bool) (s : Console) (top bottom line : ℕ) → (b ≡ true → top < bottom) → Reached s
    → Reached (record s { picture = (if b then record s.picture { top = top; bottom = bottom; line = line; column = 1; wrap = false } else s.picture) })
reached_margins true s top bottom line apart reached = record {
  wraps = λ wrap. absurd (false≢true wrap);
  margins = inl (apart refl);
  main_saved = reached.main_saved;
  alternate_saved = reached.alternate_saved;
}
reached_margins false s top bottom line apart reached = reached

apart_by : (top bottom lines : ℕ) → are_margins top bottom lines ≡ true → top < min bottom lines
apart_by top bottom lines is = grind (arith, nat_tests)

ansi_keeps : (value : Bool) (row : Option AnsiMode) (m : Modes) → (effect_of (ansi_mode_effect value) row m).autowrap ≡ m.autowrap
ansi_keeps value None m = refl
ansi_keeps value (Some Irm) m = refl
ansi_keeps value (Some Lnm) m = refl

ansi_all_keep : (value : Bool) (params : List ℕ) (m : Modes) → (fold (ansi_mode_set value) m params).autowrap ≡ m.autowrap
ansi_all_keep value [] m = refl
ansi_all_keep value (param ∷ params) m = ansi_all_keep value params (ansi_mode_set value m param) ∙ ansi_keeps value (named ansi_modes param) m

reached_tabs_if : (b c : Bool) (one two : List Bool) (s : Console) → Reached s
    → Reached (record s { picture = (if b then record s.picture { tabs = one } else (if c then record s.picture { tabs = two } else s.picture)) })
reached_tabs_if true c one two s reached = reached_rows s s.picture.rows s.picture.other s.picture.alternate one reached
reached_tabs_if false true one two s reached = reached_rows s s.picture.rows s.picture.other s.picture.alternate two reached
reached_tabs_if false false one two s reached = reached

reached_sequence : (sequence : Sequence) (params : List ℕ) (s : Console) → Bounded s.picture → Reached s → Reached (sequence_effect sequence params s)
reached_sequence Cuu params s within reached = reached_moved s _ s.picture.column reached
reached_sequence Cud params s within reached = reached_moved s _ s.picture.column reached
reached_sequence Cuf params s within reached = reached_moved s s.picture.line _ reached
reached_sequence Cub params s within reached = reached_moved s s.picture.line _ reached
reached_sequence Cnl params s within reached = reached_moved s _ 1 reached
reached_sequence Cpl params s within reached = reached_moved s _ 1 reached
reached_sequence Cha params s within reached = reached_moved s s.picture.line _ reached
reached_sequence Vpr params s within reached = reached_moved s _ s.picture.column reached
reached_sequence Vpa params s within reached = reached_moved s _ s.picture.column reached
reached_sequence Cup params s within reached = reached_moved s _ _ reached
reached_sequence Cht params s within reached =
    reached_tabbed s _ (no_stops (param_or params 0 1) s.picture.tabs s.picture.columns s.picture.column) reached
reached_sequence Cbt params s within reached = reached_moved s s.picture.line _ reached
reached_sequence Ed params s within reached = picture_if (nat_le (param_or params 0 0) 2) s _ s.picture (reached_erased s _ reached) reached
reached_sequence El params s within reached = picture_if (nat_le (param_or params 0 0) 2) s _ s.picture (reached_erased s _ reached) reached
reached_sequence Ech params s within reached = reached_erased s _ reached
reached_sequence Ich params s within reached = reached_erased s _ reached
reached_sequence Dch params s within reached = reached_erased s _ reached
reached_sequence Il params s within reached =
    picture_if (is_in_region s.picture) s _ s.picture
    (reached_left s _ reached) reached
reached_sequence Dl params s within reached =
    picture_if (is_in_region s.picture) s _ s.picture
    (reached_left s _ reached) reached
reached_sequence Su params s within reached = reached_rows s _ s.picture.other s.picture.alternate s.picture.tabs reached
reached_sequence Sd params s within reached =
    picture_if (nat_le (length params) 1) s _ s.picture (reached_rows s _ s.picture.other s.picture.alternate s.picture.tabs reached) reached
reached_sequence Rep params s within reached = reached_repeated (param_or params 0 1) s.last s reached
reached_sequence Tbc params s within reached = reached_tabs_if (param_or params 0 0 == 0) (param_or params 0 0 == 3) _ _ s reached
reached_sequence Sm params s within reached = reached_else s _ refl (ansi_all_keep true params s.modes) refl refl reached
reached_sequence Rm params s within reached = reached_else s _ refl (ansi_all_keep false params s.modes) refl refl reached
reached_sequence Sgr params s within reached = reached_else s _ refl refl refl refl reached
reached_sequence Decstbm params s within reached =
    reached_margins (are_margins (param_or params 0 1) (param_or params 1 s.picture.lines) s.picture.lines) s _ _ _
    (apart_by (param_or params 0 1) (param_or params 1 s.picture.lines) s.picture.lines) reached
reached_sequence Scosc params s within reached = reached_saved s within reached
reached_sequence Scorc params s within reached = reached_restored s reached
reached_sequence Da params s within reached = reached
reached_sequence Dsr params s within reached = reached
reached_sequence Decreqtparm params s within reached = reached

-- ---- modes

-- both, through the modes that one sequence sets
record Held (s : Console) : Type 0 where
  within : Bounded s.picture
  reached : Reached s

home_line : (b : Bool) (top lines : ℕ) → top ≤ lines → 1 ≤ lines → (if b then top else 1) ≤ lines
home_line true top lines low some = low
home_line false top lines low some = some

back_line : (b : Bool) (line top bottom lines : ℕ) → top ≤ lines → bottom ≤ lines → line ≤ lines → (if b then max top (min line bottom) else line) ≤ lines
back_line true line top bottom lines low high within = omega arith
back_line false line top bottom lines low high within = within

bounded_home : (origin : Bool) (p : Picture) → Bounded p → Bounded (moved_home origin p)
bounded_home origin p b = record {
  line = home_line origin p.top p.lines b.top b.lines;
  column = b.columns;
  top = b.top;
  bottom = b.bottom;
  lines = b.lines;
  columns = b.columns;
}

bounded_restored_from : (save : Option Saved) (s : Console) → Bounded s.picture → Bounded (restored_from save s).picture
bounded_restored_from None s b = bounded_home false s.picture b
bounded_restored_from (Some save) s b = record {
  line = back_line save.origin (min save.line s.picture.lines) s.picture.top s.picture.bottom s.picture.lines b.top b.bottom (omega arith);
  column = omega arith;
  top = b.top;
  bottom = b.bottom;
  lines = b.lines;
  columns = b.columns;
}

bounded_saved_if : (alternate : Bool) (s : Console) → Bounded s.picture
    → Bounded (if alternate then record s { alternate_saved = Some (saved_from s) } else record s { main_saved = Some (saved_from s) }).picture
bounded_saved_if true s b = b
bounded_saved_if false s b = b

held_saved : (s : Console) → Held s → Held (saved s)
held_saved s held = record { within = bounded_saved_if s.picture.alternate s held.within; reached = reached_saved s held.within held.reached }

held_restored : (s : Console) → Held s → Held (restored s)
held_restored s held = record { within = bounded_restored_from (saved_here s) s held.within; reached = reached_restored s held.reached }

held_picture_if : (b : Bool) (s : Console) (p q : Picture) → Held (record s { picture = p }) → Held (record s { picture = q }) → Held (record s { picture = (if b then p else q) })
held_picture_if true s p q one two = one
held_picture_if false s p q one two = two

held_sheets : (s : Console) (rows other : List (List Cell)) (alternate : Bool) → Held s
    → Held (record s { picture = record s.picture { rows = rows; other = other; alternate = alternate } })
held_sheets s rows other alternate held =
    let b = held.within in
    record {
      within = record { line = b.line; column = b.column; top = b.top; bottom = b.bottom; lines = b.lines; columns = b.columns };
      reached = reached_rows s rows other alternate s.picture.tabs held.reached;
    }

held_sheet : (value : Bool) (s : Console) → Held s → Held (sheet_shown value s)
held_sheet true s held = held_picture_if s.picture.alternate s s.picture _ held (held_sheets s _ s.picture.rows true held)
held_sheet false s held = held_picture_if s.picture.alternate s _ s.picture (held_sheets s s.picture.other s.picture.rows false held) held

held_save : (value : Bool) (s : Console) → Held s → Held (save_switched value s)
held_save true s held = held_saved s held
held_save false s held = held_restored s held

held_if : (b : Bool) (s t : Console) → Held s → Held t → Held (if b then s else t)
held_if true s t one two = one
held_if false s t one two = two

held_save_and_sheet : (value : Bool) (s : Console) → Held s → Held (save_and_sheet_switched value s)
held_save_and_sheet true s held = held_if s.picture.alternate s _ held (held_sheet true (saved s) (held_saved s held))
held_save_and_sheet false s held = held_restored (sheet_shown false s) (held_sheet false s held)

held_else : (s t : Console) → t.picture ≡ s.picture → t.modes.autowrap ≡ s.modes.autowrap → t.main_saved ≡ s.main_saved → t.alternate_saved ≡ s.alternate_saved
    → Held s → Held t
held_else s t picture autowrap main alternate held = record {
  within = subst Bounded (sym picture) held.within;
  reached = reached_else s t picture autowrap main alternate held.reached;
}

held_autowrap : (value : Bool) (s : Console) → Held s → Held (mode_effect value Decawm s)
held_autowrap true s held = record {
  within = held.within;
  reached = record {
    wraps = λ wrap. ((held.reached.wraps wrap).0, refl);
    margins = held.reached.margins;
    main_saved = held.reached.main_saved;
    alternate_saved = held.reached.alternate_saved;
  };
}
held_autowrap false s held =
    let b = held.within in
    record {
      within = record { line = b.line; column = b.column; top = b.top; bottom = b.bottom; lines = b.lines; columns = b.columns };
      reached = record {
        wraps = λ wrap. absurd (false≢true wrap);
        margins = held.reached.margins;
        main_saved = held.reached.main_saved;
        alternate_saved = held.reached.alternate_saved;
      };
    }

held_mode : (value : Bool) (mode : PrivateMode) (s : Console) → Held s → Held (mode_effect value mode s)
held_mode value Decckm s held = held_else s _ refl refl refl refl held
held_mode value Decscnm s held = held_else s _ refl refl refl refl held
held_mode value Decom s held =
    let there = reached_moved s (if value then s.picture.top else 1) 1 held.reached in
    record {
      within = bounded_home value s.picture held.within;
      reached = record { wraps = there.wraps; margins = there.margins; main_saved = there.main_saved; alternate_saved = there.alternate_saved };
    }
held_mode value Decawm s held = held_autowrap value s held
held_mode value Dectcem s held = held_else s _ refl refl refl refl held
held_mode value AlternateSheet s held = held_sheet value s held
held_mode value Save s held = held_save value s held
held_mode value SaveAndSheet s held = held_save_and_sheet value s held

held_row : (value : Bool) (mode : Option PrivateMode) (s : Console) → Held s → Held (effect_of (mode_effect value) mode s)
held_row value None s held = held
held_row value (Some mode) s held = held_mode value mode s held

held_modes : (value : Bool) (params : List ℕ) (s : Console) → Held s → Held (fold (mode_set value) s params)
held_modes value [] s held = held
held_modes value (param ∷ params) s held = held_modes value params (mode_set value s param) (held_row value (named private_modes param) s held)

reached_switched : (switch : Option Bool) (params : List ℕ) (s : Console) → Bounded s.picture → Reached s → Reached (effect_of (modes_set params) switch s)
reached_switched None params s within reached = reached
reached_switched (Some value) params s within reached = (held_modes value params s (record { within = within; reached = reached })).reached

-- ---- commands

reached_named : (row : Option Escape) (s : Console) → Bounded s.picture → Reached s → Reached (effect_of escape_effect row s)
reached_named None s within reached = reached
reached_named (Some escape) s within reached = reached_escape escape s within reached

reached_told : (row : Option Sequence) (params : List ℕ) (s : Console) → Bounded s.picture → Reached s → Reached (effect_of (λ row. sequence_effect row params) row s)
reached_told None params s within reached = reached
reached_told (Some sequence) params s within reached = reached_sequence sequence params s within reached

reached_control_sequence : (private : Bool) (last : ℕ) (params : List ℕ) (s : Console) → Bounded s.picture → Reached s → Reached (control_sequence_effect private last params s)
reached_control_sequence true last params s within reached = reached_switched (named switches last) params s within reached
reached_control_sequence false last params s within reached = reached_told (named sequences last) params s within reached

reached_effect : (command : Command) (s : Console) → Bounded s.picture → Reached s → Reached (effect command s)
unfolding effect
reached_effect (Show byte) s within reached = reached_put (character_for s byte) s reached
reached_effect Error s within reached = reached
reached_effect (ControlOf byte) s within reached = reached_row control_effect reached_control (named controls byte) s reached
reached_effect (Esc inter last) s within reached = reached_named (escape_named inter last) s within reached
reached_effect (Csi private params last) s within reached = reached_control_sequence private last params.items s within reached
reached_effect (Vt52 last) s within reached = reached
reached_effect (Vt52Address line column) s within reached = reached

pub reached_command : (command : Option Command) (s : Console) → Bounded s.picture → Reached s → Reached (effect_of effect command s)
reached_command None s within reached = reached
reached_command (Some command) s within reached = reached_effect command s within reached

pub reached_forgotten : (ends : Bool) (s : Console) → Reached s → Reached (forgotten_if ends s)
reached_forgotten true s reached = reached_last s None reached
reached_forgotten false s reached = reached

pub reached_titled : (value : Bool) (s : Console) → Reached s → Reached (title_set value s)
reached_titled value s reached = reached_else s _ refl refl refl refl reached
