-- What bytes leave on a terminal, from a reset one on: rows that can be drawn again.
use Rattle.std.proofs.Common.{◌≡◌, ℕ, zero, suc, ◌-◌, ◌≤◌, Bool, true, false, List, [], ◌∷◌, refl, sym, subst, inl, inr, ◌∙◌, arith, ◌==◌, ◌&&◌, ◌||◌, nat_le}
use Rattle.std.specs.Prelude.{if◌then◌else◌, fold, Option, Some, None, IfSome, slice_index}
use Rattle.std.specs.List.{list_all}
use Rattle.std.proofs.lemmas.Bool.{cases_Bool}
use Rattle.std.proofs.lemmas.Bool.Decides.{nat_tests}
use Rattle.std.proofs.lemmas.List.Sums.{AllPass-from_list_all}
use Rattle.characters.specs.Law.{AsciiIsNarrow, NoneIsWider}
use Rattle.characters.specs.Width.{width}
use Rattle.characters.specs.declared.utf8.Reading.{Reading}
use Rattle.characters.specs.declared.utf8.Reading.TheVariants.{Character, More, Broken}
use Rattle.characters.specs.Utf8.{IsFront, begins, reading, replacement}
use Rattle.characters.proofs.Spelled.{front_on}
use Rattle.vt_parser.specs.declared.commands.Mode.TheVariants.{Ansi}
use Rattle.vt_parser.specs.declared.commands.Command.{Command}
use Rattle.vt_parser.specs.declared.commands.Command.TheVariants.{Show, Error, Control as ControlOf, Esc, Csi, Vt52, Vt52Address}
use Rattle.vt_parser.specs.Syntax.{escape, is_graphic}
use Rattle.vt_parser.specs.Step.{command_of}
use Rattle.vt_parser.specs.Law.{CommandsAreProper, IsProper}
use Rattle.sheet.specs.declared.rendition.Colour.{Colour}
use Rattle.sheet.specs.declared.rendition.Colour.TheVariants.{Default, Palette, Direct}
use Rattle.sheet.specs.declared.rendition.Rendition.{Rendition}
use Rattle.sheet.specs.Cells.{plain_on}
use Rattle.xterm_screen.specs.Margins.{aligned}
use Rattle.xterm_screen.specs.Moves.{moved_home, wrap_cleared}
use Rattle.xterm_screen.specs.Picture.{Picture}
use Rattle.xterm_screen.specs.Puts.{width as columns_of}
use Rattle.xterm_screen.specs.Scrolls.{indexed}
use Rattle.xterm_term.specs.declared.modes.Modes.{Modes}
use Rattle.xterm_term.specs.declared.saved.Saved.{Saved}
use Rattle.xterm_term.specs.declared.sets.Sets.{Sets}
use Rattle.xterm_term.specs.declared.sets.CharacterSet.{CharacterSet}
use Rattle.xterm_term.specs.declared.sets.CharacterSet.TheVariants.{Ascii, Uk, SpecialGraphics}
use Rattle.xterm_term.specs.Console.{Console, on_paper, on_picture, reset_console, saved_here}
use Rattle.xterm_term.specs.Controls.{Control, Bs, Ht, Lf, Cr, So, Si, controls, control_effect, line_fed}
use Rattle.xterm_term.specs.Effect.{effect, control_sequence_effect}
use Rattle.xterm_term.specs.Escapes.{Escape, Ind, Nel, Ri, Hts, Decid, Ris, Decsc, Decrc, Deckpam, Deckpnm, Decaln, Title, Scs, escape_named, escape_effect, saved, restored, restored_from, saved_from}
use Rattle.xterm_term.specs.Graphics.{special_graphics}
use Rattle.xterm_term.specs.PrivateModes.{PrivateMode, Decom, Decawm, AlternateSheet, Save, SaveAndSheet, private_modes, switches, mode_effect, mode_set, modes_set, sheet_shown, save_switched, save_and_sheet_switched}
use Rattle.xterm_term.specs.Puts.{put, put_by_width, shown_with, is_c1, put_times, repeated, character_for}
use Rattle.xterm_term.specs.Renditions.{attribute_set, attribute_taken, colour_set, colour_taken, colour_told, direct_colour, is_within, palette_colour, rendition_set, renditions_set, tells_colour, used_up}
use Rattle.xterm_term.specs.Rows.{named, effect_of}
use Rattle.xterm_term.specs.Sequences.{Sequence, Cuu, Cud, Cuf, Cub, Cnl, Cpl, Cha, Vpr, Vpa, Cup, Cht, Cbt, Ed, El, Ech, Ich, Dch, Il, Dl, Su, Sd, Rep, Tbc, Sm, Rm, Sgr, Decstbm, Scosc, Scorc, sequences, sequence_effect, param_or}
use Rattle.xterm_term.specs.Sets.{character_of, set_in_use}
use Rattle.xterm_term.specs.Term.{Term, Outcome, step, play, read, gone_on, outcome_of, is_ground, ends_title, ends_last, forgotten_if, title_set, reset_term}
use Rattle.xterm_escaped.proofs.Cells.{IsByteRendition}
use Rattle.xterm_escaped.proofs.Colours.{IsByteColour}
use Rattle.xterm_escaped.proofs.Fitting.{IsShown}
use Rattle.xterm_escaped.proofs.FittingScreens.{PictureFits, fits_aligned, fits_alternate_shown, fits_cells_deleted, fits_cells_inserted, fits_columns_erased, fits_cursor, fits_display_erased, fits_indexed, fits_joined, fits_line_erased, fits_lines_deleted, fits_lines_inserted, fits_lowered, fits_main_shown, fits_margins_set, fits_next_line, fits_raised, fits_reset, fits_reverse_indexed, fits_shown, fits_tabs}
use Rattle.xterm_escaped.proofs.Redrawing.{IsMark}
use Rattle.xterm_escaped.proofs.Typed.{IsTypeable, read_typeable, typed}

-- ---- renditions

plain_fits : IsByteRendition (plain_on Default)
plain_fits = record { ink = tt; paper = tt }

either_rendition : (b : Bool) (r s : Rendition) → IsByteRendition r → IsByteRendition s → IsByteRendition (if b then r else s)
either_rendition true r s one two = one
either_rendition false r s one two = two

-- where each side may use the test
test_rendition : (b : Bool) (r s : Rendition) → (b ≡ true → IsByteRendition r) → IsByteRendition s → IsByteRendition (if b then r else s)
test_rendition true r s one two = one refl
test_rendition false r s one two = two

-- other attributes
abbrev Keeps : Rendition → Rendition → Type 0
Keeps r s = (s.ink ≡ r.ink) × (s.paper ≡ r.paper)

kept : (r s : Rendition) → Keeps r s → IsByteRendition r → IsByteRendition s
kept r s same is = record { ink = subst IsByteColour (sym same.0) is.ink; paper = subst IsByteColour (sym same.1) is.paper }

attribute_fits : (param : ℕ) (r : Rendition) → IsByteRendition r → IsByteRendition (attribute_set param r)
attribute_fits param r is =
    either_rendition (param == 0) _ _ plain_fits
    (either_rendition (param == 1) _ _ (kept r _ (refl, refl) is)
    (either_rendition (param == 2) _ _ (kept r _ (refl, refl) is)
    (either_rendition (param == 3) _ _ (kept r _ (refl, refl) is)
    (either_rendition (param == 4 || param == 21) _ _ (kept r _ (refl, refl) is)
    (either_rendition (param == 5 || param == 6) _ _ (kept r _ (refl, refl) is)
    (either_rendition (param == 7) _ _ (kept r _ (refl, refl) is)
    (either_rendition (param == 8) _ _ (kept r _ (refl, refl) is)
    (either_rendition (param == 9) _ r (kept r _ (refl, refl) is) is))))))))

taken_fits : (param : ℕ) (r : Rendition) → IsByteRendition r → IsByteRendition (attribute_taken param r)
taken_fits param r is =
    either_rendition (param == 22) _ _ (kept r _ (refl, refl) is)
    (either_rendition (param == 23) _ _ (kept r _ (refl, refl) is)
    (either_rendition (param == 24) _ _ (kept r _ (refl, refl) is)
    (either_rendition (param == 25) _ _ (kept r _ (refl, refl) is)
    (either_rendition (param == 27) _ _ (kept r _ (refl, refl) is)
    (either_rendition (param == 28) _ _ (kept r _ (refl, refl) is)
    (either_rendition (param == 29) _ r (kept r _ (refl, refl) is) is))))))

inked_fits : (colour : Colour) (r : Rendition) → IsByteColour colour → IsByteRendition r → IsByteRendition (record r { ink = colour })
inked_fits colour r low is = record { ink = low; paper = is.paper }

papered_fits : (colour : Colour) (r : Rendition) → IsByteColour colour → IsByteRendition r → IsByteRendition (record r { paper = colour })
papered_fits colour r low is = record { ink = is.ink; paper = low }

colour_fits : (param : ℕ) (r : Rendition) → IsByteRendition r → IsByteRendition (colour_set param r)
colour_fits param r is =
    test_rendition (is_within 30 37 param) _ _ (λ t. let low : param - 30 ≤ 255 = grind (arith, nat_tests) in inked_fits (Palette (param - 30)) r low is)
    (either_rendition (param == 39) _ _ (inked_fits Default r tt is)
    (test_rendition (is_within 40 47 param) _ _ (λ t. let low : param - 40 ≤ 255 = grind (arith, nat_tests) in papered_fits (Palette (param - 40)) r low is)
    (either_rendition (param == 49) _ _ (papered_fits Default r tt is)
    (test_rendition (is_within 90 97 param) _ _ (λ t. let low : param - 82 ≤ 255 = grind (arith, nat_tests) in inked_fits (Palette (param - 82)) r low is)
    (test_rendition (is_within 100 107 param) _ r (λ t. let low : param - 92 ≤ 255 = grind (arith, nat_tests) in papered_fits (Palette (param - 92)) r low is) is)))))

one_fits : (param : ℕ) (r : Rendition) → IsByteRendition r → IsByteRendition (rendition_set param r)
unfolding rendition_set
one_fits param r is =
    either_rendition (nat_le param 21) _ _ (attribute_fits param r is)
    (either_rendition (nat_le param 29) _ _ (taken_fits param r is) (colour_fits param r is))

-- colours that are told by more parameters
abbrev IsTold : Option Colour → Type 0
IsTold None = Unit {0}
IsTold (Some colour) = IsByteColour colour

either_told : (b : Bool) (one two : Option Colour) → (b ≡ true → IsTold one) → IsTold two → IsTold (if b then one else two)
either_told true one two first second = first refl
either_told false one two first second = second

told_palette : (rest : List ℕ) → IsTold (palette_colour rest)
told_palette [] = tt
told_palette (n ∷ rest) = either_told (nat_le n 255) (Some (Palette n)) None (λ t. leb n t) tt
  where
    leb : (n : ℕ) → nat_le n 255 ≡ true → n ≤ 255
    leb n t = grind (arith, nat_tests)

told_direct : (rest : List ℕ) → IsTold (direct_colour rest)
told_direct [] = tt
told_direct (red ∷ []) = tt
told_direct (red ∷ green ∷ []) = tt
told_direct (red ∷ green ∷ blue ∷ rest) =
    either_told (nat_le red 255 && nat_le green 255 && nat_le blue 255) (Some (Direct red green blue)) None
    (λ t. (grind (arith, nat_tests), grind (arith, nat_tests), grind (arith, nat_tests))) tt

told_is : (rest : List ℕ) → IsTold (colour_told rest)
told_is [] = tt
told_is (kind ∷ rest) =
    either_told (kind == 5) (palette_colour rest) _ (λ t. told_palette rest)
    (either_told (kind == 2) (direct_colour rest) None (λ t. told_direct rest) tt)

taken_colour_fits : (param : ℕ) (told : Option Colour) (r : Rendition) → IsTold told → IsByteRendition r → IsByteRendition (colour_taken param told r)
taken_colour_fits param None r low is = is
taken_colour_fits param (Some colour) r low is =
    either_rendition (param == 38) _ _ (inked_fits colour r low is) (either_rendition (param == 48) _ r (papered_fits colour r low is) is)

either_more : (b : Bool) (used : ℕ) (rest : List ℕ) (r s : Rendition) → IsByteRendition (renditions_set used rest r) → IsByteRendition (renditions_set 0 rest s)
    → IsByteRendition (if b then renditions_set used rest r else renditions_set 0 rest s)
either_more true used rest r s one two = one
either_more false used rest r s one two = two

pub rendition_fits : (used : ℕ) (params : List ℕ) (r : Rendition) → IsByteRendition r → IsByteRendition (renditions_set used params r)
unfolding renditions_set
rendition_fits zero [] r is = is
rendition_fits (suc used) [] r is = is
rendition_fits (suc used) (param ∷ rest) r is = rendition_fits used rest r is
rendition_fits zero (param ∷ rest) r is =
    either_more (tells_colour param) (used_up rest) rest _ _
    (rendition_fits (used_up rest) rest (colour_taken param (colour_told rest) r) (taken_colour_fits param (colour_told rest) r (told_is rest) is))
    (rendition_fits 0 rest (rendition_set param r) (one_fits param r is))

-- ---- characters of the sets

typeable_test : ℕ → Bool
typeable_test c = is_graphic c || (nat_le 0x80 c && nat_le c 0xD7FF)

tested : (c : ℕ) → typeable_test c ≡ true → IsTypeable c
unfolding typeable_test
tested c test = elim (cases_Bool (is_graphic c)) [
  | inl graphic ↦ inl graphic
  | inr none ↦ inr (grind (arith, nat_tests), inl (grind (arith, nat_tests)))
]

graphics_pass : list_all typeable_test special_graphics ≡ true
unfolding typeable_test
graphics_pass = refl

either_typeable : (b : Bool) (c d : ℕ) → (b ≡ true → IsTypeable c) → IsTypeable d → IsTypeable (if b then c else d)
either_typeable true c d one two = one refl
either_typeable false c d one two = two

graphic : (byte : ℕ) → 32 ≤ byte → byte ≤ 126 → is_graphic byte ≡ true
graphic byte low high = grind (arith, nat_tests)

pub set_typeable : (set : CharacterSet) (byte : ℕ) → 32 ≤ byte → byte ≤ 126 → IsTypeable (character_of set byte)
unfolding character_of typeable_test
set_typeable Ascii byte low high = inl (graphic byte low high)
set_typeable Uk byte low high = either_typeable (byte == 35) 0xA3 byte (λ t. tested 0xA3 refl) (inl (graphic byte low high))
set_typeable SpecialGraphics byte low high =
    either_typeable (nat_le 95 byte) (slice_index special_graphics (byte - 95)) byte
    (λ t. tested _ (AllPass-from_list_all typeable_test special_graphics graphics_pass (byte - 95) 0 (omega arith))) (inl (graphic byte low high))

-- ---- consoles

abbrev pub IsLast : Option ℕ → Type 0
IsLast None = Unit {0}
IsLast (Some character) = IsTypeable character

abbrev pub IsSavedRendition : Option Saved → Type 0
IsSavedRendition None = Unit {0}
IsSavedRendition (Some save) = IsByteRendition save.rendition

pub record Fit (s : Console) : Type 0 where
  pub picture : PictureFits s.picture
  pub rendition : IsByteRendition s.rendition
  pub last : IsLast s.last
  pub main_saved : IsSavedRendition s.main_saved
  pub alternate_saved : IsSavedRendition s.alternate_saved

-- another picture
fit_on : (s : Console) (p : Picture) → PictureFits p → Fit s → Fit (record s { picture = p })
fit_on s p is fit = record { picture = is; rendition = fit.rendition; last = fit.last; main_saved = fit.main_saved; alternate_saved = fit.alternate_saved }

-- another rendition
fit_rendition : (s : Console) (r : Rendition) → IsByteRendition r → Fit s → Fit (record s { rendition = r })
fit_rendition s r is fit = record { picture = fit.picture; rendition = is; last = fit.last; main_saved = fit.main_saved; alternate_saved = fit.alternate_saved }

-- another last character
fit_last : (s : Console) (last : Option ℕ) → IsLast last → Fit s → Fit (record s { last = last })
fit_last s last is fit = record { picture = fit.picture; rendition = fit.rendition; last = is; main_saved = fit.main_saved; alternate_saved = fit.alternate_saved }

-- what has no part in it
fit_else : (s : Console) (modes : Modes) (sets : Sets) (title : Bool) → Fit s → Fit (record s { modes = modes; sets = sets; title = title })
fit_else s modes sets title fit =
    record { picture = fit.picture; rendition = fit.rendition; last = fit.last; main_saved = fit.main_saved; alternate_saved = fit.alternate_saved }

either_fit : (b : Bool) (s t : Console) → Fit s → Fit t → Fit (if b then s else t)
either_fit true s t one two = one
either_fit false s t one two = two

-- to another place
fit_moved : (s : Console) (line column : ℕ) (wrap : Bool) → Fit s → Fit (record s { picture = record s.picture { line = line; column = column; wrap = wrap } })
fit_moved s line column wrap fit = fit_on s _ (fits_cursor line column wrap s.picture fit.picture) fit

-- a row of a table, or none
fit_row : {Name : Type 0} (change : Name → Console → Console) → ((row : Name) (s : Console) → Fit s → Fit (change row s)) → (row : Option Name) (s : Console)
    → Fit s → Fit (effect_of change row s)
fit_row change each None s fit = fit
fit_row change each (Some row) s fit = each row s fit

fit_saved_if : (alternate : Bool) (s : Console) → Fit s
    → Fit (if alternate then record s { alternate_saved = Some (saved_from s) } else record s { main_saved = Some (saved_from s) })
fit_saved_if true s fit =
    record { picture = fit.picture; rendition = fit.rendition; last = fit.last; main_saved = fit.main_saved; alternate_saved = fit.rendition }
fit_saved_if false s fit =
    record { picture = fit.picture; rendition = fit.rendition; last = fit.last; main_saved = fit.rendition; alternate_saved = fit.alternate_saved }

fit_saved : (s : Console) → Fit s → Fit (saved s)
fit_saved s fit = fit_saved_if s.picture.alternate s fit

well_if : (alternate : Bool) (there main : Option Saved) → IsSavedRendition there → IsSavedRendition main → IsSavedRendition (if alternate then there else main)
well_if true there main one two = one
well_if false there main one two = two

fit_restored_from : (save : Option Saved) (s : Console) → IsSavedRendition save → Fit s → Fit (restored_from save s)
fit_restored_from None s well fit = record {
  picture = fits_cursor _ 1 false s.picture fit.picture;
  rendition = plain_fits;
  last = fit.last;
  main_saved = fit.main_saved;
  alternate_saved = fit.alternate_saved;
}
fit_restored_from (Some save) s well fit = record {
  picture = fits_cursor _ _ _ s.picture fit.picture;
  rendition = well;
  last = fit.last;
  main_saved = fit.main_saved;
  alternate_saved = fit.alternate_saved;
}

fit_restored : (s : Console) → Fit s → Fit (restored s)
fit_restored s fit = fit_restored_from (saved_here s) s (well_if s.picture.alternate s.alternate_saved s.main_saved fit.alternate_saved fit.main_saved) fit

pub record FitLaws : Type 0 where
  pub ascii : AsciiIsNarrow
  pub most : NoneIsWider
  pub proper : CommandsAreProper

module _ (laws : FitLaws) where
  pub fit_reset : (columns lines : ℕ) → Fit (reset_console columns lines)
  fit_reset columns lines =
      record { picture = fits_reset laws.ascii columns lines; rendition = plain_fits; last = tt; main_saved = tt; alternate_saved = tt }

  -- ---- characters

  last_if : (b : Bool) (character : ℕ) → IsTypeable character → IsLast (if b then None else Some character)
  last_if true character is = tt
  last_if false character is = is

  fit_shown : (wide : Bool) (character : ℕ) (s : Console) → IsShown character wide → IsTypeable character → Fit s → Fit (shown_with wide character s)
  fit_shown wide character s can is fit = record {
    picture = fits_shown laws.ascii character wide s.rendition s.modes.autowrap s.modes.insert can fit.rendition s.picture fit.picture;
    rendition = fit.rendition;
    last = last_if _ character is;
    main_saved = fit.main_saved;
    alternate_saved = fit.alternate_saved;
  }

  columns_are : (n : ℕ) → suc n ≤ 2 → suc n ≡ columns_of (n == 1)
  columns_are zero few = refl
  columns_are (suc zero) few = refl
  columns_are (suc (suc n)) few = absurd (omega (arith, few))

  fit_by_width : (n character : ℕ) (s : Console) → is_c1 character ≡ false → width character ≡ n → IsTypeable character → Fit s → Fit (put_by_width n character s)
  fit_by_width zero character s no_c1 same is fit =
      let mark : IsMark character = record { no_c1 = no_c1; none = same; typed = typed character is } in
      fit_on s _ (fits_joined laws.ascii character s.picture mark fit.picture) fit
  fit_by_width (suc n) character s no_c1 same is fit =
      let few = laws.most character in
      let can : IsShown character (n == 1) = record { no_c1 = no_c1; columns = same ∙ columns_are n (subst (λ m. m ≤ 2) same few); typed = typed character is } in
      fit_shown (n == 1) character s can is fit

  fit_put_if : (c1 : Bool) (character : ℕ) (s : Console) → is_c1 character ≡ c1 → IsTypeable character → Fit s
      → Fit (if c1 then record s { last = None } else put_by_width (width character) character s)
  fit_put_if true character s c1 is fit = fit_last s None tt fit
  fit_put_if false character s c1 is fit = fit_by_width (width character) character s c1 refl is fit

  pub fit_put : (character : ℕ) (s : Console) → IsTypeable character → Fit s → Fit (put character s)
  unfolding put
  fit_put character s is fit = fit_put_if (is_c1 character) character s refl is fit

  fit_times : (n character : ℕ) (s : Console) → IsTypeable character → Fit s → Fit (put_times n character s)
  fit_times zero character s is fit = fit
  fit_times (suc n) character s is fit = fit_put character (put_times n character s) is (fit_times n character s is fit)

  fit_repeated : (n : ℕ) (last : Option ℕ) (s : Console) → IsLast last → Fit s → Fit (repeated n last s)
  fit_repeated n None s is fit = fit
  fit_repeated n (Some character) s is fit = fit_times n character s is fit

  -- ---- controls and escape sequences

  fit_indexed : (s : Console) → Fit s → Fit (on_paper indexed s)
  fit_indexed s fit = fit_on s _ (fits_indexed laws.ascii s.rendition.paper s.picture fit.rendition.paper fit.picture) fit

  fit_next : (s : Console) → Fit s → Fit (on_paper (line_fed true) s)
  fit_next s fit = fit_on s _ (fits_next_line laws.ascii s.rendition.paper s.picture fit.rendition.paper fit.picture) fit

  fit_lf : (newline : Bool) (s : Console) → Fit s → Fit (on_paper (line_fed newline) s)
  fit_lf true s fit = fit_next s fit
  fit_lf false s fit = fit_indexed s fit

  fit_control : (control : Control) (s : Console) → Fit s → Fit (control_effect control s)
  fit_control Bs s fit = fit_moved s s.picture.line _ false fit
  fit_control Ht s fit = fit_moved s s.picture.line _ s.picture.wrap fit
  fit_control Lf s fit = fit_lf s.modes.newline s fit
  fit_control Cr s fit = fit_moved s s.picture.line 1 false fit
  fit_control So s fit = fit_else s s.modes _ s.title fit
  fit_control Si s fit = fit_else s s.modes _ s.title fit

  fit_tabs : (s : Console) (tabs : List Bool) → Fit s → Fit (record s { picture = record s.picture { tabs = tabs } })
  fit_tabs s tabs fit = fit_on s _ (fits_tabs tabs s.picture fit.picture) fit

  fit_tabs_if : (b c : Bool) (one two : List Bool) (s : Console) → Fit s
      → Fit (record s { picture = (if b then record s.picture { tabs = one } else (if c then record s.picture { tabs = two } else s.picture)) })
  fit_tabs_if true c one two s fit = fit_tabs s one fit
  fit_tabs_if false true one two s fit = fit_tabs s two fit
  fit_tabs_if false false one two s fit = fit

  fit_escape : (escape : Escape) (s : Console) → Fit s → Fit (escape_effect escape s)
  fit_escape Ind s fit = fit_indexed s fit
  fit_escape Nel s fit = fit_next s fit
  fit_escape Ri s fit = fit_on s _ (fits_reverse_indexed laws.ascii s.rendition.paper s.picture fit.rendition.paper fit.picture) fit
  fit_escape Hts s fit = fit_tabs s _ fit
  fit_escape Decid s fit = fit
  fit_escape Ris s fit = fit_reset s.picture.columns s.picture.lines
  fit_escape Decsc s fit = fit_saved s fit
  fit_escape Decrc s fit = fit_restored s fit
  fit_escape Deckpam s fit = fit_else s _ s.sets s.title fit
  fit_escape Deckpnm s fit = fit_else s _ s.sets s.title fit
  fit_escape Decaln s fit =
      fit_else (on_picture aligned s) _ s.sets s.title
      (fit_on s _ (fits_aligned laws.ascii s.picture fit.picture) fit)
  fit_escape Title s fit = fit_else s s.modes s.sets true fit
  fit_escape (Scs slot set) s fit = fit_else s s.modes _ s.title fit

  -- ---- control sequences

  picture_if : (b : Bool) (s : Console) (p q : Picture) → PictureFits p → PictureFits q → Fit s → Fit (record s { picture = (if b then p else q) })
  picture_if true s p q one two fit = fit_on s p one fit
  picture_if false s p q one two fit = fit_on s q two fit

  fit_sequence : (sequence : Sequence) (params : List ℕ) (s : Console) → Fit s → Fit (sequence_effect sequence params s)
  fit_sequence Cuu params s fit = fit_moved s _ s.picture.column false fit
  fit_sequence Cud params s fit = fit_moved s _ s.picture.column false fit
  fit_sequence Cuf params s fit = fit_moved s s.picture.line _ false fit
  fit_sequence Cub params s fit = fit_moved s s.picture.line _ false fit
  fit_sequence Cnl params s fit = fit_moved s _ 1 false fit
  fit_sequence Cpl params s fit = fit_moved s _ 1 false fit
  fit_sequence Cha params s fit = fit_moved s s.picture.line _ false fit
  fit_sequence Vpr params s fit = fit_moved s _ s.picture.column false fit
  fit_sequence Vpa params s fit = fit_moved s _ s.picture.column false fit
  fit_sequence Cup params s fit = fit_moved s _ _ false fit
  fit_sequence Cht params s fit = fit_moved s s.picture.line _ s.picture.wrap fit
  fit_sequence Cbt params s fit = fit_moved s s.picture.line _ false fit
  fit_sequence Ed params s fit =
      picture_if (nat_le (param_or params 0 0) 2) s _ s.picture
      (fits_display_erased laws.ascii (param_or params 0 0) s.rendition.paper s.picture fit.rendition.paper fit.picture) fit.picture fit
  fit_sequence El params s fit =
      picture_if (nat_le (param_or params 0 0) 2) s _ s.picture
      (fits_line_erased laws.ascii (param_or params 0 0) s.rendition.paper s.picture fit.rendition.paper fit.picture) fit.picture fit
  fit_sequence Ech params s fit = fit_on s _ (fits_columns_erased laws.ascii _ _ s.rendition.paper s.picture fit.rendition.paper fit.picture) fit
  fit_sequence Ich params s fit = fit_on s _ (fits_cells_inserted laws.ascii (param_or params 0 1) s.rendition.paper s.picture fit.rendition.paper fit.picture) fit
  fit_sequence Dch params s fit = fit_on s _ (fits_cells_deleted laws.ascii (param_or params 0 1) s.rendition.paper s.picture fit.rendition.paper fit.picture) fit
  fit_sequence Il params s fit = fit_on s _ (fits_lines_inserted laws.ascii (param_or params 0 1) s.rendition.paper s.picture fit.rendition.paper fit.picture) fit
  fit_sequence Dl params s fit = fit_on s _ (fits_lines_deleted laws.ascii (param_or params 0 1) s.rendition.paper s.picture fit.rendition.paper fit.picture) fit
  fit_sequence Su params s fit =
      fit_on s _ (fits_raised laws.ascii (param_or params 0 1) s.picture.top s.picture.bottom s.rendition.paper s.picture fit.rendition.paper fit.picture.bottom_high fit.picture) fit
  fit_sequence Sd params s fit =
      picture_if _ s _ s.picture
      (fits_lowered laws.ascii (param_or params 0 1) s.picture.top s.picture.bottom s.rendition.paper s.picture fit.rendition.paper fit.picture.top_low fit.picture) fit.picture fit
  fit_sequence Rep params s fit = fit_repeated (param_or params 0 1) s.last s fit.last fit
  fit_sequence Tbc params s fit = fit_tabs_if (param_or params 0 0 == 0) (param_or params 0 0 == 3) _ _ s fit
  fit_sequence Sm params s fit = fit_else s _ s.sets s.title fit
  fit_sequence Rm params s fit = fit_else s _ s.sets s.title fit
  fit_sequence Sgr params s fit = fit_rendition s _ (rendition_fits 0 params s.rendition fit.rendition) fit
  fit_sequence Decstbm params s fit =
      fit_on s _ (fits_margins_set laws.ascii (param_or params 0 1) (param_or params 1 s.picture.lines) s.modes.origin s.picture fit.picture) fit
  fit_sequence Scosc params s fit = fit_saved s fit
  fit_sequence Scorc params s fit = fit_restored s fit
  fit_sequence _ params s fit = fit

  -- ---- modes

  fit_autowrap : (value : Bool) (s : Console) → Fit s → Fit (mode_effect value Decawm s)
  fit_autowrap true s fit = fit_else s _ s.sets s.title fit
  fit_autowrap false s fit = fit_else (on_picture wrap_cleared s) _ s.sets s.title (fit_moved s s.picture.line s.picture.column false fit)

  fit_sheet : (value : Bool) (s : Console) → Fit s → Fit (sheet_shown value s)
  fit_sheet true s fit = fit_on s _ (fits_alternate_shown laws.ascii s.rendition.paper s.picture fit.rendition.paper fit.picture) fit
  fit_sheet false s fit = fit_on s _ (fits_main_shown laws.ascii s.picture fit.picture) fit

  fit_save : (value : Bool) (s : Console) → Fit s → Fit (save_switched value s)
  fit_save true s fit = fit_saved s fit
  fit_save false s fit = fit_restored s fit

  fit_save_and_sheet : (value : Bool) (s : Console) → Fit s → Fit (save_and_sheet_switched value s)
  fit_save_and_sheet true s fit = either_fit s.picture.alternate s _ fit (fit_sheet true (saved s) (fit_saved s fit))
  fit_save_and_sheet false s fit = fit_restored (sheet_shown false s) (fit_sheet false s fit)

  fit_mode : (value : Bool) (mode : PrivateMode) (s : Console) → Fit s → Fit (mode_effect value mode s)
  fit_mode value Decom s fit = fit_else (on_picture (moved_home value) s) _ s.sets s.title (fit_moved s _ 1 false fit)
  fit_mode value Decawm s fit = fit_autowrap value s fit
  fit_mode value AlternateSheet s fit = fit_sheet value s fit
  fit_mode value Save s fit = fit_save value s fit
  fit_mode value SaveAndSheet s fit = fit_save_and_sheet value s fit
  fit_mode value _ s fit = fit_else s _ s.sets s.title fit

  fit_modes : (value : Bool) (params : List ℕ) (s : Console) → Fit s → Fit (fold (mode_set value) s params)
  fit_modes value [] s fit = fit
  fit_modes value (param ∷ params) s fit =
      fit_modes value params (mode_set value s param) (fit_row (mode_effect value) (fit_mode value) (named private_modes param) s fit)

  fit_control_sequence : (private : Bool) (last : ℕ) (params : List ℕ) (s : Console) → Fit s → Fit (control_sequence_effect private last params s)
  fit_control_sequence true last params s fit = fit_row (modes_set params) (λ value. fit_modes value params) (named switches last) s fit
  fit_control_sequence false last params s fit = fit_row (λ row. sequence_effect row params) (λ row. fit_sequence row params) (named sequences last) s fit

  -- ---- commands and bytes

  fit_effect : (command : Command) (s : Console) → IsProper command → Fit s → Fit (effect command s)
  unfolding effect
  fit_effect (Show byte) s proper fit = fit_put (character_for s byte) s (set_typeable (set_in_use s.sets) byte proper.0 proper.1) fit
  fit_effect Error s proper fit = fit
  fit_effect (ControlOf byte) s proper fit = fit_row control_effect fit_control (named controls byte) s fit
  fit_effect (Esc inter last) s proper fit = fit_row escape_effect fit_escape (escape_named inter last) s fit
  fit_effect (Csi private params last) s proper fit = fit_control_sequence private last params.items s fit
  fit_effect (Vt52 last) s proper fit = fit
  fit_effect (Vt52Address line column) s proper fit = fit

  fit_command : (command : Option Command) (s : Console) → IfSome command IsProper → Fit s → Fit (effect_of effect command s)
  fit_command None s proper fit = fit
  fit_command (Some command) s proper fit = fit_effect command s proper fit

  fit_if_forgotten : (ends : Bool) (s : Console) → Fit s → Fit (forgotten_if ends s)
  fit_if_forgotten true s fit = fit_last s None tt fit
  fit_if_forgotten false s fit = fit

  fit_title : (value : Bool) (s : Console) → Fit s → Fit (title_set value s)
  fit_title value s fit = fit_else s s.modes s.sets value fit

  pub record FitOutcome (o : Outcome) : Type 0 where
    pub is : Fit o.console
    pub front : IsFront o.character

  fit_either : (b : Bool) (o q : Outcome) → (b ≡ true → FitOutcome o) → FitOutcome q → FitOutcome (if b then o else q)
  fit_either true o q one two = one refl
  fit_either false o q one two = two

  fit_replacement : (s : Console) → Fit s → Fit (put replacement s)
  fit_replacement s fit = fit_put replacement s (inr (omega arith, inr (omega arith, omega arith))) fit

  fit_read : (s : Console) (sequence : List ℕ) (byte : ℕ) → Fit s → FitOutcome (read s sequence byte)
  unfolding read
  fit_read s sequence byte fit =
      let titled = fit_title false s fit in
      fit_either s.title _ _
      (λ t. fit_either (byte == escape) _ _ (λ e. record { is = titled; front = tt })
      (fit_either (ends_title byte) _ _ (λ e. record { is = titled; front = tt }) (record { is = fit; front = tt })))
      (fit_either (is_ground sequence && nat_le 128 byte) _ _
      (λ g. fit_either (begins byte) _ _ (λ begun. record { is = fit; front = begun }) (record { is = fit_replacement s fit; front = tt }))
      (record {
        is = fit_if_forgotten (ends_last sequence byte) _ (fit_command (command_of Ansi sequence byte) s (laws.proper Ansi sequence byte) fit);
        front = tt;
      }))

  fit_gone : (r : Reading) (s : Console) (sequence character : List ℕ) (byte : ℕ) → Fit s → IsFront character → reading character byte ≡ r
      → FitOutcome (gone_on r s sequence character byte)
  fit_gone (Character c) s sequence character byte fit front is =
      record { is = fit_put c s (read_typeable character byte c front is) fit; front = tt }
  fit_gone More s sequence character byte fit front is = record { is = fit; front = front_on character byte front is }
  fit_gone Broken s sequence character byte fit front is = fit_read (put replacement s) sequence byte (fit_replacement s fit)

  pub fit_outcome : (s : Console) (sequence character : List ℕ) (byte : ℕ) → Fit s → IsFront character → FitOutcome (outcome_of s sequence character byte)
  unfolding outcome_of
  fit_outcome s sequence character byte fit front =
      fit_either (is_ground character) _ _ (λ g. fit_read s sequence byte fit)
      (fit_gone (reading character byte) s sequence character byte fit front refl)

  fit_play : (x : Term) (bytes : List ℕ) → Fit x.console → IsFront x.character → Fit (play x bytes).console
  unfolding play
  fit_play x [] fit front = fit
  fit_play x (byte ∷ bytes) fit front =
      let o = fit_outcome x.console x.sequence x.character byte fit front in
      fit_play (step x byte) bytes o.is o.front

  -- what bytes come to from a reset term
  pub fit_played : (columns lines : ℕ) (bytes : List ℕ) → Fit (play (reset_term columns lines) bytes).console
  fit_played columns lines bytes = fit_play (reset_term columns lines) bytes (fit_reset columns lines) tt
