-- A cell drawn behind others: its rendition, its character and its marks.
use Rattle.std.proofs.Common.{◌≡◌, ◌⊎◌, ℕ, ◌<◌, ◌≤◌, Bool, true, false, List, [], ◌∷◌, ◌++◌, length, drop, encode_utf8, refl, sym, ap, inl, inr, ◌∙◌, arith}
use Rattle.std.specs.Prelude.{nat_lt, if◌then◌else◌, Option}
use Rattle.std.specs.List.{flat_map}
use Rattle.std.proofs.lemmas.Bool.{cases_Bool}
use Rattle.std.proofs.lemmas.Bool.Decides.{nat_tests}
use Rattle.std.proofs.lemmas.Str.{encode_ascii}
use Rattle.characters.specs.Utf8.{Spells}
use Rattle.vt_parser.specs.Decimals.{params_text}
use Rattle.vt_parser.specs.Law.{GraphicIsShown, WrittenSequencesFinish, WrittenPrivatesFinish}
use Rattle.vt_parser.specs.Syntax.{escape, is_graphic}
use Rattle.sheet.specs.declared.rendition.Colour.{Colour}
use Rattle.sheet.specs.declared.rendition.Colour.TheVariants.{Default, Palette, Direct}
use Rattle.sheet.specs.declared.rendition.Rendition.{Rendition}
use Rattle.sheet.specs.Cells.{Cell}
use Rattle.xterm_rows.specs.Ink.{colour_number}
use Rattle.xterm_term.specs.declared.sets.CharacterSet.{CharacterSet}
use Rattle.xterm_term.specs.declared.sets.CharacterSet.TheVariants.{Ascii}
use Rattle.xterm_term.specs.Console.{Console}
use Rattle.xterm_term.specs.Puts.{put}
use Rattle.xterm_term.specs.Sets.{character_of, set_in_use}
use Rattle.xterm_escaped.specs.EscapedText.{colour_text, is_told, letters_text, paper_text, rendition_set_text, rendition_text, same_rendition, text_where}
use Rattle.xterm_escaped.proofs.Colours.{IsByteColour, paper_set}
use Rattle.xterm_escaped.proofs.Led.{Leads, ascii_leads, ended, leads_as, leads_both, leads_none, sequence_leads, spelled_leads}
use Rattle.xterm_escaped.proofs.Numbers.{colour_numbers, further, params_further}
use Rattle.xterm_escaped.proofs.Params.{are_params, IsShort, letters_lead, low_text, short_colour}
use Rattle.xterm_escaped.proofs.Same.{same_decides}
use Rattle.xterm_escaped.proofs.Shown.{drawing}
use Rattle.xterm_escaped.proofs.Texts.{colour_written, none_told}

pub record LawsBelow : Type 0 where
  pub sequences : WrittenSequencesFinish
  pub privates : WrittenPrivatesFinish
  pub graphic : GraphicIsShown

-- ---- renditions

pub record IsByteRendition (r : Rendition) : Type 0 where
  pub ink : IsByteColour r.ink
  pub paper : IsByteColour r.paper

from_further : (numbers t : List ℕ) → 0 < length numbers → (59 ∷ t) ≡ flat_map further numbers → params_text numbers ≡ t
from_further [] t some e = absurd (omega arith)
from_further (n ∷ rest) t some e = params_further n rest ∙ sym (ap (λ l. drop 1 l) e)

either_some : (b : Bool) (xs ys : List ℕ) → 0 < length xs → 0 < length ys → 0 < length (if b then xs else ys)
either_some true xs ys one two = one
either_some false xs ys one two = two

told_some : (colour : Colour) → is_told colour ≡ true → 0 < length (colour_numbers 40 colour)
unfolding colour_number
told_some Default told = absurd cc
told_some (Palette n) told = either_some (nat_lt n 8) _ _ (omega arith) (either_some (nat_lt n 16) _ _ (omega arith) (omega arith))
told_some (Direct red green blue) told = omega arith

wider : (m n : ℕ) (xs : List ℕ) → m ≤ n → IsShort m xs → IsShort n xs
wider m n xs le short = let few = short.few in record { few = omega arith; all = short.all }

module _ (laws : LawsBelow) (c : Console) (title : c.title ≡ false) (rows : List (List Cell)) (line column : ℕ) (wrap : Bool) where
  paper_leads : (r : Rendition) → r.paper ≡ Default → (paper : Colour) → IsByteColour paper
      → Leads (drawing c rows line column wrap r) (paper_text paper) (drawing c rows line column wrap (record r { paper = paper }))
  paper_leads r none paper is =
      let s : Console = drawing c rows line column wrap r in
      let t : Console = drawing c rows line column wrap (record r { paper = paper }) in
      let text : List ℕ = escape ∷ 91 ∷ (colour_text 40 paper ++ 109 ∷ []) in
      elim (cases_Bool (is_told paper)) [
        | inl told ↦
            (let numbers = colour_numbers 40 paper in
            let short = short_colour 40 paper (omega arith) is in
            let some = told_some paper told in
            leads_as s t t (escape ∷ 91 ∷ (params_text numbers ++ 109 ∷ [])) (paper_text paper)
            (sequence_leads laws.sequences s t numbers 109 title (are_params numbers some (wider 5 16 numbers (omega arith) short)) (low_text numbers short.all) refl
            (λ l. ap (λ q. let u : Console = ended l (drawing c rows line column wrap q) in u) (paper_set paper r is none)) (λ l. refl))
            (ap (λ u. escape ∷ 91 ∷ (u ++ 109 ∷ [])) (from_further numbers (colour_text 40 paper) some (colour_written 40 paper told)) ∙ sym (ap (λ b. text_where b text) told))
            refl)
        | inr untold ↦
            leads_as s s t [] (paper_text paper) (leads_none s) (sym (ap (λ b. text_where b text) untold))
            (ap (λ p. let u : Console = drawing c rows line column wrap (record r { paper = p }) in u) (none ∙ sym (none_told paper untold)))
      ]

  pub set_leads : (last r : Rendition) → IsByteRendition r → Leads (drawing c rows line column wrap last) (rendition_set_text r) (drawing c rows line column wrap r)
  unfolding rendition_set_text
  set_leads last r is =
      let bare : Rendition = record r { paper = Default } in
      leads_both (drawing c rows line column wrap last) (drawing c rows line column wrap bare) (drawing c rows line column wrap r)
      (letters_text r) (paper_text r.paper)
      (letters_lead laws.sequences c rows line column wrap last r title is.ink) (paper_leads bare refl r.paper is.paper)

  pub change_leads : (last r : Rendition) → IsByteRendition last → IsByteRendition r
      → Leads (drawing c rows line column wrap last) (rendition_text last r) (drawing c rows line column wrap r)
  change_leads last r before is =
      let s : Console = drawing c rows line column wrap last in
      let t : Console = drawing c rows line column wrap r in
      elim (cases_Bool (same_rendition last r)) [
        | inl same ↦ leads_as s s t [] (rendition_text last r) (leads_none s) (sym (ap (λ b. if b then [] else rendition_set_text r) same))
            (ap (λ q. let u : Console = drawing c rows line column wrap q in u) (same_decides last r before.ink before.paper is.ink is.paper same))
        | inr other ↦ leads_as s t t (rendition_set_text r) (rendition_text last r) (set_leads last r is)
            (sym (ap (λ b. if b then [] else rendition_set_text r) other)) refl
      ]

-- ---- characters

-- its UTF-8 is read as itself
abbrev pub IsTyped : ℕ → Type 0
IsTyped character = (is_graphic character ≡ true) ⊎ Spells (encode_utf8 character) character

as_itself : (set : CharacterSet) (byte : ℕ) → set ≡ Ascii → character_of set byte ≡ byte
unfolding character_of
as_itself set byte is = ap (λ s. character_of s byte) is

below_128 : (byte : ℕ) → is_graphic byte ≡ true → byte < 128
below_128 byte is = grind (arith, nat_tests)

pub typed_leads : LawsBelow → (s t : Console) (character : ℕ) → s.title ≡ false → set_in_use s.sets ≡ Ascii → IsTyped character
    → ((l : Option ℕ) → (after : Option ℕ) × (put character (ended l s) ≡ ended after t)) → Leads s (encode_utf8 character) t
typed_leads laws s t character title set (inl graphic) puts =
    let same = as_itself (set_in_use s.sets) character set in
    leads_as s t t (character ∷ []) (encode_utf8 character)
    (ascii_leads laws.graphic s t character title graphic (λ l. ((puts l).0, ap (λ k. put k (ended l s)) same ∙ (puts l).1)))
    (sym (encode_ascii character (below_128 character graphic))) refl
typed_leads laws s t character title set (inr spells) puts = spelled_leads s t (encode_utf8 character) character title spells puts
