-- How paints and attributes are written: classes, each told by one letter, and colours (ours).
use Rattle.std.specs.Prelude.{ℕ, ◌/◌, ◌%◌, Bool, not, List, [], ◌∷◌, ◌++◌, codes, slice_index_or, if◌then◌else◌}
use Rattle.std.specs.List.{flat_map}
use Rattle.sheet.specs.declared.rendition.Rendition.{Rendition}
use Rattle.xterm_rows.specs.declared.runs.Kind.{Kind}
use Rattle.xterm_picture.specs.Colours.{ink_paint}
use Rattle.xterm_picture.specs.declared.colour_table.Rgb.{Rgb}
use Rattle.xterm_picture.specs.declared.colours.Paint.{Paint}
use Rattle.xterm_picture.specs.declared.colours.Paint.TheVariants.{Ink, Back, Fill}

-- a text, or none
abbrev pub text_where : Bool → List ℕ → List ℕ
text_where holds text = if holds then text else []

-- what is ink on the screen: i, or p on a reversed screen
abbrev pub ink_of : Bool → ℕ
ink_of reversed = if reversed then 112 else 105

-- what is its ground: p, or i on a reversed screen
abbrev pub back_of : Bool → ℕ
back_of reversed = if reversed then 105 else 112

-- a class that isn't the first one
abbrev pub further_class : ℕ → List ℕ
further_class letter = 32 ∷ letter ∷ []

-- the attribute that tells classes; none where there are none
abbrev pub class_text : List ℕ → List ℕ
class_text [] = []
class_text (first ∷ rest) = codes " class=\"" ++ first ∷ [] ++ flat_map further_class rest ++ codes "\""

-- a byte in two digits
abbrev pub digit_of : ℕ → ℕ
digit_of n = slice_index_or (codes "0123456789abcdef") n 48

unfoldable pub hex_of : ℕ → List ℕ
hex_of n = digit_of (n / 16) ∷ digit_of (n % 16) ∷ []

-- the attribute that tells a colour of its own
unfoldable pub rgb_text : Rgb → List ℕ
rgb_text c = codes " fill=\"#" ++ hex_of c.red ++ hex_of c.green ++ hex_of c.blue ++ codes "\""

-- the attribute that tells a paint; none for the screen's own ink and ground
unfoldable pub fill_text : Paint → List ℕ
fill_text Ink = []
fill_text Back = []
fill_text (Fill c) = rgb_text c

-- the class that tells a paint: the screen's ink is left out, as it is the whole picture's
abbrev pub paint_classes : Bool → Paint → List ℕ
paint_classes reversed Ink = []
paint_classes reversed Back = back_of reversed ∷ []
paint_classes reversed (Fill c) = []

-- the attribute of what is faint
abbrev pub faint_text : Bool → List ℕ
faint_text faint = text_where faint (codes " fill-opacity=\".7\"")

-- b for bold, t for italic, k for blink, and n where outlines are filled in the letters' place, or the ink's where they
-- aren't
abbrev pub letter_classes : Bool → Kind → List ℕ
letter_classes reversed kind =
    text_where kind.rendition.bold (98 ∷ [])
    ++ text_where kind.rendition.italic (116 ∷ [])
    ++ text_where kind.rendition.blink (107 ∷ [])
    ++ (if kind.drawn then 110 ∷ [] else paint_classes reversed (ink_paint kind.rendition))

-- the attributes of the letters of a run: letters that are drawn have no colour of their own
unfoldable pub letter_attributes : Bool → Kind → List ℕ
letter_attributes reversed kind =
    class_text (letter_classes reversed kind)
    ++ text_where (not kind.drawn) (fill_text (ink_paint kind.rendition) ++ faint_text kind.rendition.faint)

-- k for blink, and the ink's
abbrev pub stroke_classes : Bool → Rendition → List ℕ
stroke_classes reversed r = text_where r.blink (107 ∷ []) ++ paint_classes reversed (ink_paint r)

-- the attributes of the strokes of a run
unfoldable pub stroke_attributes : Bool → Rendition → List ℕ
stroke_attributes reversed r =
    class_text (stroke_classes reversed r) ++ (fill_text (ink_paint r) ++ faint_text r.faint)
