-- What a request line asks for (ours).
use Rattle.std.specs.Prelude.{ℕ, ◌≢◌, List, [], ◌∷◌, length, Option, Some, None, if◌then◌else◌, nat_lt, min, codes}
use Rattle.std.specs.Option.{option_map}
use Rattle.std.specs.Result.{result_ok}
use Rattle.std.specs.Str.{bytes_eq}
use Rattle.hex.specs.Hex.{decode_of}
use Rattle.tape_core.specs.Seconds.{last_moment, seconds_of}
use Rattle.tape_core.specs.Text.{fields, number_of}
use Rattle.tape_seek.specs.declared.edits.Edit.TheVariants as edit
use Rattle.tape_seek.specs.declared.requests.Form.{Form}
use Rattle.tape_seek.specs.declared.requests.Form.TheVariants.{Insert, Delete, Replace, Retime, Cap, Screen, Reports, Changes, Info, Log}
use Rattle.tape_seek.specs.declared.requests.Request.{Request}
use Rattle.tape_seek.specs.declared.requests.Request.TheVariants as asks

-- The second step, if the first gave a value.
infixl 10 ◌>>=◌
abbrev pub ◌>>=◌ : {A B : Type 0} → Option A → (A → Option B) → Option B
None >>= f = None
(Some a) >>= f = f a

-- AT, FROM and TO: one or more digits; a number above 10^18 counts as 10^18.
abbrev pub place_of : List ℕ → Option ℕ
place_of text = option_map (λ n. min n last_moment) (number_of text)

-- The bytes of an even number of hexadecimal digits in either case, at least two.
abbrev pub pairs_of : List ℕ → Option (List ℕ)
pairs_of text = if nat_lt 0 (length text) then result_ok (decode_of text) else None

-- HEX: such digits, or `-` for no bytes.
abbrev pub bytes_of : List ℕ → Option (List ℕ)
bytes_of text = if bytes_eq text (codes "-") then Some [] else pairs_of text

-- The moment after which changes are asked for: seconds, or `-` for all from chunk 0 on.
abbrev pub from_of : List ℕ → Option (Option ℕ)
from_of text = if bytes_eq text (codes "-") then Some None else option_map Some (seconds_of text)

-- The fields behind the first: as many as the form has, no fewer and no more.
abbrev pub one_field : List (List ℕ) → Option (List ℕ)
one_field (a ∷ []) = Some a
one_field _ = None

abbrev pub two_fields : List (List ℕ) → Option (List ℕ × List ℕ)
two_fields (a ∷ b ∷ []) = Some (a, b)
two_fields _ = None

abbrev pub three_fields : List (List ℕ) → Option (List ℕ × List ℕ × List ℕ)
three_fields (a ∷ b ∷ c ∷ []) = Some (a, b, c)
three_fields _ = None

-- `insert AT S HEX`
abbrev pub insert_of : List (List ℕ) → Option Request
insert_of rest = do
  field ← three_fields rest
  at ← place_of field.0
  delay ← seconds_of field.1
  bytes ← bytes_of field.2
  Some (asks.Edit (edit.Insert at delay bytes))

-- `delete FROM TO`
abbrev pub delete_of : List (List ℕ) → Option Request
delete_of rest = do
  field ← two_fields rest
  from ← place_of field.0
  to ← place_of field.1
  Some (asks.Edit (edit.Delete from to))

-- `replace AT HEX`
abbrev pub replace_of : List (List ℕ) → Option Request
replace_of rest = do
  field ← two_fields rest
  at ← place_of field.0
  bytes ← bytes_of field.1
  Some (asks.Edit (edit.Replace at bytes))

-- `retime AT S`
abbrev pub retime_of : List (List ℕ) → Option Request
retime_of rest = do
  field ← two_fields rest
  at ← place_of field.0
  delay ← seconds_of field.1
  Some (asks.Edit (edit.Retime at delay))

-- `cap S`
abbrev pub cap_of : List (List ℕ) → Option Request
cap_of rest = do
  field ← one_field rest
  max ← seconds_of field
  Some (asks.Edit (edit.Cap max))

-- `screen S`
abbrev pub screen_of : List (List ℕ) → Option Request
screen_of rest = do
  field ← one_field rest
  at ← seconds_of field
  Some (asks.Screen at)

-- `reports S`
abbrev pub reports_of : List (List ℕ) → Option Request
reports_of rest = do
  field ← one_field rest
  at ← seconds_of field
  Some (asks.Reports at)

-- `changes S S`
abbrev pub changes_of : List (List ℕ) → Option Request
changes_of rest = do
  field ← two_fields rest
  from ← from_of field.0
  to ← seconds_of field.1
  Some (asks.Changes from to)

-- `info` and `log`, which stand alone
abbrev pub alone : Request → List (List ℕ) → Option Request
alone asked [] = Some asked
alone asked (a ∷ more) = None

-- The word of each form.
abbrev pub words : List (List ℕ × Form)
words =
    (codes "insert", Insert)
    ∷ (codes "delete", Delete)
    ∷ (codes "replace", Replace)
    ∷ (codes "retime", Retime)
    ∷ (codes "cap", Cap)
    ∷ (codes "screen", Screen)
    ∷ (codes "reports", Reports)
    ∷ (codes "changes", Changes)
    ∷ (codes "info", Info)
    ∷ (codes "log", Log)
    ∷ []

abbrev pub form_in : List (List ℕ × Form) → List ℕ → Option Form
form_in [] word = None
form_in (row ∷ rows) word = if bytes_eq word row.0 then Some row.1 else form_in rows word

unfoldable pub form_of : List ℕ → Option Form
form_of word = form_in words word

-- What a line of the form asks for with these fields behind its word.
abbrev pub asked : Form → List (List ℕ) → Option Request
asked Insert rest = insert_of rest
asked Delete rest = delete_of rest
asked Replace rest = replace_of rest
asked Retime rest = retime_of rest
asked Cap rest = cap_of rest
asked Screen rest = screen_of rest
asked Reports rest = reports_of rest
asked Changes rest = changes_of rest
asked Info rest = alone asks.Info rest
asked Log rest = alone asks.Log rest

abbrev pub request_of_fields : List (List ℕ) → Option Request
request_of_fields [] = Some asks.Nothing
request_of_fields (word ∷ rest) = do
  form ← form_of word
  asked form rest

-- What a line without its LF asks for: fields stand between runs of spaces and tabs, and a line without
-- fields asks for nothing. None for a line of no known form.
unfoldable pub request : List ℕ → Option Request
request line = request_of_fields (fields line)

-- The request is an edit that brings bytes: the only ones that are kept in memory.
abbrev pub BringsBytes : Option Request → Type 0
BringsBytes (Some (asks.Edit (edit.Insert at delay bytes))) = bytes ≢ []
BringsBytes (Some (asks.Edit (edit.Replace at bytes))) = bytes ≢ []
BringsBytes _ = ⊥
