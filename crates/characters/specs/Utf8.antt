-- UTF-8, a byte at a time (Unicode core specification 3.9).
use Rattle.std.specs.Prelude.{ℕ, ◌+◌, ◌-◌, ◌*◌, ◌<◌, ◌≡◌, Bool, true, false, ◌&&◌, ◌==◌, nat_le, nat_lt, fold, List, [], ◌∷◌, ◌++◌, length, if◌then◌else◌}
use Rattle.characters.specs.declared.utf8.Reading.{Reading}
use Rattle.characters.specs.declared.utf8.Reading.TheVariants.{Character, More, Broken}
use Rattle.characters.specs.declared.utf8.Begun.{Begun}
use Rattle.characters.specs.declared.utf8.Begun.TheVariants.{Nothing, One, Two, Three}

-- a byte from low to high
abbrev pub is_within : ℕ → ℕ → ℕ → Bool
is_within low high byte = nat_le low byte && nat_le byte high

-- a row of table 3-7: the bytes that begin a character, from first to last, its second bytes, from low to high, and how
-- many bytes it has
pub record Row : Type 0 where
  pub first : ℕ
  pub last : ℕ
  pub low : ℕ
  pub high : ℕ
  pub length : ℕ

-- the same, cell by cell
abbrev pub row : ℕ → ℕ → ℕ → ℕ → ℕ → Row
row first last low high length =
    record { first = first; last = last; low = low; high = high; length = length }

-- well-formed characters of more than one byte; their third and fourth bytes are 80 to BF (Unicode table 3-7)
abbrev pub table : List Row
table =
    -- first bytes  second bytes  how many
    row 0xC2 0xDF 0x80 0xBF 2 ∷
    row 0xE0 0xE0 0xA0 0xBF 3 ∷
    row 0xE1 0xEC 0x80 0xBF 3 ∷
    row 0xED 0xED 0x80 0x9F 3 ∷
    row 0xEE 0xEF 0x80 0xBF 3 ∷
    row 0xF0 0xF0 0x90 0xBF 4 ∷
    row 0xF1 0xF3 0x80 0xBF 4 ∷
    row 0xF4 0xF4 0x80 0x8F 4 ∷
    []

-- the row that has a first byte; where none has it, one without second bytes
abbrev pub row_in : List Row → ℕ → Row
row_in [] byte = row 0 0 1 0 0
row_in (row ∷ rest) byte = if is_within row.first row.last byte then row else row_in rest byte

-- the row of the table
unfoldable pub row_of : ℕ → Row
row_of byte = row_in table byte

-- a byte that begins a character of more than one byte
abbrev pub begins : ℕ → Bool
begins byte = is_within 0xC2 0xF4 byte

-- a third or fourth byte
abbrev pub is_trailing : ℕ → Bool
is_trailing byte = is_within 0x80 0xBF byte

-- a byte may follow these pending ones
abbrev pub may_follow : List ℕ → ℕ → Bool
may_follow [] byte = false
may_follow (lead ∷ []) byte = is_within (row_of lead).low (row_of lead).high byte
may_follow (lead ∷ second ∷ rest) byte = is_trailing byte

-- the bytes are as many as the first one says
abbrev pub is_whole : List ℕ → Bool
is_whole [] = false
is_whole (lead ∷ rest) = (row_of lead).length == length (lead ∷ rest)

-- the code point of a character's bytes (Unicode table 3-6)
abbrev pub code_point : List ℕ → ℕ
code_point (a ∷ b ∷ []) = 64 * (a - 0xC0) + (b - 0x80)
code_point (a ∷ b ∷ c ∷ []) = 4096 * (a - 0xE0) + 64 * (b - 0x80) + (c - 0x80)
code_point (a ∷ b ∷ c ∷ d ∷ []) = 262144 * (a - 0xF0) + 4096 * (b - 0x80) + 64 * (c - 0x80) + (d - 0x80)
code_point _ = 0

-- What the next byte makes of bytes that are pending: a character, or more of them are pending, or they come to nothing
-- and are a maximal part, which is one U+FFFD, and that byte is read anew.
abbrev pub reading : List ℕ → ℕ → Reading
reading pending byte =
    if may_follow pending byte
    then (if is_whole (pending ++ byte ∷ []) then Character (code_point (pending ++ byte ∷ [])) else More)
    else Broken

-- what is pending after that byte
abbrev pub left_by : Reading → List ℕ → ℕ → List ℕ
left_by (Character c) pending byte = []
left_by More pending byte = pending ++ byte ∷ []
left_by Broken pending byte = []

-- with the last of the bytes a character comes, and more of them are pending before
abbrev pub SpellsOn : List ℕ → List ℕ → ℕ → Type 0
SpellsOn pending [] c = ⊥
SpellsOn pending (byte ∷ []) c = reading pending byte ≡ Character c
SpellsOn pending (byte ∷ next ∷ rest) c =
    (reading pending byte ≡ More) × SpellsOn (pending ++ byte ∷ []) (next ∷ rest) c

-- the bytes are a character of more than one
abbrev pub Spells : List ℕ → ℕ → Type 0
Spells [] c = ⊥
Spells (byte ∷ rest) c = (begins byte ≡ true) × SpellsOn (byte ∷ []) rest c

-- bytes that may be pending: those of the front of a character
abbrev pub IsFront : List ℕ → Type 0
IsFront [] = Unit {0}
IsFront (a ∷ []) = begins a ≡ true
IsFront (a ∷ b ∷ []) = (begins a ≡ true) × (may_follow (a ∷ []) b ≡ true) × (2 < (row_of a).length)
IsFront (a ∷ b ∷ c ∷ []) =
    (begins a ≡ true) × (may_follow (a ∷ []) b ≡ true) × (is_trailing c ≡ true) × (3 < (row_of a).length)
IsFront (a ∷ b ∷ c ∷ d ∷ rest) = ⊥

-- U+FFFD, which stands for bytes that are no character
abbrev pub replacement : ℕ
replacement = 0xFFFD

-- ---- texts

-- the characters so far, and the bytes that are pending
pub record Decoded : Type 0 where
  pub characters : List ℕ
  pub pending : List ℕ

-- a byte where nothing is pending
abbrev pub begun : List ℕ → ℕ → Decoded
begun characters byte =
    if nat_lt byte 0x80 then record { characters = characters ++ byte ∷ []; pending = [] }
    else (if begins byte then record { characters = characters; pending = byte ∷ [] }
    else record { characters = characters ++ replacement ∷ []; pending = [] })

-- a byte behind those that are pending
abbrev pub gone_on : Reading → List ℕ → List ℕ → ℕ → Decoded
gone_on (Character c) characters pending byte = record { characters = characters ++ c ∷ []; pending = [] }
gone_on More characters pending byte = record { characters = characters; pending = pending ++ byte ∷ [] }
gone_on Broken characters pending byte = begun (characters ++ replacement ∷ []) byte

-- one more byte
abbrev pub decoded_on : Decoded → ℕ → Decoded
decoded_on d byte =
    if length d.pending == 0 then begun d.characters byte
    else gone_on (reading d.pending byte) d.characters d.pending byte

-- more bytes
unfoldable pub decoded : Decoded → List ℕ → Decoded
decoded d bytes = fold decoded_on d bytes

-- nothing read
abbrev pub nothing : Decoded
nothing = record { characters = []; pending = [] }

-- Private: the bytes that the code's enum holds
abbrev pub bytes_of : Begun → List ℕ
bytes_of Nothing = []
bytes_of (One a) = a ∷ []
bytes_of (Two a b) = a ∷ b ∷ []
bytes_of (Three a b c) = a ∷ b ∷ c ∷ []

-- Private: what the enum holds after a reading
abbrev pub left_of : Reading → Begun → Begun
left_of (Character c) more = Nothing
left_of More more = more
left_of Broken more = Nothing
