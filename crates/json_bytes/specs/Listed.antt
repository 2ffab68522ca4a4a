-- The members of an object as they were read, strings by their bytes, other values by the places in a text at which they
-- stand. RFC 8259, section 4.
use Rattle.std.specs.Prelude.{ℕ, List, [], ◌∷◌, unwrap_or}
use Rattle.json_bytes.specs.Strings.{meant}
use Rattle.json_bytes.specs.Values.{Json, Members, found, member, no_members, null, string, value}
use Rattle.json_bytes.specs.declared.members.Member.{Member}
use Rattle.json_bytes.specs.declared.values.ReadValue.{ReadValue}
use Rattle.json_bytes.specs.declared.values.ReadValue.TheVariants as read

-- The value at the front of a text, with arrays and objects at most so deep; where none stands there, null.
abbrev pub standing : ℕ → List ℕ → Json
standing depth text = unwrap_or (found (value depth text)) null

-- A value that was read: a string by its bytes, a number of digits alone and any other value by its place.
abbrev pub valued : ℕ → ReadValue → Json
valued depth (read.Text bytes) = string (meant bytes)
valued depth (read.Plain number) = standing depth number.place.now
valued depth (read.Other place) = standing depth place.now

-- The members that were read.
abbrev pub listed : ℕ → List Member → Members
listed depth [] = no_members
listed depth (one ∷ more) = member (meant one.name) (valued depth one.value) (listed depth more)
