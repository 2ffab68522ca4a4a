-- The list of reports, and the place in it.
use Rattle.std.specs.Prelude.{◌≡◌, ℕ, ◌+◌, ◌-◌, ◌≤◌, List, ◌++◌, length, take, drop}

-- bytes, and a place in them, at most their length
pub record Sink : Type 0 where
  pub bytes : List ℕ
  pub place : ℕ

-- Bytes are sent at the place: those that lie before the list's end move the place on, the others join the list.
abbrev pub after_sending : Sink → List ℕ → Sink
after_sending sink bytes = record {
  bytes = sink.bytes ++ drop (length sink.bytes - sink.place) bytes;
  place = sink.place + length bytes;
}

-- the place and what is sent stay within the list
abbrev pub HasRoom : Sink → List ℕ → Type 0
HasRoom sink bytes = sink.place + length bytes ≤ length sink.bytes

-- the list holds what it held, and maybe more behind it
abbrev pub KeepsFront : Sink → Sink → Type 0
KeepsFront old new = take (length old.bytes) new.bytes ≡ old.bytes
