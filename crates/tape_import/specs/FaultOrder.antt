-- That a recording is refused for the first fault in the order of its lines: statements of the crate's laws.
use Rattle.std.specs.Prelude.{◌≡◌, ℕ, ◌≤◌, List, ◌++◌, length, Some}
use Rattle.tape_core.specs.Text.{lines_of}
use Rattle.tape_import.specs.ImportedCast.{import_of_cast}
use Rattle.tape_import.specs.Refusal.{first_fault}
use Rattle.tape_import.specs.TlogImported.{import_of_tlog}
use Rattle.tape_import.specs.declared.losses.Losses.{Losses}
use Rattle.tape_import.specs.declared.refusal.Refusal.{Refusal}
use Rattle.tape_import.specs.declared.refusal.Refusal.TheVariants as refusal
use Rattle.tape_import.specs.declared.version.Version.{Version}

-- A refusal tells one of the first so many lines.
abbrev pub IsWithin : ℕ → Refusal → Type 0
IsWithin count (refusal.Event at fault) = at.number ≤ count
IsWithin count (refusal.Form fault) = ⊥
IsWithin count (refusal.Ends chunk) = ⊥

-- What a front of so many lines is refused for, in one of them, the whole is refused for too. So where the whole is refused
-- for a fault of a line, no front that ends before that line is refused.
abbrev pub KeepsItsFault : Losses → Losses → ℕ → Type 0
KeepsItsFault front whole count =
    (refusal : Refusal) → first_fault front ≡ Some refusal → (first_fault whole ≡ Some refusal) × IsWithin count refusal

abbrev pub CastKeepsItsFault : Version → List ℕ → List ℕ → Type 0
CastKeepsItsFault version front more =
    KeepsItsFault (import_of_cast version front).losses (import_of_cast version (front ++ more)).losses (length (lines_of front))

abbrev pub LogKeepsItsFault : List ℕ → List ℕ → Type 0
LogKeepsItsFault front more =
    KeepsItsFault (import_of_tlog front).losses (import_of_tlog (front ++ more)).losses (length (lines_of front))
