-- Why files aren't opened or created.
use Rattle.std.specs.Prelude.{◌≡◌, ◌⊎◌, ◌++◌, ℕ, List, codes, string_bytes}
use Rattle.job_files.specs.Cleaning.{cleaned}
use Rattle.job_files.specs.declared.stop.FileStop.{FileStop}
use Rattle.job_files.specs.declared.stop.FileStop.TheVariants.{Memory, CannotOpen, CannotCreate}

-- why a file isn't open: the file of this path can't be opened, or memory was refused (ours)
abbrev pub IsNotOpen : List ℕ → FileStop → Type 0
IsNotOpen path (CannotOpen name error) = string_bytes name ≡ cleaned path
IsNotOpen path Memory = Unit {0}
IsNotOpen path (CannotCreate name error) = ⊥

-- why a file isn't created: none of this path can be created, or memory was refused (ours)
abbrev pub IsNotCreated : List ℕ → FileStop → Type 0
IsNotCreated path (CannotCreate name error) = string_bytes name ≡ cleaned path
IsNotCreated path Memory = Unit {0}
IsNotCreated path (CannotOpen name error) = ⊥

-- the path of the file beside a new one (ours)
abbrev pub part_of : List ℕ → List ℕ
part_of path = path ++ codes ".part"

-- why the new files aren't created: one of them can't be, or a file beside them (ours)
abbrev pub IsNoPair : List ℕ → List ℕ → FileStop → Type 0
IsNoPair script timing stop = IsNotCreated script stop ⊎ (IsNotCreated timing stop
    ⊎ (IsNotCreated (part_of script) stop ⊎ IsNotCreated (part_of timing) stop))
