-- The unplayed sequences of a recording under a VT100 or a VT102: bytes read as it reads them, of all of which the mode is
-- kept alone.
use Rattle.std.specs.Prelude.{◌≡◌, ℕ, ◌+◌, List, [], ◌∷◌, ◌++◌, fold, Option, Some, None, unwrap_or}
use Rattle.std.specs.Ordering.{nat_cmp, is_eq}
use Rattle.std.specs.Cmp.Lexicographic.{slice_cmp}
use Rattle.std.specs.BTreeMap.{insert_entry}
use Rattle.std.specs.Map.{lookup}
use Rattle.vt_parser.specs.declared.commands.Mode.{Mode}
use Rattle.vt_parser.specs.declared.commands.Mode.TheVariants.{Ansi}
use Rattle.vt_parser.specs.declared.commands.Command.{Command}
use Rattle.vt_parser.specs.Step.{command_of, pending_after}
use Rattle.vt_parser.specs.Formless.{formless_of}
use Rattle.vt_term.specs.declared.profile.Profile.{Profile}
use Rattle.vt_term.specs.Term.{Term, mode_of, play}
use Rattle.vt_term.specs.Played.{mode_left}
use Rattle.tape_check.specs.declared.played.PlayedAs.TheVariants.{Vt}
use Rattle.tape_check.specs.Unplayed.{command_names, formless_names}

-- the mode, and the bytes of the sequence that isn't finished
pub record Scan : Type 0 where
  pub mode : Mode
  pub pending : List ℕ

-- ANSI mode, nothing pending
abbrev pub scan_start : Scan
scan_start = record { mode = Ansi; pending = [] }

-- the mode behind a byte, by its command if it gives one
abbrev pub mode_left_by : Option Command → Mode → Mode
mode_left_by None mode = mode
mode_left_by (Some command) mode = mode_left command mode

-- the step of a byte
abbrev pub scan_step : Scan → ℕ → Scan
scan_step s byte = record {
  mode = mode_left_by (command_of s.mode s.pending byte) s.mode;
  pending = pending_after s.mode s.pending byte;
}

-- the unplayed sequences that a byte ends
abbrev pub names_at : Profile → Scan → ℕ → List (List ℕ)
names_at profile s byte =
    formless_names (formless_of s.mode s.pending byte) ++ command_names (Vt profile) (command_of s.mode s.pending byte)

-- those that bytes end, in the order in which they come
unfoldable pub names_in : Profile → Scan → List ℕ → List (List ℕ)
names_in profile s [] = []
names_in profile s (byte ∷ rest) = names_at profile s byte ++ names_in profile (scan_step s byte) rest

-- ---- counts

-- how often a name was counted
abbrev pub count_of : List (List ℕ × ℕ) → List ℕ → ℕ
count_of entries name = unwrap_or (lookup (λ key. is_eq (slice_cmp nat_cmp name key)) entries) 0

-- a name counts once more; names stand in byte order, with how often each was counted
abbrev pub counted : List (List ℕ × ℕ) → List ℕ → List (List ℕ × ℕ)
counted entries name = insert_entry (slice_cmp nat_cmp) entries name (count_of entries name + 1)

-- the unplayed sequences of a body, with how often each comes, in byte order
unfoldable pub unplayed_in : Profile → List ℕ → List (List ℕ × ℕ)
unplayed_in profile body = fold counted [] (names_in profile scan_start body)

-- ---- the law

-- Whatever bytes a terminal plays, a scan that has its mode and its pending bytes goes with it.
abbrev pub ScanFollowsPlay : Type 0
ScanFollowsPlay =
    (x : Term) (s : Scan) (bytes : List ℕ) → s.mode ≡ mode_of x → s.pending ≡ x.pending
    → ((fold scan_step s bytes).mode ≡ mode_of (play x bytes))
    × ((fold scan_step s bytes).pending ≡ (play x bytes).pending)
