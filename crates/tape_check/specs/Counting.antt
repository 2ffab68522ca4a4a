-- Private: what the code's counts and its scanner stand for.
use Rattle.std.specs.Prelude.{◌≡◌, ℕ, List, fold, map, Some}
use Rattle.arrayvec.specs.ArrayVec.{ArrayVec}
use Rattle.vt_parser.specs.View.{parser_view}
use Rattle.tape_check.specs.declared.unplayed.Counts.{Counts}
use Rattle.tape_check.specs.declared.scan.Scanner.{Scanner}
use Rattle.tape_check.specs.Scan.{Scan, scan_step, names_in, counted}

-- names with how often each was counted
abbrev pub plain_entries : List (ArrayVec ℕ × ℕ) → List (List ℕ × ℕ)
plain_entries entries = map (λ entry. (entry.0.items, entry.1)) entries

abbrev pub entries_of : Counts → List (List ℕ × ℕ)
entries_of counts = plain_entries counts.entries.entries

-- the scanner stands where the scan does
pub record Follows (scanner : Scanner) (s : Scan) : Type 0 where
  pub mode : s.mode ≡ scanner.mode
  pub state : parser_view s.mode s.pending ≡ Some scanner.parser

-- what the scanner is after bytes: it follows the scan behind them, and has counted what they end
pub record Scanned (old new : Scanner) (s : Scan) (bytes : List ℕ) : Type 0 where
  pub follows : Follows new (fold scan_step s bytes)
  pub profile : new.profile ≡ old.profile
  pub counts : entries_of new.counts ≡ fold counted (entries_of old.counts) (names_in old.profile s bytes)
