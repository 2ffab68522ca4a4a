-- Two new files, of which at every instant the names tell what is refused, or the whole new recording: what the steps
-- that put them in place leave when the program is killed between any two, or the machine breaks down there.
--
-- Until its `.part` file is renamed onto it a new file is empty, and a typescript that is empty is refused. A renaming
-- is sure to outlast the machine once its directory is synced, and may do so before; what a file holds is sure to, if it
-- was synced before. rename(2), fsync(2).
use Rattle.std.specs.Prelude.{Bool, true, false, List, [], ◌∷◌, ◌&&◌, ◌||◌, not}
use Rattle.job_files.specs.declared.pair.New.{New}
use Rattle.job_files.specs.declared.pair.New.TheVariants.{Script, Timing}
use Rattle.job_files.specs.declared.pair.Step.{Step}
use Rattle.job_files.specs.declared.pair.Step.TheVariants.{Sync, Rename, SyncName}

-- what was done for a new file: what was written for it is on the disk; it has its name; that is on the disk; it got
-- its name before what was written for it was on the disk (ours)
pub record Made : Type 0 where
  pub synced : Bool
  pub renamed : Bool
  pub named : Bool
  pub torn : Bool

abbrev pub empty : Made
empty = record { synced = false; renamed = false; named = false; torn = false }

abbrev pub is_same : New → New → Bool
is_same Script Script = true
is_same Timing Timing = true
is_same Script Timing = false
is_same Timing Script = false

-- what was done, behind one more step, which is for this file or for the other (ours)
abbrev pub after_sync : Bool → Made → Made
after_sync false made = made
after_sync true made =
    record { synced = true; renamed = made.renamed; named = made.named; torn = made.torn }

abbrev pub after_rename : Bool → Made → Made
after_rename false made = made
after_rename true made =
    record { synced = made.synced; renamed = true; named = made.named; torn = not made.synced }

abbrev pub after_name : Bool → Made → Made
after_name false made = made
after_name true made =
    record { synced = made.synced; renamed = made.renamed; named = made.renamed; torn = made.torn }

abbrev pub after_step : New → Step → Made → Made
after_step file (Sync new) made = after_sync (is_same file new) made
after_step file (Rename new) made = after_rename (is_same file new) made
after_step file (SyncName new) made = after_name (is_same file new) made

-- the new file isn't empty, where a renaming whose directory wasn't synced has outlasted the machine or hasn't (ours)
abbrev pub is_seen : Bool → Made → Bool
is_seen outlasts made = made.renamed && (made.named || outlasts)

-- the typescript is empty, or both files are there and whole (ours)
abbrev pub is_kept : Bool → Bool → Made → Made → Bool
is_kept one other script timing = not (is_seen one script)
    || (is_seen other timing && not script.torn && not timing.torn)

-- so it is, whichever renamings have outlasted the machine (ours)
abbrev pub is_kept_after : Made → Made → Bool
is_kept_after script timing = is_kept true true script timing && is_kept true false script timing
    && is_kept false true script timing && is_kept false false script timing

abbrev pub is_safe_from : Made → Made → List Step → Bool
is_safe_from script timing [] = is_kept_after script timing
is_safe_from script timing (step ∷ steps) = is_kept_after script timing
    && is_safe_from (after_step Script step script) (after_step Timing step timing) steps

-- before each of these steps, and behind the last, the pair is refused or whole (ours)
abbrev pub is_safe : List Step → Bool
is_safe steps = is_safe_from empty empty steps

abbrev pub made_by : New → Made → List Step → Made
made_by file made [] = made
made_by file made (step ∷ steps) = made_by file (after_step file step made) steps

-- behind these steps both files are there, whichever renamings would have outlasted the machine (ours)
abbrev pub is_in_place : List Step → Bool
is_in_place steps = is_seen false (made_by Script empty steps) && is_seen false (made_by Timing empty steps)
