-- Private: what a replay keeps, against what the recording's first chunks come to.
use Rattle.std.specs.Prelude.{◌≡◌, ℕ, ◌+◌, ◌-◌, ◌*◌, ◌/◌, ◌<◌, ◌≤◌, List, [], ◌∷◌, ◌++◌, Box, All, length, take, slice_index, slice_index_or}
use Rattle.std.specs.declared.alloc.Global.{Global}
use Rattle.tape_core.specs.declared.chunk.Chunk.{Chunk}
use Rattle.tape_core.specs.Due.{first}
use Rattle.tape_core.specs.Tape.{Tape, fits}
use Rattle.plays.specs.declared.plays.Plays.{Ghosts}
use Rattle.tape_seek.specs.declared.edits.Edit.{Edit}
use Rattle.tape_seek.specs.declared.replay.Replay.{Replay}
use Rattle.tape_seek.specs.Edits.{CanBeLogged}
use Rattle.tape_seek.specs.Marks.{Marks}
use Rattle.tape_seek.specs.State.{StateOf}

-- all that was sent by the first chunks
abbrev pub sent_after : {T P K : Type 0} → Ghosts T P K → P → List Chunk → ℕ → List ℕ
sent_after p profile chunks count = p.sent profile (first chunks count)

-- what joined texts send is what their parts send in turn
abbrev pub SendsInParts : {T P K : Type 0} → Ghosts T P K → Type 0
SendsInParts {P = P} p = (profile : P) (before more : List ℕ)
    → p.sent profile (before ++ more) ≡ p.sent profile before ++ p.replies profile before more

-- against what it shows a terminal's marks tell of nothing
abbrev pub TellsOfNothing : {T P K : Type 0} → Ghosts T P K → Type 0
TellsOfNothing {T = T} {P = P} p = (profile : P) (terminal : T) (bytes : List ℕ)
    → p.shows profile terminal bytes → p.told profile terminal bytes

-- where the replay stands, as its session tells it
abbrev pub marks_of : {T P K : Type 0} → Replay T P K → Marks
marks_of r = record { frontier = r.frontier; head = r.head }

-- a session as a plain value, by its recording, its log and its replay
abbrev pub state_of : {T P K : Type 0} → Tape → List Edit → Replay T P K → StateOf P
state_of tape log r = record {
  profile = r.profile;
  recording = tape;
  log = log;
  every = r.every;
  marks = marks_of r;
}

-- Which terminal plays, and how many chunks lie between stored terminals, stays.
pub record PlaysOn {T P K : Type 0} (old new : Replay T P K) : Type 0 where
  pub profile : new.profile ≡ old.profile
  pub every : new.every ≡ old.every

-- a terminal shows what the first chunks up to a count come to, and its marks tell what the last of them touched
pub record StandsAt {T P K : Type 0} (p : Ghosts T P K) (profile : P) (terminal : T) (chunks : List Chunk) (count : ℕ)
    : Type 0 where
  pub shows : p.shows profile terminal (first chunks count)
  pub told : p.told profile terminal (first chunks (count - 1))

-- so the working terminal stands at the head
abbrev pub ShowsHead : {T P K : Type 0} → Ghosts T P K → List Chunk → Replay T P K → Type 0
ShowsHead p chunks r = StandsAt p r.profile r.working chunks r.head

-- what the next chunk sends goes behind what was sent by the head
abbrev pub SendsNext : {T P K : Type 0} → Ghosts T P K → List Chunk → Replay T P K → Type 0
SendsNext p chunks r = r.reports.place ≡ length (sent_after p r.profile chunks r.head)

-- What is kept up to a count is right. Past it there may be more, of which nothing is said.
pub record HoldsUpTo {T P K : Type 0} (p : Ghosts T P K) (chunks : List Chunk) (count : ℕ) (r : Replay T P K) : Type 0 where
  pub every : 0 < r.every
  pub within : count ≤ length chunks
  pub terminals : count / r.every ≤ length r.stored.items
  pub stored : (k : ℕ) (d : Box K Global) → k < count / r.every
      → p.keeps r.profile (slice_index_or r.stored.items k d).value (first chunks ((k + 1) * r.every))
  pub counts : count < length r.sent.items
  pub sent : (k : ℕ) → k ≤ count → slice_index r.sent.items k ≡ length (sent_after p r.profile chunks k)
  pub reports : take (length (sent_after p r.profile chunks count)) r.reports.bytes ≡ sent_after p r.profile chunks count

-- What is kept is right up to the frontier, and nothing is kept past it.
pub record IsKept {T P K : Type 0} (p : Ghosts T P K) (chunks : List Chunk) (r : Replay T P K) : Type 0 where
  pub holds : HoldsUpTo p chunks r.frontier r
  pub terminals : length r.stored.items ≡ r.frontier / r.every
  pub counts : length r.sent.items ≡ r.frontier + 1
  pub reports : r.reports.bytes ≡ sent_after p r.profile chunks r.frontier

-- So it is, and the head stands where the replay says.
pub record IsReplay {T P K : Type 0} (p : Ghosts T P K) (chunks : List Chunk) (r : Replay T P K) : Type 0 where
  pub kept : IsKept p chunks r
  pub behind : r.head ≤ r.frontier
  pub working : ShowsHead p chunks r

-- and what comes next is sent behind what was sent by then
pub record IsPlaying {T P K : Type 0} (p : Ghosts T P K) (chunks : List Chunk) (r : Replay T P K) : Type 0 where
  pub replay : IsReplay p chunks r
  pub place : SendsNext p chunks r

-- the head stands one past the frontier, and what it sent is in the list
pub record IsAhead {T P K : Type 0} (p : Ghosts T P K) (chunks : List Chunk) (r : Replay T P K) : Type 0 where
  pub holds : HoldsUpTo p chunks r.frontier r
  pub terminals : length r.stored.items ≡ r.frontier / r.every
  pub counts : length r.sent.items ≡ r.frontier + 1
  pub head : r.head ≡ r.frontier + 1
  pub within : r.head ≤ length chunks
  pub working : ShowsHead p chunks r
  pub reports : r.reports.bytes ≡ sent_after p r.profile chunks r.head
  pub place : SendsNext p chunks r

-- What the next chunk sends was sent: where it lies within the list, only the place moved on.
pub record HasSent {T P K : Type 0} (p : Ghosts T P K) (chunks : List Chunk) (old new : Replay T P K) : Type 0 where
  pub place : new.reports.place ≡ length (sent_after p old.profile chunks (old.head + 1))
  pub within : length (sent_after p old.profile chunks (old.head + 1)) ≤ length old.reports.bytes
      → new.reports.bytes ≡ old.reports.bytes
  pub behind : old.reports.bytes ≡ sent_after p old.profile chunks old.head
      → new.reports.bytes ≡ sent_after p old.profile chunks (old.head + 1)

-- the head's copy was stored behind the others
pub record Stores {T P K : Type 0} (p : Ghosts T P K) (old new : Replay T P K) : Type 0 where
  pub copy : Box K Global
  pub value : (bytes : List ℕ) → p.shows old.profile old.working bytes → p.keeps old.profile copy.value bytes
  pub stored : new.stored.items ≡ old.stored.items ++ copy ∷ []

-- The first chunks, up to this count, come to the same bytes in both recordings.
pub record SameFront (old new : List Chunk) (count : ℕ) : Type 0 where
  pub within : count ≤ length new
  pub bytes : (k : ℕ) → k ≤ count → first new k ≡ first old k

-- A session's recording fits, its log can be written, and its replay is the recording's.
pub record IsSound {T P K : Type 0} (p : Ghosts T P K) (tape : Tape) (edits : List Edit) (r : Replay T P K) : Type 0 where
  pub fitting : fits tape
  pub log : All CanBeLogged edits
  pub replay : IsReplay p tape.chunks r
