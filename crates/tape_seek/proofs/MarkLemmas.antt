-- How much a seek feeds, from the marks alone.
use Rattle.std.proofs.Common.{◌≡◌, ℕ, ◌+◌, ◌-◌, ◌*◌, ◌/◌, ◌<◌, ◌≤◌, Bool, true, false, ◌&&◌, cond, ltb, leb, min, refl, arith}
use Rattle.std.proofs.Math.Nat.{lt-div-mul-add}
use Rattle.std.proofs.lemmas.Bool.{le-leb, ltb-false, ltb-true}
use Rattle.tape_seek.specs.Marks.{Marks, fed_by, multiple_below, start_of}

-- either it starts at the last stored terminal, and the head is no nearer, or at the head, which is nearer
late_start : (stored head count : ℕ) (past within : Bool) → ltb stored head ≡ past → leb head count ≡ within
    → (stored ≤ cond (past && within) head stored) × (head ≤ count → head ≤ cond (past && within) head stored)
late_start stored head count true true past within = let lt = ltb-true stored head past in (omega arith, λ low. omega arith)
late_start stored head count true false past within = (omega arith, λ low. absurd (let e = le-leb head count low in cc))
late_start stored head count false within past is = let le = ltb-false stored head past in (omega arith, λ low. le)

pub starts_late : (every count : ℕ) (marks : Marks)
    → (multiple_below every (min count marks.frontier) ≤ start_of every count marks) × (marks.head ≤ count → marks.head ≤ start_of every count marks)
starts_late every count marks =
    let stored = multiple_below every (min count marks.frontier) in
    late_start stored marks.head count (ltb stored marks.head) (leb marks.head count) refl refl

pub feeds_from_stored : (every count : ℕ) (marks : Marks) → 0 < every
    → fed_by every count marks < every + (count - marks.frontier)
feeds_from_stored every count marks some =
    let near = min count marks.frontier in
    let less : near < near / every * every + every = lt-div-mul-add some in
    let start = (starts_late every count marks).0 in
    omega (arith, less, start)

pub feeds_from_head : (every count : ℕ) (marks : Marks) → marks.head ≤ count
    → fed_by every count marks ≤ count - marks.head
feeds_from_head every count marks low =
    let start = (starts_late every count marks).1 low in
    omega (arith, start)
