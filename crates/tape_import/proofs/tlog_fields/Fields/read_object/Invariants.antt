use Rattle.std.proofs.Common.{◌≡◌, ◌-◌, ℕ, List, None, Option}
use Rattle.json_bytes.specs.Values.{Json, behind, members, object_at, value}
use Rattle.json_bytes.proofs.MemberLemmas.{named_in}
use Rattle.tape_import.specs.KeptTlog.{Tells}
use Rattle.tape_import.proofs.tlog_fields.Fields.read_object.Given as goal

-- of each name the value is the last one in what is left, or the one that is told so far; and what is left ends where the
-- object does
abbrev pub invariant-loop : goal.invariant-loop
invariant-loop l = record {
  told : List ℕ → Option Json;
  tells : Tells told l.self;
  same : (name : List ℕ) → named_in name None (object_at (value 63) l.text) ≡ named_in name (told name) (members (value 63) (l.end - l.counter) l.at);
  ends : behind (object_at (value 63) l.text) ≡ behind (members (value 63) (l.end - l.counter) l.at);
}
