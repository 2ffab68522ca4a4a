use Rattle.std.proofs.Common.{◌≡◌, ◌∙◌, ℕ, List, None, Option, Some, ap, false, length, nat_eq, subst, sym, true}
use Rattle.json_bytes.specs.Marks.{begins, past_space}
use Rattle.json_bytes.specs.Values.{Json, json_of, last_named, member_of, object_at, value}
use Rattle.json_bytes.proofs.ListedLemmas.{broken_whole, named_whole, none_whole, object_whole}
use Rattle.tape_import.specs.KeptTlog.{Tells}
use Rattle.tape_import.proofs.TlogLemmas.{same_told}
use Rattle.tape_import.proofs.tlog_fields.Fields.read.Goals as goal

pub returns-then-not-starts_with-clause-none : goal.returns-then-not-starts_with-clause-none
returns-then-not-starts_with-clause-none c = λ is name.
    let text = c.args.line.now in
    none_whole name text (ap (begins 123) (sym c.past_space-object.ensures) ∙ sym c.starts_with.ensures.value ∙ c.if-not-starts_with.true)

pub returns-in_default-clause-none : goal.returns-in_default-clause-none
returns-in_default-clause-none c = λ is name.
    let text = c.args.line.now in
    let is : begins 123 (past_space text) ≡ true = ap (begins 123) (sym c.past_space-object.ensures) ∙ sym c.starts_with.ensures.value ∙ c.if-not-starts_with.false in
    let none = rw c.in_default.is at c.in_ok-rest.ensures in
    let broken : object_at (value 63) (past_space text) ≡ None = ap (object_at (value 63)) (sym c.past_space-object.ensures) ∙ none in
    broken_whole name text is broken

pub returns-clause-told : goal.returns-clause-told
returns-clause-told c = λ ends.
    let text = c.args.line.now in
    let rest = c.in-Some.rest.now in
    let all : List ℕ → Option Json = λ name. member_of name (json_of text) in
    let is : begins 123 (past_space text) ≡ true = ap (begins 123) (sym c.past_space-object.ensures) ∙ sym c.starts_with.ensures.value ∙ c.if-not-starts_with.false in
    let read = rw c.in-Some.is at c.in_ok-rest.ensures in
    let object : object_at (value 63) (past_space text) ≡ Some (read.0, rest) = ap (object_at (value 63)) (sym c.past_space-object.ensures) ∙ read.1 in
    let len : nat_eq (length (past_space rest)) 0 ≡ true = ap (λ t. nat_eq (length t) 0) (sym c.past_space.ensures) ∙ sym c.is_empty.ensures ∙ ends in
    let told : List ℕ → Option Json = λ name. last_named name None (read.0) in
    subst (λ f. Tells f c.read_object.new.self) (sym (same_told all told (λ name. object_whole name text rest (read.0) is object ∙ ap (λ ended. named_whole name ended (read.0)) len))) (read.2)

pub returns-clause-none : goal.returns-clause-none
returns-clause-none c = λ more name.
    let text = c.args.line.now in
    let rest = c.in-Some.rest.now in
    let is : begins 123 (past_space text) ≡ true = ap (begins 123) (sym c.past_space-object.ensures) ∙ sym c.starts_with.ensures.value ∙ c.if-not-starts_with.false in
    let read = rw c.in-Some.is at c.in_ok-rest.ensures in
    let object : object_at (value 63) (past_space text) ≡ Some (read.0, rest) = ap (object_at (value 63)) (sym c.past_space-object.ensures) ∙ read.1 in
    let len : nat_eq (length (past_space rest)) 0 ≡ false = ap (λ t. nat_eq (length t) 0) (sym c.past_space.ensures) ∙ sym c.is_empty.ensures ∙ more in
    object_whole name text rest (read.0) is object ∙ ap (λ ended. named_whole name ended (read.0)) len
