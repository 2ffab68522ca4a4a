use Rattle.std.proofs.Common.{◌≡◌, ◌∙◌, None, Some, ap, false, length, nat_eq, refl, sym, true}
use Rattle.json_bytes.specs.Listed.{listed}
use Rattle.json_bytes.specs.Marks.{begins, past_space}
use Rattle.json_bytes.specs.Values.{last_named, object_at, value}
use Rattle.json_bytes.proofs.ListedLemmas.{broken_whole, named_whole, none_whole, object_whole}
use Rattle.json_bytes.proofs.members.whole_members.Goals as goal

pub returns-then-not-begins : goal.returns-then-not-begins
returns-then-not-begins c = λ name.
    let text = c.args.text.now in
    let other : begins 123 (past_space text) ≡ false = ap (begins 123) (sym c.past_space-object.ensures) ∙ sym c.begins.ensures ∙ c.if-not-begins.true in
    none_whole name text other ∙ ap (λ all. last_named name None (listed 63 all)) (sym c.new.ensures.items)

pub returns-in_default : goal.returns-in_default
returns-in_default c = λ name.
    let text = c.args.text.now in
    let is : begins 123 (past_space text) ≡ true = ap (begins 123) (sym c.past_space-object.ensures) ∙ sym c.begins.ensures ∙ c.if-not-begins.false in
    let read : object_at (value 63) (past_space text) ≡ None = ap (object_at (value 63)) (sym c.past_space-object.ensures) ∙ sym c.in_ok-members.ensures ∙ rw c.in_default.is refl in
    broken_whole name text is read ∙ ap (λ all. last_named name None (listed 63 all)) (sym c.new-in_default.ensures.items)

pub returns-then-is_empty : goal.returns-then-is_empty
returns-then-is_empty c = λ name.
    let text = c.args.text.now in
    let rest = c.in-Some.rest.now in
    let all = listed 63 c.in-Some.members.items in
    let is : begins 123 (past_space text) ≡ true = ap (begins 123) (sym c.past_space-object.ensures) ∙ sym c.begins.ensures ∙ c.if-not-begins.false in
    let read : object_at (value 63) (past_space text) ≡ Some (all, rest) = ap (object_at (value 63)) (sym c.past_space-object.ensures) ∙ sym c.in_ok-members.ensures ∙ rw c.in-Some.is refl in
    let len : nat_eq (length (past_space rest)) 0 ≡ true = ap (λ t. nat_eq (length t) 0) (sym c.past_space.ensures) ∙ sym c.is_empty.ensures ∙ c.if-is_empty.true in
    object_whole name text rest all is read ∙ ap (λ ended. named_whole name ended all) len

pub returns : goal.returns
returns c = λ name.
    let text = c.args.text.now in
    let rest = c.in-Some.rest.now in
    let all = listed 63 c.in-Some.members.items in
    let is : begins 123 (past_space text) ≡ true = ap (begins 123) (sym c.past_space-object.ensures) ∙ sym c.begins.ensures ∙ c.if-not-begins.false in
    let read : object_at (value 63) (past_space text) ≡ Some (all, rest) = ap (object_at (value 63)) (sym c.past_space-object.ensures) ∙ sym c.in_ok-members.ensures ∙ rw c.in-Some.is refl in
    let len : nat_eq (length (past_space rest)) 0 ≡ false = ap (λ t. nat_eq (length t) 0) (sym c.past_space.ensures) ∙ sym c.is_empty.ensures ∙ c.if-is_empty.false in
    object_whole name text rest all is read ∙ ap (λ ended. named_whole name ended all) len ∙ ap (λ all. last_named name None (listed 63 all)) (sym c.new-else-is_empty.ensures.items)
