use Rattle.std.proofs.Common.{◌≡◌, ◌++◌, ◌∙◌, Bool, List, None, Option, Some, ap, codes, false, if◌then◌else◌, length, sym, true, ℕ}
use Rattle.json_bytes.specs.Values.{Json, json_of, member_of, string_of}
use Rattle.tape_import.specs.KeptTlog.{shown_progress}
use Rattle.tape_import.specs.TlogMessage.{count_of, head_of, if_whole, is_versioned, message_by, message_of, message_told, shown_of, story_of, typed_of}
use Rattle.tape_import.specs.TlogTiming.{Progress, Story, items}
use Rattle.tape_import.proofs.tlog_message.read_message.Goals as goal

pub returns-then-not-branch-clause-message : goal.returns-then-not-branch-clause-message
returns-then-not-branch-clause-message c =
    let told : List ℕ → Option Json = λ name. member_of name (json_of c.args.line.now) in
    let unversioned : is_versioned (string_of (told (codes "ver"))) ≡ false = ap (λ v. is_versioned (string_of v)) (c.in_ok-read.ensures.none c.if-not-branch.true (codes "ver")) in
    ap (λ b. if_whole (if b then message_by (head_of told) (count_of (told (codes "pos"))) (string_of (told (codes "timing"))) (typed_of told) (shown_of told) else None)) unversioned

pub returns-in_default-clause-message : goal.returns-in_default-clause-message
returns-in_default-clause-message c =
    let told : List ℕ → Option Json = λ name. member_of name (json_of c.args.line.now) in
    let none : message_told told ≡ None = c.in_default.ensures told (c.in_ok-read.ensures.told c.if-not-branch.false) in
    ap if_whole none

pub returns-then-branch-clause-message : goal.returns-then-branch-clause-message
returns-then-branch-clause-message c =
    let told : List ℕ → Option Json = λ name. member_of name (json_of c.args.line.now) in
    let read = c.in-Some.ensures told (c.in_ok-read.ensures.told c.if-not-branch.false) in
    let message = read.0 in
    let timing = c.as_slice.result.now in
    let so_far = shown_progress c.in-Some.message.so_far in
    let story : items (length timing) so_far timing ≡ story_of message =
    ap (λ (t : List ℕ). items (length t) so_far t) (c.as_slice.ensures ∙ read.2.timing) ∙ ap (λ (f : Progress). items (length message.timing) f message.timing) read.2.so_far in
    let whole : (story_of message).whole ≡ true = sym (ap (λ (s : Story). s.whole) story) ∙ sym c.in_ok-read_story.ensures.whole ∙ c.if-branch.true in
    let is : message_of c.args.line.now ≡ Some message = ap if_whole (read.1) ∙ ap (λ (b : Bool). if b then Some message else None) whole in
    (message, is, read.2.head, c.in_ok-read_story.ensures.events ∙ ap (λ (s : Story). c.args.events.now.items ++ s.events) story)

pub returns-clause-message : goal.returns-clause-message
returns-clause-message c =
    let told : List ℕ → Option Json = λ name. member_of name (json_of c.args.line.now) in
    let read = c.in-Some.ensures told (c.in_ok-read.ensures.told c.if-not-branch.false) in
    let message = read.0 in
    let timing = c.as_slice.result.now in
    let so_far = shown_progress c.in-Some.message.so_far in
    let story : items (length timing) so_far timing ≡ story_of message =
    ap (λ (t : List ℕ). items (length t) so_far t) (c.as_slice.ensures ∙ read.2.timing) ∙ ap (λ (f : Progress). items (length message.timing) f message.timing) read.2.so_far in
    let whole : (story_of message).whole ≡ false = sym (ap (λ (s : Story). s.whole) story) ∙ sym c.in_ok-read_story.ensures.whole ∙ c.if-branch.false in
    ap if_whole (read.1) ∙ ap (λ (b : Bool). if b then Some message else None) whole
