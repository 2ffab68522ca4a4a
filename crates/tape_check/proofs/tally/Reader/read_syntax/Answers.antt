use Rattle.std.proofs.Common.{Some, None, take, ap, sym, subst, ◌∙◌, length, ◌<◌, arith}
use Rattle.std.proofs.lemmas.List.{length-take}
use Rattle.vt_parser.specs.declared.commands.Mode.{Mode}
use Rattle.vt_parser.specs.declared.commands.Mode.TheVariants.{Ansi}
use Rattle.vt_parser.specs.Fold.{pending_after_bytes}
use Rattle.vt_parser.specs.View.{parser_view}
use Rattle.tape_check.specs.declared.tally.Reader.{Reader}
use Rattle.tape_check.specs.Counting.{entries_of}
use Rattle.tape_check.specs.Tallying.{Knows}
use Rattle.tape_check.proofs.CountLemmas.{first_taken}
use Rattle.tape_check.proofs.ScanLemmas.{mode_same_bytes}
use Rattle.tape_check.proofs.TallyTokens.{syntax_front, token_taken}
use Rattle.tape_check.proofs.tally.Reader.read_syntax.Goals as goal
use Rattle.tape_check.proofs.tally.Reader.read_syntax.Goals.{in-Some+in_ok-count_token, in_default}

pub returns-clause-taken : goal.returns-clause-taken
returns-clause-taken c t at =
    let n = c.next.result.0 in
    let bytes = c.args.bytes.now in
    let taken = take n bytes in
    let there = c.in_ok-count_form.ensures t at in
    let some : 0 < length taken = omega (arith, length-take n bytes, c.next.ensures.some, c.requires.some) in
    let pending = pending_after_bytes Ansi Ansi t.sequence taken in
    let state = ap (λ (m : Mode). parser_view m pending) (sym (mode_same_bytes Ansi taken)) ∙ c.next.follows.holds-at-none Ansi t.sequence there.state in
    let tells = c.next.ensures.told Ansi t.sequence there.state in
    let none = c.next.ensures.formless Ansi t.sequence there.state in
    elim c.match-token.branch [
      | in-Some+in_ok-count_token w ↦
          let same = w.self-is in
          let view = state ∙ ap (λ (r : Reader). Some r.parser) (sym same) in
          token_taken c.count_form.new.self _ t taken _ c.next.result.1 (Some w.in-Some.token) some (first_taken n bytes c.next.ensures.some)
          w.in-Some.is (at.title ∙ c.requires.title) (at.character ∙ c.requires.character)
          (syntax_front t.sequence bytes n (c.requires.syntax t at)) there tells none view
          (ap (λ (r : Reader). r.title) same ∙ w.title_behind-self.ensures) (ap (λ (r : Reader). r.decoder) same) (ap (λ (r : Reader). r.parts) same)
          (c.marks_behind-self.ensures t.sequence (subst (λ (r : Reader). Knows r.marks t.sequence) (sym same) there.marks) view)
          (ap (λ (r : Reader). entries_of r.counts) same ∙ w.in_ok-count_token.ensures)
      | in_default w ↦
          let same = w.self-is in
          let view = state ∙ ap (λ (r : Reader). Some r.parser) (sym same) in
          token_taken c.count_form.new.self _ t taken _ c.next.result.1 None some (first_taken n bytes c.next.ensures.some)
          w.in_default.is (at.title ∙ c.requires.title) (at.character ∙ c.requires.character)
          (syntax_front t.sequence bytes n (c.requires.syntax t at)) there tells none view
          (ap (λ (r : Reader). r.title) same) (ap (λ (r : Reader). r.decoder) same) (ap (λ (r : Reader). r.parts) same)
          (c.marks_behind-self.ensures t.sequence (subst (λ (r : Reader). Knows r.marks t.sequence) (sym same) there.marks) view)
          (ap (λ (r : Reader). entries_of r.counts) same)
    ]
