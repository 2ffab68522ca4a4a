use Rattle.std.proofs.Common.{◌≡◌, take, get_or, Some, refl, sym, ap, ◌∙◌, arith}
use Rattle.std.proofs.lemmas.List.{length-take}
use Rattle.std.specs.Prelude.{fold, Option}
use Rattle.vt_parser.specs.declared.states.Formless.{Formless}
use Rattle.vt_parser.specs.Formless.{formless_of}
use Rattle.tape_check.specs.Unplayed.{formless_names}
use Rattle.tape_check.specs.Scan.{counted}
use Rattle.tape_check.specs.Counting.{entries_of}
use Rattle.tape_check.proofs.CountLemmas.{first_taken, scanned_told}
use Rattle.tape_check.proofs.scan.Scanner.take_some.Goals as goal

pub returns-in_ok-count_token-clause-scanned : goal.returns-in_ok-count_token-clause-scanned
returns-in_ok-count_token-clause-scanned c = λ s follows.
    let n = c.next.result.0 in
    let bytes = c.args.bytes.now in
    let same : formless_of s.mode s.pending (get_or bytes 0 0) ≡ formless_of s.mode s.pending (get_or (take n bytes) 0 0)
    = ap (formless_of s.mode s.pending) (sym (first_taken n bytes c.next.ensures.some)) in
    let form = c.formless_with-formless.ensures s.mode s.pending (follows.state ∙ ap Some (sym c.state.ensures.value)) ∙ same in
    scanned_told c.args.self.now c.count_formless.new.self c.count_token.new.self c.next.follows.lender-at-none
    _ s (take n bytes) _ _ (omega (arith, length-take n bytes)) c.in-Some.is follows
    (c.next.ensures.told s.mode s.pending follows.state) (c.next.ensures.formless s.mode s.pending follows.state)
    c.next.follows.holds-at-none c.mode_after-self.ensures
    (c.in_ok-count_formless.ensures ∙ ap (λ (f : Option Formless). fold counted (entries_of c.args.self.now.counts) (formless_names f)) form)
    c.in_ok-count_token.ensures

pub returns-in_default-clause-scanned : goal.returns-in_default-clause-scanned
returns-in_default-clause-scanned c = λ s follows.
    let n = c.next.result.0 in
    let bytes = c.args.bytes.now in
    let same : formless_of s.mode s.pending (get_or bytes 0 0) ≡ formless_of s.mode s.pending (get_or (take n bytes) 0 0)
    = ap (formless_of s.mode s.pending) (sym (first_taken n bytes c.next.ensures.some)) in
    let form = c.formless_with-formless.ensures s.mode s.pending (follows.state ∙ ap Some (sym c.state.ensures.value)) ∙ same in
    scanned_told c.args.self.now c.count_formless.new.self c.count_formless.new.self c.next.follows.lender-at-none
    _ s (take n bytes) _ _ (omega (arith, length-take n bytes)) c.in_default.is follows
    (c.next.ensures.told s.mode s.pending follows.state) (c.next.ensures.formless s.mode s.pending follows.state)
    c.next.follows.holds-at-none refl
    (c.in_ok-count_formless.ensures ∙ ap (λ (f : Option Formless). fold counted (entries_of c.args.self.now.counts) (formless_names f)) form)
    refl
