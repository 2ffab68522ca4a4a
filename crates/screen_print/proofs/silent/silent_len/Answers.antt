use Rattle.std.proofs.Common.{◌≡◌, ◌∙◌, ap, arith, sym, take, true}
use Rattle.std.specs.Prelude.{Some}
use Rattle.std.proofs.lemmas.Bool.{or_left}
use Rattle.std.proofs.lemmas.List.Elements.{All-weaker, recursion_from_All}
use Rattle.std.proofs.lemmas.List.Sums.{AllPass-from_list_all}
use Rattle.vt_parser.specs.declared.states.ParserState.{ParserState}
use Rattle.vt_parser.specs.Syntax.{is_graphic, is_within}
use Rattle.vt_term.specs.Term.{mode_of}
use Rattle.screen_print.specs.Skim.{is_text}
use Rattle.screen_print.proofs.FreeLemmas.{prefix_all}
use Rattle.screen_print.proofs.SkimLemmas.{text_sends}
use Rattle.screen_print.proofs.WaitingLemmas.{waiting_silent}
use Rattle.screen_print.proofs.silent.silent_len.Goals as goal

pub returns-then-len-gt0-clause-silent : goal.returns-then-len-gt0-clause-silent
returns-then-len-gt0-clause-silent c = λ some x shows.
    let bytes = c.args.bytes.now in
    let n = c.printable_run-len.result in
    let front = take n bytes in
    let ground = c.ground_is_empty.ensures.1 (mode_of x) x.pending
    (shows.state ∙ ap (λ (s : ParserState). Some s) (sym c.parser_state.ensures ∙ c.is_ground.ensures c.if-is_ground.true)) in
    text_sends c.parts_bring.ensures.none c.parts_bring.ensures.joined c.characters_bring.ensures c.controls_bring.ensures x front ground
    (recursion_from_All (λ byte. is_text byte ≡ true) front
    (All-weaker (λ byte. is_graphic byte ≡ true) (λ byte. is_text byte ≡ true) (λ byte h. or_left (is_graphic byte) (is_within 8 15 byte) h) front
    (AllPass-from_list_all is_graphic front (prefix_all is_graphic bytes n (omega (arith, c.printable_run-len.ensures.value))))))

pub returns-clause-silent : goal.returns-clause-silent
returns-clause-silent c = λ some x shows.
    waiting_silent (take c.waiting_len.result c.args.bytes.now) x (c.waiting_len.ensures.waiting some x shows)
