use Rattle.std.proofs.Common.{◌≡◌, ◌<◌, arith, subst, sym, take, true}
use Rattle.std.proofs.lemmas.Bool.{or_left}
use Rattle.std.proofs.lemmas.List.Elements.{All-weaker, recursion_from_All}
use Rattle.vt_parser.specs.Syntax.{is_graphic, is_within}
use Rattle.vt_term.specs.Console.{IsSafe}
use Rattle.screen_print.specs.Skim.{is_text}
use Rattle.screen_print.proofs.EachByteLemmas.{shows_start}
use Rattle.screen_print.proofs.FreshLemmas.{fresh_keeps}
use Rattle.screen_print.proofs.SkimLemmas.{text_sends}
use Rattle.screen_print.proofs.fresh.play_fresh.Goals as goal

pub returns-then-len-eq0-clause-shows : goal.returns-then-len-eq0-clause-shows
returns-then-len-eq0-clause-shows c = λ x shows. shows_start c.args.terminal.now x shows

pub run-requires : goal.run-requires
run-requires c = λ x shows.
    let bytes = take c.fresh_len-len.result c.args.bytes.now in
    let fresh = c.fresh_len-len.ensures.fresh (omega (arith, c.if-len-eq0.false)) x shows in
    text_sends c.parts_bring.ensures.none c.parts_bring.ensures.joined c.characters_bring.ensures c.controls_bring.ensures x bytes fresh.ground
    (recursion_from_All (λ byte. is_text byte ≡ true) bytes
    (All-weaker (λ byte. is_graphic byte ≡ true) (λ byte. is_text byte ≡ true) (λ byte h. or_left (is_graphic byte) (is_within 8 15 byte) h) bytes c.fresh_len-len.ensures.graphic))

pub returns-clause-keeps : goal.returns-clause-keeps
returns-clause-keeps c = λ x shows count lt.
    let some : 0 < c.fresh_len-len.result = omega (arith, lt) in
    fresh_keeps c.characters_bring.ensures c.glyphs_are_written.ensures c.plays_in_parts.ensures c.stays_safe.ensures.played c.right_margins.ensures.high
    x (subst IsSafe (sym shows.console) c.screen-screen.ensures.proper.safe) c.args.bytes.now c.fresh_len-len.result
    (c.fresh_len-len.ensures.fresh some x shows) c.fresh_len-len.ensures.graphic c.fresh_len-len.ensures.within c.args.text.now (c.fresh_len-len.ensures.inked some) count lt
