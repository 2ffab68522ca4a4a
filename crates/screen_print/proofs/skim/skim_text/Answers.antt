use Rattle.std.proofs.Common.{◌≡◌, ◌∙◌, ◌+◌, ℕ, arith, get_or, subst, sym, take, true}
use Rattle.std.proofs.lemmas.List.Elements.{All-more, recursion_from_All}
use Rattle.vt_screen.specs.Cells.{row_at}
use Rattle.vt_term.specs.Console.{Console, IsSafe}
use Rattle.vt_term.specs.Term.{Term, play}
use Rattle.screen_print.specs.Skim.{RowLacks, ScreenLacks, is_text}
use Rattle.screen_print.proofs.EachByteLemmas.{play_more}
use Rattle.screen_print.proofs.SkimEffects.{checked_lacks}
use Rattle.screen_print.proofs.SkimLemmas.{text_sends}
use Rattle.screen_print.proofs.skim.skim_text.Goals as goal

pub run-requires : goal.run-requires
run-requires c = λ x shows.
    let bytes = c.args.bytes.now in
    let len = c.args.text.now.len in
    let P : ℕ → Type 0 = λ byte. is_text byte ≡ true in
    text_sends c.parts_bring.ensures.none c.parts_bring.ensures.joined c.characters_bring.ensures c.controls_bring.ensures x (take (len + 1) bytes) (c.requires.ground x shows)
    (recursion_from_All P (take (len + 1) bytes) (All-more P bytes len 0 c.if-len-bytes.true c.requires.text (sym c.is_text.ensures ∙ c.if-is_text.true)))

pub returns-then-is_text-clause-after : goal.returns-then-is_text-clause-after
returns-then-is_text-clause-after c = λ lacked.
    let key = c.args.key.now.chars.now in
    let bytes = c.args.bytes.now in
    let len = c.args.text.now.len in
    let x = c.screen-screen.ensures.proper.term.0 in
    let shows = c.screen-screen.ensures.proper.term.1 in
    let before = play x (take len bytes) in
    let after = (c.run.ensures.shows x shows).console in
    let more = play_more c.plays_in_parts.ensures x bytes len c.if-len-bytes.true in
    subst (λ (s : Console). ScreenLacks key s.picture) after
    (subst (λ (y : Term). ScreenLacks key y.console.picture) more
    (checked_lacks key c.requires.keyed.proper before (get_or bytes len 0) (c.stays_safe.ensures.played x (take len bytes) (subst IsSafe (sym shows.console) c.screen-screen.ensures.proper.safe))
    (c.requires.calm x shows) (c.requires.lacks x shows len (omega arith))
    (subst (λ (y : Term). RowLacks key y.console.picture.wide (row_at y.console.picture.rows y.console.picture.line)) (sym more)
    (subst (λ (s : Console). RowLacks key s.picture.wide (row_at s.picture.rows s.picture.line)) (sym after) (c.lacked_at_cursor-sure.ensures lacked)))))

pub run-requires-2 : goal.run-requires-2
run-requires-2 c = λ x shows.
    let bytes = take c.args.text.now.len c.args.bytes.now in
    text_sends c.parts_bring.ensures.none c.parts_bring.ensures.joined c.characters_bring.ensures c.controls_bring.ensures x bytes (c.requires.ground x shows)
    (recursion_from_All (λ byte. is_text byte ≡ true) bytes c.requires.text)

pub returns-clause-after : goal.returns-clause-after
returns-clause-after c = λ _.
    let key = c.args.key.now.chars.now in
    let x = c.screen-screen.ensures.proper.term.0 in
    let shows = c.screen-screen.ensures.proper.term.1 in
    subst (λ (s : Console). ScreenLacks key s.picture) (c.run-2.ensures.shows x shows).console
    (c.requires.lacks x shows c.args.text.now.len (omega arith))

pub returns-clause-lacks : goal.returns-clause-lacks
returns-clause-lacks c = λ x shows count high. c.requires.lacks x shows count (omega (arith, high))
