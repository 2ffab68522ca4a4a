use Rattle.std.proofs.Common.{◌≡◌, ◌+◌, ◌-◌, ◌≤◌, ℕ, All, Option, IfSome, arith, drop, subst, sym, take, true}
use Rattle.std.proofs.lemmas.Bool.{or_left}
use Rattle.std.proofs.lemmas.List.{length-take, take-take}
use Rattle.std.proofs.lemmas.List.Elements.{All-append, All-weaker}
use Rattle.std.proofs.lemmas.List.Sums.{AllPass-from_list_all}
use Rattle.std.proofs.Math.Seq.{take-add}
use Rattle.vt_parser.specs.Syntax.{is_graphic, is_within}
use Rattle.vt_screen.specs.Picture.{Picture}
use Rattle.vt_term.specs.Console.{Console, IsSafe}
use Rattle.vt_term.specs.Seen.{Shows}
use Rattle.vt_term.specs.Term.{Term, play}
use Rattle.screen_print.specs.declared.key.Ending.{Ending}
use Rattle.screen_print.specs.Skim.{IsEnding, IsFree, IsPlain, IsRunning, ScreenLacks, is_text}
use Rattle.screen_print.proofs.FreeLemmas.{text_lasts}
use Rattle.screen_print.proofs.SkimEffects.{Lasts, running_lasts}
use Rattle.screen_print.proofs.skim.text_len.Goals as goal

free : (c : goal.After-running_len-more) (x : Term) → Shows c.args.terminal.now x → (count : ℕ) → count ≤ c.free_len-free.result + c.running_len-more.result
    → Lasts c.args.key.now.chars.now c.requires.keyed.proper (play x (take count c.args.bytes.now))
free c x shows =
    let key = c.args.key.now.chars.now in
    let bytes = c.args.bytes.now in
    let n = c.free_len-free.result in
    let more = c.running_len-more.result in
    let ending = c.in-Some.ending in
    let end = c.min-end.result in
    let within : more ≤ end - n = omega (arith, c.running_len-more.ensures.within, length-take (end - n) (drop n bytes)) in
    let tail : take more (take (end - n) (drop n bytes)) ≡ take more (drop n bytes) = take-take more (end - n) (drop n bytes) within in
    let is : IsEnding key ending = subst (λ (found : Option Ending). IfSome found (IsEnding key)) c.in-Some.is c.requires.keyed.ending in
    let here = sym shows.console in
    text_lasts key c.requires.keyed.proper ending is c.characters_bring.ensures c.glyphs_are_written.ensures c.plays_in_parts.ensures c.stays_safe.ensures.played x bytes n more
    (subst IsSafe here c.screen.ensures.proper.safe) (c.right_margins.ensures.high x.console.picture x.console.picture.line) (c.requires.ground x shows)
    (subst (λ (s : Console). IsFree ending s.picture (take n bytes)) here (subst (λ (p : Picture). IsFree ending p (take n bytes)) c.screen.ensures.value (c.free_len-free.ensures.free c.if-free-gt0.true)))
    (subst (All (IsPlain key)) tail (All-weaker (IsRunning key) (IsPlain key) (λ byte h. h.plain) (take more (take (end - n) (drop n bytes))) c.running_len-more.ensures.running))
    (record { calm = c.requires.calm x shows; lacks = subst (λ (s : Console). ScreenLacks key s.picture) here c.requires.lacks })

pub returns-then-free-gt0-clause-lacks : goal.returns-then-free-gt0-clause-lacks
returns-then-free-gt0-clause-lacks c = λ x shows count few. (free c x shows count few).lacks

pub returns-then-free-gt0-clause-calm : goal.returns-then-free-gt0-clause-calm
returns-then-free-gt0-clause-calm c = λ x shows. (free c x shows (c.free_len-free.result + c.running_len-more.result) (omega arith)).calm

pub returns-then-free-gt0-clause-text : goal.returns-then-free-gt0-clause-text
returns-then-free-gt0-clause-text c =
    let key = c.args.key.now.chars.now in
    let bytes = c.args.bytes.now in
    let n = c.free_len-free.result in
    let more = c.running_len-more.result in
    let end = c.min-end.result in
    let within : more ≤ end - n = omega (arith, c.running_len-more.ensures.within, length-take (end - n) (drop n bytes)) in
    let P : ℕ → Type 0 = λ byte. is_text byte ≡ true in
    subst (All P) (sym (take-add n more bytes))
    (All-append P (take n bytes) (take more (drop n bytes))
    (All-weaker (λ byte. is_graphic byte ≡ true) P (λ byte h. or_left (is_graphic byte) (is_within 8 15 byte) h) (take n bytes)
    (AllPass-from_list_all is_graphic (take n bytes) (c.free_len-free.ensures.free c.if-free-gt0.true).graphic))
    (subst (All P) (take-take more (end - n) (drop n bytes) within)
    (All-weaker (IsRunning key) P (λ byte h. h.text) (take more (take (end - n) (drop n bytes))) c.running_len-more.ensures.running)))

plain : (c : goal.After-running_len-len) (x : Term) → Shows c.args.terminal.now x → (count : ℕ) → count ≤ c.running_len-len.result
    → Lasts c.args.key.now.chars.now c.requires.keyed.proper (play x (take count c.args.bytes.now))
plain c x shows count high =
    let key = c.args.key.now.chars.now in
    let bytes = c.args.bytes.now in
    let n = c.running_len-len.result in
    running_lasts key c.requires.keyed.proper c.stays_safe.ensures.played x bytes n count
    (subst IsSafe (sym shows.console) c.screen-screen.ensures.proper.safe)
    (All-weaker (IsRunning key) (IsPlain key) (λ byte h. h.plain) (take n bytes) c.running_len-len.ensures.running)
    (c.requires.calm x shows) (subst (λ (s : Console). ScreenLacks key s.picture) (sym shows.console) c.requires.lacks) high

pub returns-clause-lacks : goal.returns-clause-lacks
returns-clause-lacks c = λ x shows count high. (plain c x shows count high).lacks

pub returns-clause-calm : goal.returns-clause-calm
returns-clause-calm c = λ x shows. (plain c x shows c.running_len-len.result (omega arith)).calm
