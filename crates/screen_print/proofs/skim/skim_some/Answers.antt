use Rattle.std.proofs.Common.{◌≡◌, arith, false, subst, sym, take}
use Rattle.std.proofs.lemmas.List.Elements.{All-weaker, recursion_from_All}
use Rattle.vt_term.specs.Console.{Console, IsSafe}
use Rattle.screen_print.specs.Skim.{IsMute, IsPlain, ScreenLacks, is_asking}
use Rattle.screen_print.proofs.MuteLemmas.{mute_sends}
use Rattle.screen_print.proofs.SkimEffects.{running_lasts}
use Rattle.screen_print.proofs.SkimLemmas.{lacks_start}
use Rattle.screen_print.proofs.skim.skim_some.Goals as goal

pub run-requires : goal.run-requires
run-requires c = λ x shows.
    let key = c.args.key.now.chars.now in
    let bytes = take c.mute_len-taken.result c.args.bytes.now in
    mute_sends x bytes
    (recursion_from_All (λ byte. is_asking byte ≡ false) bytes (All-weaker (IsMute key) (λ byte. is_asking byte ≡ false) (λ byte h. h.unasked) bytes c.mute_len-taken.ensures.mute))

pub returns-then-taken-gt0-clause-lacks : goal.returns-then-taken-gt0-clause-lacks
returns-then-taken-gt0-clause-lacks c = λ x shows count high.
    let key = c.args.key.now.chars.now in
    let bytes = c.args.bytes.now in
    let n = c.mute_len-taken.result in
    (running_lasts key c.requires.keyed.proper c.stays_safe.ensures.played x bytes n count (subst IsSafe (sym shows.console) c.screen-screen.ensures.proper.safe)
    (All-weaker (IsMute key) (IsPlain key) (λ byte h. h.plain) (take n bytes) c.mute_len-taken.ensures.mute)
    (c.is_calm.ensures c.if-is_calm.true x shows) (subst (λ (s : Console). ScreenLacks key s.picture) (sym shows.console) c.requires.lacks) (omega (arith, high))).lacks

pub returns-then-taken-gt0-clause-after : goal.returns-then-taken-gt0-clause-after
returns-then-taken-gt0-clause-after c = λ _.
    let key = c.args.key.now.chars.now in
    let bytes = c.args.bytes.now in
    let n = c.mute_len-taken.result in
    let x = c.screen-screen.ensures.proper.term.0 in
    let shows = c.screen-screen.ensures.proper.term.1 in
    subst (λ (s : Console). ScreenLacks key s.picture) (c.run.ensures.shows x shows).console
    (running_lasts key c.requires.keyed.proper c.stays_safe.ensures.played x bytes n n (subst IsSafe (sym shows.console) c.screen-screen.ensures.proper.safe)
    (All-weaker (IsMute key) (IsPlain key) (λ byte h. h.plain) (take n bytes) c.mute_len-taken.ensures.mute)
    (c.is_calm.ensures c.if-is_calm.true x shows) (subst (λ (s : Console). ScreenLacks key s.picture) (sym shows.console) c.requires.lacks) (omega arith)).lacks

pub returns-clause-lacks : goal.returns-clause-lacks
returns-clause-lacks c = λ x shows.
    let key = c.args.key.now.chars.now in
    lacks_start key x c.args.bytes.now (subst (λ (s : Console). ScreenLacks key s.picture) (sym shows.console) c.requires.lacks)
