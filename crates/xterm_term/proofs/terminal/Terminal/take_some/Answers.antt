use Rattle.std.proofs.Common.{◌≡◌, ℕ, List, ap, subst, ◌∙◌, arith}
use Rattle.std.proofs.lemmas.Bool.{false≢true}
use Rattle.std.proofs.lemmas.Bool.Decides.{nat_tests}
use Rattle.plays.specs.Sink.{after_sending}
use Rattle.xterm_term.specs.Term.{play, sent}
use Rattle.xterm_term.specs.Seen.{Shows}
use Rattle.xterm_term.proofs.Feeding.{one_played, one_sent, room_for_one, room_for_front}
use Rattle.xterm_term.proofs.Taken.{nothing_played, front_within}
use Rattle.xterm_term.proofs.terminal.Terminal.take_some.Goals as goal

pub returns-in_err-taken-clause-room : goal.returns-in_err-taken-clause-room
returns-in_err-taken-clause-room c x shows room =
    let none : c.take_plain-plain.result ≡ 0 = grind (arith, nat_tests) in
    let here = subst (Shows c.take_plain-plain.new.self) (nothing_played x c.args.bytes.now _ none) (c.take_plain-plain.ensures.shows x shows) in
    absurd (false≢true (c.in_err-taken.ensures.room x here (room_for_front x c.args.bytes.now c.sequence_at-sequence.result c.args.sink.now room)))

pub returns-then-sequence-gt0-clause-shows : goal.returns-then-sequence-gt0-clause-shows
returns-then-sequence-gt0-clause-shows c x shows =
    let none : c.take_plain-plain.result ≡ 0 = grind (arith, nat_tests) in
    let here = subst (Shows c.take_plain-plain.new.self) (nothing_played x c.args.bytes.now _ none) (c.take_plain-plain.ensures.shows x shows) in
    subst (λ (l : List ℕ). Shows c.take_sequence.new.self (play x l)) (front_within c.args.bytes.now c.in_ok-taken.taken c.sequence_at-sequence.result c.in_ok-taken.ensures.within)
    (c.in_ok-taken.ensures.shows x here)

pub returns-then-sequence-gt0-clause-sent : goal.returns-then-sequence-gt0-clause-sent
returns-then-sequence-gt0-clause-sent c x shows =
    let none : c.take_plain-plain.result ≡ 0 = grind (arith, nat_tests) in
    let here = subst (Shows c.take_plain-plain.new.self) (nothing_played x c.args.bytes.now _ none) (c.take_plain-plain.ensures.shows x shows) in
    c.in_ok-taken.ensures.sent x here
    ∙ ap (λ (l : List ℕ). after_sending c.args.sink.now (sent x l)) (front_within c.args.bytes.now c.in_ok-taken.taken c.sequence_at-sequence.result c.in_ok-taken.ensures.within)

pub returns-clause-shows : goal.returns-clause-shows
returns-clause-shows c x shows =
    let none : c.take_plain-plain.result ≡ 0 = grind (arith, nat_tests) in
    let here = subst (Shows c.take_plain-plain.new.self) (nothing_played x c.args.bytes.now _ none) (c.take_plain-plain.ensures.shows x shows) in
    subst (Shows c.take_byte.new.self) (one_played x c.args.bytes.now c.requires) (c.in_ok-take_byte.ensures.shows x here)

pub returns-clause-sent : goal.returns-clause-sent
returns-clause-sent c x shows =
    let none : c.take_plain-plain.result ≡ 0 = grind (arith, nat_tests) in
    let here = subst (Shows c.take_plain-plain.new.self) (nothing_played x c.args.bytes.now _ none) (c.take_plain-plain.ensures.shows x shows) in
    c.in_ok-take_byte.ensures.sent x here ∙ ap (after_sending c.args.sink.now) (one_sent x c.args.bytes.now c.requires)

pub returns-in_err-take_byte-clause-room : goal.returns-in_err-take_byte-clause-room
returns-in_err-take_byte-clause-room c x shows room =
    let none : c.take_plain-plain.result ≡ 0 = grind (arith, nat_tests) in
    let here = subst (Shows c.take_plain-plain.new.self) (nothing_played x c.args.bytes.now _ none) (c.take_plain-plain.ensures.shows x shows) in
    absurd (false≢true (c.in_err-take_byte.ensures.room x here (room_for_one x c.args.bytes.now c.args.sink.now c.requires room)))
