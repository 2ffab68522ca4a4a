use Rattle.std.proofs.Common.{◌≡◌, ℕ, ◌+◌, List, [], take, refl, sym, subst, ◌∙◌}
use Rattle.std.proofs.lemmas.Bool.{false≢true}
use Rattle.std.proofs.lemmas.List.{take_rest}
use Rattle.plays.specs.Sink.{after_sending, HasRoom}
use Rattle.xterm_term.specs.Term.{play, sent}
use Rattle.xterm_term.specs.Seen.{Shows}
use Rattle.xterm_term.proofs.Feeding.{play_on, sink_on, room_on, left_on}
use Rattle.xterm_term.proofs.Sizes.{both}
use Rattle.plays.proofs.Sinks.{stays_as_sent, keeps_itself, keeps_trans}
use Rattle.xterm_term.proofs.terminal.Terminal.take_all.Goals as goal

pub loop-rest-init : goal.loop-rest-init
unfolding play sent
loop-rest-init c = record {
  fed = record {
    at = 0;
    left = refl;
    shows = λ x shows. shows;
    sent = λ x shows. stays_as_sent c.args.sink.now [] refl;
  };
  front = keeps_itself c.args.sink.now;
  size = record { columns = refl; lines = refl };
  told = λ before was. was;
}

pub loop-rest-preserved : goal.loop-rest-preserved
loop-rest-preserved c =
    let fed = c.loop-rest.invariant.fed in
    let bytes = c.args.bytes.now in
    let n = c.in_ok-taken.taken in
    record {
      fed = record {
        at = fed.at + n;
        left = take_rest c.loop-rest.rest.now n ∙ left_on bytes c.loop-rest.rest.now fed.at n fed.left;
        shows = λ x shows.
            subst (Shows c.take_some.new.self) (sym (play_on x bytes fed.at n))
            (subst (λ (l : List ℕ). Shows c.take_some.new.self (play (play x (take fed.at bytes)) (take n l))) fed.left
            (c.in_ok-taken.ensures.shows (play x (take fed.at bytes)) (fed.shows x shows)));
        sent = λ x shows.
            sink_on x bytes fed.at n c.args.sink.now c.loop-rest.sink c.take_some.new.sink (fed.sent x shows)
            (subst (λ (l : List ℕ). c.take_some.new.sink ≡ after_sending c.loop-rest.sink (sent (play x (take fed.at bytes)) (take n l))) fed.left
            (c.in_ok-taken.ensures.sent (play x (take fed.at bytes)) (fed.shows x shows)));
      };
      front = keeps_trans c.args.sink.now c.loop-rest.sink c.take_some.new.sink c.loop-rest.invariant.front c.take_some.ensures.front;
      size = both _ _ _ c.loop-rest.invariant.size c.take_some.ensures.size;
      told = λ before was. c.take_some.ensures.told before (c.loop-rest.invariant.told before was);
    }

pub returns-in_err-taken-clause-room : goal.returns-in_err-taken-clause-room
returns-in_err-taken-clause-room c x shows room =
    let fed = c.loop-rest.invariant.fed in
    absurd (false≢true (c.in_err-taken.ensures.room (play x (take fed.at c.args.bytes.now)) (fed.shows x shows)
    (subst (λ (l : List ℕ). HasRoom c.loop-rest.sink (sent (play x (take fed.at c.args.bytes.now)) l)) (sym fed.left)
    (room_on x c.args.bytes.now fed.at c.args.sink.now c.loop-rest.sink (fed.sent x shows) c.loop-rest.invariant.front room))))

pub returns-in_err-taken-clause-front : goal.returns-in_err-taken-clause-front
returns-in_err-taken-clause-front c = keeps_trans c.args.sink.now c.loop-rest.sink c.take_some.new.sink c.loop-rest.invariant.front c.take_some.ensures.front

pub returns-in_err-taken-clause-size : goal.returns-in_err-taken-clause-size
returns-in_err-taken-clause-size c = both _ _ _ c.loop-rest.invariant.size c.take_some.ensures.size
