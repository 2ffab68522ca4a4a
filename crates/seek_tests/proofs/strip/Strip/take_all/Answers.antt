use Rattle.std.proofs.Common.{take, get_or, refl, sym, ap, subst, ◌∙◌}
use Rattle.std.proofs.lemmas.Bool.{false≢true}
use Rattle.plays.specs.Sink.{Sink, after_sending, HasRoom}
use Rattle.seek_tests.specs.Strip.{Seen, answer, answers, play, step}
use Rattle.seek_tests.proofs.Parts.{answers_next, play_next, room_for_next}
use Rattle.seek_tests.proofs.strip.Strip.take_all.Goals as goal

pub loop-byte-init : goal.loop-byte-init
unfolding answers play
loop-byte-init c = record {
  play = refl;
  sent = sym (c.sending_adds_up.ensures.nothing c.args.sink.now);
  size = refl;
  front = c.the_front_stays.ensures.nothing c.args.sink.now;
}

pub loop-byte-preserved : goal.loop-byte-preserved
loop-byte-preserved c =
    let before = c.loop-byte.invariant in
    let at = c.loop-byte.byte-index in
    let bytes = c.args.bytes.now in
    let byte = get_or bytes at 0 in
    record {
      play = c.in_ok-take.ensures.step ∙ ap (λ (s : Seen). step s byte) before.play ∙ play_next c.args.self.now bytes at c.loop-byte-test.true;
      sent = c.in_ok-take.ensures.sent
          ∙ ap (λ (s : Seen). after_sending c.loop-byte.sink (answer s byte)) before.play
          ∙ ap (λ (k : Sink). after_sending k (answer (play c.args.self.now (take at bytes)) byte)) before.sent
          ∙ c.sending_adds_up.ensures.joined c.args.sink.now _ _
          ∙ ap (after_sending c.args.sink.now) (answers_next c.args.self.now bytes at c.loop-byte-test.true);
      size = c.take.ensures.size ∙ before.size;
      front = c.the_front_stays.ensures.twice c.args.sink.now c.loop-byte.sink c.take.new.sink before.front c.take.ensures.front;
    }

pub returns-in_err-take-clause-room : goal.returns-in_err-take-clause-room
returns-in_err-take-clause-room c = λ room.
    let before = c.loop-byte.invariant in
    let at = c.loop-byte.byte-index in
    let bytes = c.args.bytes.now in
    absurd (false≢true (c.in_err-take.ensures.room
    (subst (λ (s : Seen). HasRoom c.loop-byte.sink (answer s (get_or bytes at 0))) (sym before.play)
    (room_for_next c.args.self.now bytes at c.args.sink.now c.loop-byte.sink c.loop-byte-test.true before.sent
    (c.the_front_stays.ensures.length c.args.sink.now c.loop-byte.sink before.front) room))))
