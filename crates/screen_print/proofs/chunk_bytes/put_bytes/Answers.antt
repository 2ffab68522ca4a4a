use Rattle.std.proofs.Common.{◌<◌, ◌+◌, ap, arith, length, subst, sym, take}
use Rattle.std.proofs.lemmas.List.{length-drop, take_rest}
use Rattle.tape_core.specs.Devices.{Gave}
use Rattle.vt_term.specs.Seen.{Shows, Told}
use Rattle.vt_term.specs.Term.{Term, play}
use Rattle.screen_print.specs.EachByte.{byte_lines, still_within}
use Rattle.screen_print.specs.FindLines.{standing}
use Rattle.screen_print.specs.Fresh.{Keeps}
use Rattle.screen_print.specs.Stills.{Still}
use Rattle.screen_print.proofs.EachByteLemmas.{byte_is, play_more, shows_start}
use Rattle.screen_print.proofs.FindLemmas.{first_more}
use Rattle.screen_print.proofs.KeptLemmas.{bytes_kept, shows_on}
use Rattle.screen_print.proofs.chunk_bytes.put_bytes.Goals as goal

pub loop-at-init : goal.loop-at-init
loop-at-init g c = record {
  within = omega arith;
  shows = λ x h. shows_start c.args.terminal.now x h;
  scratch = c.requires.scratch;
  before = c.requires.before;
  after = c.requires.after;
  gave = λ x h. c.gives_join.ensures.nothing c.args.writer.now;
}

pub put_byte-requires-clause-told : goal.put_byte-requires-clause-told
put_byte-requires-clause-told g c =
    subst (λ (still : Still). Told still.rows c.step.new.terminal) (sym c.play_quietly-at.ensures.before) c.step.ensures.told

pub loop-at-preserved-then-at-bytes : goal.loop-at-preserved-then-at-bytes
loop-at-preserved-then-at-bytes g c =
    let chunk = c.args.chunk.now in
    let ends = c.args.ends.now in
    let bytes = c.args.bytes.now in
    let plays = c.plays_in_parts.ensures in
    let at = c.loop-at.at in
    let n = c.play_quietly-at.result in
    let quiet = c.play_quietly-at.ensures in
    let tail = take_rest bytes at in
    let within : at + n < length bytes = c.if-at-bytes.true in
    let here : (x : Term) → Shows c.args.terminal.now x → Shows c.play_quietly-at.new.terminal (play x (take (at + n) bytes)) =
    λ x h. shows_on plays c.loop-at.terminal c.play_quietly-at.new.terminal x bytes at n (c.loop-at.invariant.shows x h)
    (subst (λ b. Shows c.loop-at.terminal (play x (take at bytes)) → Shows c.play_quietly-at.new.terminal (play (play x (take at bytes)) (take n b))) tail (quiet.shows (play x (take at bytes)))) in
    let shows : (x : Term) → Shows c.args.terminal.now x → Shows c.step.new.terminal (play x (take (at + n + 1) bytes)) =
    λ x h. subst (Shows c.step.new.terminal) (play_more plays x bytes (at + n) within) (c.step.ensures.shows (play x (take (at + n) bytes)) (here x h)) in
    record {
      within = omega (arith, within);
      shows = shows;
      scratch = c.step.ensures.scratch;
      before = c.put_byte.ensures.before;
      after = c.put_byte.ensures.after;
      gave = λ x h.
          let text = c.args.sought.now.text.now in
          let first = ends.first.now in
          let last = ends.last.now in
          let y = play x (take at bytes) in
          let f = byte_lines text chunk.index chunk.due first (standing text first) last (standing text last) x bytes in
          let kept = bytes_kept plays text chunk.index chunk.due first last x bytes at n
          (λ count lt. subst (λ b. Keeps text (still_within y b count) (still_within y b (count + 1))) tail (quiet.keeps y (c.loop-at.invariant.shows x h) count lt)) in
          let line = byte_is text chunk.index chunk.due chunk.len first last (standing text first) (standing text last) x bytes (at + n) c.play_quietly-at.new.before c.play_quietly-at.new.terminal c.step.new.terminal c.requires.len quiet.before (here x h) (shows x h) in
          subst (λ t. Gave g.W.Write.contents c.args.writer.now c.put_byte.new.writer t) (sym (first_more f (at + n)))
          (c.gives_join.ensures.both _ _ _ _ _ (subst (λ t. Gave g.W.Write.contents c.loop-at.writer c.put_byte.new.writer t) line c.put_byte.ensures.gave)
          (subst (λ t. Gave g.W.Write.contents c.args.writer.now c.loop-at.writer t) (sym kept) (c.loop-at.invariant.gave x h)));
    }

pub loop-at-preserved : goal.loop-at-preserved
loop-at-preserved g c =
    let chunk = c.args.chunk.now in
    let ends = c.args.ends.now in
    let bytes = c.args.bytes.now in
    let plays = c.plays_in_parts.ensures in
    let at = c.loop-at.at in
    let n = c.play_quietly-at.result in
    let quiet = c.play_quietly-at.ensures in
    let tail = take_rest bytes at in
    record {
      within = omega (arith, quiet.within, c.loop-at.invariant.within, ap length tail, length-drop at bytes);
      shows = λ x h. shows_on plays c.loop-at.terminal c.play_quietly-at.new.terminal x bytes at n (c.loop-at.invariant.shows x h)
          (subst (λ b. Shows c.loop-at.terminal (play x (take at bytes)) → Shows c.play_quietly-at.new.terminal (play (play x (take at bytes)) (take n b))) tail (quiet.shows (play x (take at bytes))));
      scratch = quiet.scratch;
      before = quiet.before;
      after = quiet.after;
      gave = λ x h.
          let text = c.args.sought.now.text.now in
          let y = play x (take at bytes) in
          subst (λ t. Gave g.W.Write.contents c.args.writer.now c.loop-at.writer t)
          (sym (bytes_kept plays text chunk.index chunk.due ends.first.now ends.last.now x bytes at n
          (λ count lt. subst (λ b. Keeps text (still_within y b count) (still_within y b (count + 1))) tail (quiet.keeps y (c.loop-at.invariant.shows x h) count lt))))
          (c.loop-at.invariant.gave x h);
    }
