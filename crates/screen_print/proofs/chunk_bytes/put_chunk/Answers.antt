use Rattle.std.proofs.Common.{◌≡◌, ℕ, List, [], ◌++◌, ◌∙◌, ap, length, refl, subst, sym}
use Rattle.std.specs.List.{flat_map, range_with_len}
use Rattle.tape_core.specs.Devices.{Gave}
use Rattle.vt_term.specs.Term.{play}
use Rattle.screen_print.specs.declared.chunk_bytes.Played.{Played}
use Rattle.screen_print.specs.EachByte.{byte_lines, still_within}
use Rattle.screen_print.specs.FindLines.{find_text, less_lines, standing}
use Rattle.screen_print.specs.Cover.{Cover}
use Rattle.screen_print.specs.ByLine.{DifferIn}
use Rattle.screen_print.specs.Stills.{Still, still_of}
use Rattle.screen_print.proofs.ByLineLemmas.{differ_back}
use Rattle.screen_print.proofs.EachByteLemmas.{bytes_are, first_is, last_is, less_is, nothing_less, still_shown}
use Rattle.screen_print.proofs.chunk_bytes.put_chunk.Goals as goal

-- the lines in which a terminal differs from a still are those in which what stands on it does
played_differ : (played : Played) (lines : List ℕ) → played.last.now ≡ still_of played.terminal.now.console
    → Cover lines played.first.now.rows played.terminal.now.console.picture.rows → DifferIn lines played.first.now played.last.now
played_differ played lines last changed =
    subst (DifferIn lines played.first.now) (sym last) changed.others

-- where nothing is found behind a chunk nothing is less at either end
played_less : (text : List ℕ) (index due len : ℕ) (played : Played) → len ≡ length text → played.last.now ≡ still_of played.terminal.now.console
    → find_text text index due played.first.now (still_of played.terminal.now.console) ≡ []
    → (less_lines 45 index due len played.first.now (standing text played.first.now) played.last.now (standing text played.last.now) ≡ [])
    × (less_lines 43 index due len played.last.now (standing text played.last.now) played.first.now (standing text played.first.now) ≡ [])
played_less text index due len played is last none =
    nothing_less text index due len played.first.now played.last.now is (subst (λ (s : Still). find_text text index due played.first.now s ≡ []) (sym last) none)

pub returns-clause-gave : goal.returns-clause-gave
returns-clause-gave g c = λ x h.
    let chunk = c.args.chunk.now in
    let bytes = c.args.bytes.now in
    let text = c.args.text.now in
    let played = c.args.played in
    let first = still_within x bytes 0 in
    let last = still_within x bytes (length bytes) in
    let before = c.requires.first ∙ still_shown c.args.terminal.now x h ∙ first_is x bytes in
    let after = c.requires.last ∙ still_shown played.terminal.now (play x bytes) (c.requires.played x h) ∙ last_is x bytes in
    let one = played.first.now in
    let other = played.last.now in
    let went = less_lines 45 chunk.index chunk.due (length text) first (standing text first) last (standing text last) in
    let middle = flat_map (byte_lines text chunk.index chunk.due first (standing text first) last (standing text last) x bytes) (range_with_len 0 (length bytes)) in
    let came = less_lines 43 chunk.index chunk.due (length text) last (standing text last) first (standing text first) in
    let line = less_is 45 chunk.index chunk.due text chunk.len one first other last (standing text one) (standing text other) c.requires.len before refl after refl in
    let inside = bytes_are text chunk.index chunk.due x bytes (length bytes) one first other last (standing text one) (standing text other) before refl after refl in
    let back = less_is 43 chunk.index chunk.due text chunk.len other last one first (standing text other) (standing text one) c.requires.len after refl before refl in
    c.gives_join.ensures.both _ _ _ (went ++ middle) came
    (subst (λ t. Gave g.W.Write.contents c.put_bytes.new.writer c.put_end-2.new.writer t) back c.put_end-2.ensures)
    (c.gives_join.ensures.both _ _ _ went middle
    (subst (λ t. Gave g.W.Write.contents c.put_end.new.writer c.put_bytes.new.writer t) inside (c.put_bytes.ensures.gave x h))
    (subst (λ t. Gave g.W.Write.contents c.args.writer.now c.put_end.new.writer t) line c.put_end.ensures))

pub put_end-requires-clause-lines : goal.put_end-requires-clause-lines
put_end-requires-clause-lines g c = played_differ c.args.played c.args.played.lines.now c.requires.last c.requires.changed

pub put_end-requires-2-clause-lines : goal.put_end-requires-2-clause-lines
put_end-requires-2-clause-lines g c =
    let played = c.args.played in
    differ_back played.first.now played.last.now played.lines.now
    (played_differ played played.lines.now c.requires.last c.requires.changed)

pub put_end-requires-clause-quiet : goal.put_end-requires-clause-quiet
put_end-requires-clause-quiet g c = λ quiet.
    let chunk = c.args.chunk.now in
    (played_less c.args.text.now chunk.index chunk.due chunk.len c.args.played c.requires.len c.requires.last
    (c.stays-quiet.ensures quiet chunk.index chunk.due)).0

pub put_end-requires-2-clause-quiet : goal.put_end-requires-2-clause-quiet
put_end-requires-2-clause-quiet g c = λ quiet.
    let chunk = c.args.chunk.now in
    (played_less c.args.text.now chunk.index chunk.due chunk.len c.args.played c.requires.len c.requires.last
    (c.stays-quiet.ensures quiet chunk.index chunk.due)).1

pub put_end-requires-clause-moved : goal.put_end-requires-clause-moved
put_end-requires-clause-moved g c = c.went.ensures c.args.played.first.now c.args.played.last.now c.of-rise.ensures.rise

pub put_end-requires-2-clause-moved : goal.put_end-requires-2-clause-moved
put_end-requires-2-clause-moved g c = c.came.ensures c.args.played.first.now c.args.played.last.now c.of-rise.ensures.rise
