use Rattle.std.proofs.Common.{take, subst, sym, ap, ◌∙◌}
use Rattle.std.specs.Prelude.{slice_index, List, ℕ}
use Rattle.xterm_transcript.specs.Playing.{Comes}
use Rattle.xterm_transcript.proofs.PieceLemmas.{comes_alien, comes_begun, comes_character, one_of}
use Rattle.xterm_transcript.proofs.transcriber.Transcriber.next_upper.Goals as goal

pub returns-in-Some-clause-comes : goal.returns-in-Some-clause-comes
returns-in-Some-clause-comes c x is =
    let bytes = c.args.bytes.now in
    subst (λ n. Comes x (take n bytes) c.put_piece.result c.args.self.now.parser) (sym c.put_piece.ensures.taken)
    (comes_character c.args.self.now x (take c.in-Some.taken bytes) c.in-Some.character c.put_piece.result is c.requires.ground c.requires.title c.requires.none
    c.in-Some.ensures.spelled c.put_piece.ensures.leaving c.put_piece.ensures.after)

pub returns-then-begins-clause-comes : goal.returns-then-begins-clause-comes
returns-then-begins-clause-comes c x is =
    let bytes = c.args.bytes.now in
    subst (λ (l : List ℕ). Comes x l c.kept.result c.args.self.now.parser) (one_of bytes c.requires.some ∙ ap (λ n. take n bytes) (sym c.kept.ensures.taken))
    (comes_begun c.args.self.now x (slice_index bytes 0) c.kept.result is c.requires.ground c.requires.title c.requires.none (sym c.begins.ensures ∙ c.if-begins.true)
    c.kept.ensures.leaving c.kept.ensures.after)

pub returns-clause-comes : goal.returns-clause-comes
returns-clause-comes c x is =
    let bytes = c.args.bytes.now in
    subst (λ (l : List ℕ). Comes x l c.put_piece-2.result c.args.self.now.parser) (one_of bytes c.requires.some ∙ ap (λ n. take n bytes) (sym c.put_piece-2.ensures.taken))
    (comes_alien c.args.self.now x (slice_index bytes 0) c.put_piece-2.result is c.requires.ground c.requires.title c.requires.none c.requires.upper
    (sym c.begins.ensures ∙ c.if-begins.false) c.put_piece-2.ensures.leaving c.put_piece-2.ensures.after)
