use Rattle.std.proofs.Common.{◌≡◌, ℕ, ◌+◌, ◌-◌, ◌≤◌, List, [], ◌++◌, ◌∙◌, ap, arith, refl, subst, sym}
use Rattle.tape_core.specs.Due.{bytes_at, due_time, first}
use Rattle.tape_seek.specs.Moments.{up_to}
use Rattle.vt_term.specs.Seen.{Shows}
use Rattle.vt_term.specs.Term.{play, reset_term_as}
use Rattle.screen_print.specs.EachByte.{chunk_lines_at}
use Rattle.screen_print.specs.Skim.{NowhereIn}
use Rattle.chunk_walk.proofs.TextLemmas.{texts_from, texts_more}
use Rattle.screen_print.proofs.SkimLemmas.{nowhere_lines}
use Rattle.screen_print.proofs.each_byte.pass_some.Goals as goal

-- a chunk more that has no lines
none_more : (f : ℕ → List ℕ) (start index : ℕ) → start ≤ index → texts_from f start (index - start) ≡ [] → f index ≡ []
    → texts_from f start (index + 1 - start) ≡ []
none_more f start index low before here =
    sym (texts_more f start index (f index) low refl) ∙ ap (λ l. l ++ f index) before ∙ here

pub loop-index-preserved : goal.loop-index-preserved
loop-index-preserved c =
    let text = c.args.text.now in
    let tape = c.args.recording.now in
    let start = c.args.start in
    let index = c.loop-index.index in
    let terminal = c.passes.new.terminal in
    let before = c.loop-index.invariant in
    let passed = c.in-Some-passes.ensures in
    let here = c.bytes_of-bytes.ensures in
    record {
      shows = λ profile h.
          let x = up_to profile tape.chunks index in
          let next = ap (play (reset_term_as profile)) (c.first_grows_by_a_chunk.ensures.at tape.chunks index)
          ∙ c.plays_in_parts.ensures (reset_term_as profile) (first tape.chunks index) (bytes_at tape.chunks index) in
          subst (Shows terminal) (sym next) (subst (λ bytes. Shows terminal (play x bytes)) here (passed.shows x (before.shows profile h)));
      scratch = passed.scratch;
      known = passed.known;
      nothing = λ profile h.
          let x = up_to profile tape.chunks index in
          none_more (chunk_lines_at text profile tape) start index (omega arith) (before.nothing profile h)
          (nowhere_lines text index (due_time tape.chunks index) x (bytes_at tape.chunks index)
          (subst (NowhereIn text x) here (passed.nowhere x (before.shows profile h))));
    }
