use Rattle.std.proofs.Common.{◌≡◌, ◌∙◌, ◌+◌, ◌++◌, ap, get_or, subst, sym}
use Rattle.tape_core.specs.Due.{bytes_at, first}
use Rattle.text_find.specs.Lines.{AreBetween}
use Rattle.text_find.proofs.LineLemmas.{bytes_here}
use Rattle.text_find.proofs.again.begin_again.Goals as goal

pub returns-clause-ends : goal.returns-clause-ends
returns-clause-ends g c = λ profile late.
    let text = c.args.text.now in
    let chunks = c.args.recording.now.chunks in
    let index = c.args.index in
    let screen = g.F.Finder.screens profile in
    let here = first chunks index in
    let chunk = c.as_slice.result.now in
    let bytes : chunk ≡ bytes_at chunks index =
    c.as_slice.ensures ∙ ap (λ cs. (get_or cs index c.index-chunks-index.result).bytes) c.chunks.ensures.chunks ∙ bytes_here chunks index c.index-chunks-index.result c.requires in
    let next : here ++ chunk ≡ first chunks (index + 1) = ap (λ l. here ++ l) bytes ∙ sym (c.first_grows_by_a_chunk.ensures.at chunks index) in
    let behind = c.in_ok-play_chunks.ensures profile late.count late.played in
    let ahead = c.in_ok-ahead.ensures profile here behind in
    subst (λ b. AreBetween text (screen here) (screen b) c.catch_up.new.sides) next
    (c.in_ok-catch_up.ensures.sides profile here here (here ++ chunk) (c.in_ok-play.ensures.shows profile here ahead) (c.in_ok-play.ensures.told profile here ahead)
    (c.in_ok-look_up.ensures.still profile ahead))
