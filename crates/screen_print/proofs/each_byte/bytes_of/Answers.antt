use Rattle.std.proofs.Common.{◌∙◌, ap, get_or}
use Rattle.screen_print.proofs.EachByteLemmas.{bytes_here}
use Rattle.screen_print.proofs.each_byte.bytes_of.Goals as goal

pub returns : goal.returns
returns c =
    let chunks = c.args.recording.now.chunks in
    let index = c.args.index in
    c.as_slice.ensures ∙ ap (λ cs. (get_or cs index c.index-chunks-index.result).bytes) c.chunks.ensures.chunks ∙ bytes_here chunks index c.index-chunks-index.result c.requires
