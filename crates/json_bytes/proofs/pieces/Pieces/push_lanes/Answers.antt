use Rattle.std.proofs.Common.{◌++◌, ◌∙◌, ap, append_assoc, arith, sym, take}
use Rattle.json_bytes.proofs.PieceLemmas.{cut_more}
use Rattle.json_bytes.proofs.pieces.Pieces.push_lanes.Goals as goal

pub returns : goal.returns
returns c =
    let self = c.args.self.now in
    ap (λ held. self.bytes.items ++ held) (cut_more c.store.new.held self.held c.args.lanes self.count c.args.run (omega arith) c.requires.run c.store.ensures.lanes)
    ∙ sym (append_assoc self.bytes.items (take self.count self.held) (take c.args.run c.args.lanes))
