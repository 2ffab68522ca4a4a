use Rattle.std.proofs.Common.{◌≡◌, ◌+◌, ap, ◌∙◌, arith}
use Rattle.std.specs.Ordering.{nat_cmp}
use Rattle.std.specs.Cmp.Lexicographic.{slice_cmp}
use Rattle.std.specs.BTreeMap.{insert_entry}
use Rattle.tape_check.specs.Counting.{plain_entries}
use Rattle.tape_check.specs.Scan.{count_of}
use Rattle.tape_check.proofs.CountLemmas.{lookup_plain, insert_plain}
use Rattle.tape_check.proofs.unplayed.Counts.count.Goals as goal

pub returns : goal.returns
returns c =
    let entries = c.args.self.now.entries.entries in
    let name = c.args.name in
    let found = lookup_plain name.items entries in
    let more : c.in-Some.more ≡ count_of (plain_entries entries) name.items + 1 = grind (arith, found) in
    ap plain_entries c.in_ok-insert.ensures.entries
    ∙ insert_plain name c.in-Some.more entries
    ∙ ap (insert_entry (slice_cmp nat_cmp) (plain_entries entries) name.items) more
