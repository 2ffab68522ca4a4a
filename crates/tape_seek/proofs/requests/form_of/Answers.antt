use Rattle.std.proofs.Common.{◌≡◌, List, ℕ, length, ap, sym, rules, arith, codes}
use Rattle.std.proofs.lemmas.Slice.Eq.{HasBytesAt, text_from_reads}
use Rattle.tape_seek.specs.Requests.{form_of}
use Rattle.tape_seek.proofs.requests.form_of.Goals as goal

-- a word that has these bytes
named : (word text : List ℕ) → length word ≡ length text → HasBytesAt word 0 text → form_of text ≡ form_of word
named word text long reads = ap form_of (sym (text_from_reads word text long reads))

pub returns-in-insert : goal.returns-in-insert
unfolding form_of
returns-in-insert c = named c.args.word.now (codes "insert") (omega arith) (search rules)

pub returns-in-delete : goal.returns-in-delete
unfolding form_of
returns-in-delete c = named c.args.word.now (codes "delete") (omega arith) (search rules)

pub returns-in-replace : goal.returns-in-replace
unfolding form_of
returns-in-replace c = named c.args.word.now (codes "replace") (omega arith) (search rules)

pub returns-in-retime : goal.returns-in-retime
unfolding form_of
returns-in-retime c = named c.args.word.now (codes "retime") (omega arith) (search rules)

pub returns-in-screen : goal.returns-in-screen
unfolding form_of
returns-in-screen c = named c.args.word.now (codes "screen") (omega arith) (search rules)

pub returns-in-reports : goal.returns-in-reports
unfolding form_of
returns-in-reports c = named c.args.word.now (codes "reports") (omega arith) (search rules)

pub returns-in-changes : goal.returns-in-changes
unfolding form_of
returns-in-changes c = named c.args.word.now (codes "changes") (omega arith) (search rules)
