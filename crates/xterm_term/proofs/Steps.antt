-- Many bytes, one after another.
use Rattle.std.proofs.Common.{ℕ, List, [], ◌∷◌, ◌++◌, refl, sym, ap, ◌∙◌}
use Rattle.std.proofs.lemmas.List.{append-nil, append_assoc}
use Rattle.std.proofs.lemmas.List.Sums.{fold-append}
use Rattle.xterm_term.specs.Term.{reply_to, step, play, sent}
use Rattle.xterm_term.specs.Law.{PlaysInParts, SendsInParts, SentIsAppended}

pub plays_in_parts : PlaysInParts
unfolding play
plays_in_parts x first second = fold-append step x first second

pub sends_in_parts : SendsInParts
unfolding play sent
sends_in_parts x [] second = refl
sends_in_parts x (byte ∷ first) second =
    ap (λ (l : List ℕ). reply_to x byte ++ l) (sends_in_parts (step x byte) first second)
    ∙ sym (append_assoc (reply_to x byte) (sent (step x byte) first) (sent (play (step x byte) first) second))

pub sent_is_appended : SentIsAppended
unfolding play sent
sent_is_appended x [] = sym (append-nil x.reports)
sent_is_appended x (byte ∷ bytes) = sent_is_appended (step x byte) bytes ∙ append_assoc x.reports (reply_to x byte) (sent (step x byte) bytes)
