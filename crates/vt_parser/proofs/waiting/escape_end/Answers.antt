use Rattle.std.proofs.Common.{arith}
use Rattle.std.proofs.lemmas.Bool.Decides.{nat_tests}
use Rattle.vt_parser.proofs.Waits.{escape_alone, escape_intermediate, escape_string, escape_text}
use Rattle.vt_parser.proofs.waiting.escape_end.Goals as goal

pub returns-then-bytes-lt2-clause-holds : goal.returns-then-bytes-lt2-clause-holds
returns-then-bytes-lt2-clause-holds c = λ state. escape_alone state c.args.bytes.now c.requires.some c.requires.first

pub returns-then-bytes-eq-BRACKET-clause-holds : goal.returns-then-bytes-eq-BRACKET-clause-holds
returns-then-bytes-eq-BRACKET-clause-holds c = λ state.
    escape_text state c.args.bytes.now c.text_end.result (grind (arith, nat_tests)) c.requires.first (grind (arith, nat_tests)) c.text_end.ensures.value

pub returns-then-begins_string-clause-holds : goal.returns-then-begins_string-clause-holds
returns-then-begins_string-clause-holds c = λ state.
    escape_string state c.args.bytes.now c.string_end.result (grind (arith, nat_tests)) c.requires.first (grind (arith, nat_tests)) c.string_end.ensures.value

pub returns-then-is_intermediate-clause-holds : goal.returns-then-is_intermediate-clause-holds
returns-then-is_intermediate-clause-holds c = λ state.
    escape_intermediate state c.args.bytes.now (grind (arith, nat_tests)) c.requires.first (grind (arith, nat_tests))

pub returns-else-is_intermediate-clause-holds : goal.returns-else-is_intermediate-clause-holds
returns-else-is_intermediate-clause-holds c = λ state. escape_alone state c.args.bytes.now c.requires.some c.requires.first
