use Rattle.std.proofs.Common.{◌≡◌, ◌+◌, length, Some, Ok, Err, ap, sym, ◌∙◌, arith}
use Rattle.tape_mend.specs.Counting.{are_shared, limited}
use Rattle.tape_mend.specs.Front.{Front, front}
use Rattle.tape_mend.specs.Lines.{timing_lines}
use Rattle.tape_mend.specs.Seen.{logs_of}
use Rattle.tape_mend.specs.Streams.{said_by}
use Rattle.tape_mend.proofs.FrontLemmas.{front_ended, front_more, limited_capped, one_line_more, sound_more, told_again}
use Rattle.tape_mend.proofs.front.read_front.Goals as goal

pub returns-in-Err-clause-front : goal.returns-in-Err-clause-front
returns-in-Err-clause-front c =
    let format = c.format_of_timing-format.result in
    let behind = c.loop-logs.behind in
    let logs = logs_of c.loop-logs.logs in
    let text = c.next_timing_line.result.0.now in
    let rest = timing_lines c.next_timing_line.result.1.now in
    let told : limited behind (are_shared logs) (said_by format text) ≡ Err c.in-Err.fault =
    sym (c.in-Err.ensures ∙ ap (λ b. limited behind b c.read_line.result) c.loop-logs.invariant.asked
    ∙ ap (limited behind (are_shared logs)) c.read_line.ensures.said ∙ limited_capped behind (are_shared logs) (said_by format text)) in
    let left : length rest + 1 ≡ c.count_lines-left.result = omega (arith, ap length c.next_timing_line.ensures.lines) in
    c.loop-logs.invariant.same ∙ ap (front format c.loop-logs.pieces.items behind logs) c.next_timing_line.ensures.lines
    ∙ front_ended format c.loop-logs.pieces.items behind logs text rest c.in-Err.fault told
    ∙ ap (λ n. let f : Front = record { pieces = c.loop-logs.pieces.items; behind = behind; fault = Some c.in-Err.fault; left = n } in f) left

pub with_line-behind-requires-clause-within : goal.with_line-behind-requires-clause-within
with_line-behind-requires-clause-within c =
    told_again c.loop-logs.behind c.loop-logs.logs.shared c.read_line.result c.in-Ok.said (sym c.in-Ok.ensures)

pub loop-logs-preserved : goal.loop-logs-preserved
loop-logs-preserved c =
    let format = c.format_of_timing-format.result in
    let behind = c.loop-logs.behind in
    let logs = logs_of c.loop-logs.logs in
    let shared = c.loop-logs.logs.shared in
    let said = c.in-Ok.said in
    let text = c.next_timing_line.result.0.now in
    let rest = timing_lines c.next_timing_line.result.1.now in
    let told : limited behind (are_shared logs) (said_by format text) ≡ Ok said =
    sym (c.in-Ok.ensures ∙ ap (λ b. limited behind b c.read_line.result) c.loop-logs.invariant.asked
    ∙ ap (limited behind (are_shared logs)) c.read_line.ensures.said ∙ limited_capped behind (are_shared logs) (said_by format text)) in
    let more = one_line_more behind shared said in
    record {
      sound = rw c.with_line-behind.ensures (sound_more behind shared c.read_line.result said c.loop-logs.invariant.sound (sym c.in-Ok.ensures));
      lines = omega (arith, ap (λ b. b.lines) c.with_line-behind.ensures, more, ap length c.next_timing_line.ensures.lines);
      asked = c.behind-logs.ensures.asked;
      same = rw (c.in_ok-add_piece.ensures, c.with_line-behind.ensures, c.behind-logs.ensures.logs, c.loop-logs.invariant.asked)
          (c.loop-logs.invariant.same ∙ ap (front format c.loop-logs.pieces.items behind logs) c.next_timing_line.ensures.lines
          ∙ front_more format c.loop-logs.pieces.items behind logs text rest said told);
    }
