-- One digit more.
use Rattle.std.proofs.Common.{◌≡◌, ◌+◌, ◌∙◌, get_or, length, arith, ◌<◌}
use Rattle.replay.specs.Words.{hex_digit_ascii}
use Rattle.replay.proofs.Spelling.{hex_more, hex_bound, within_text, byte_of_rest, byte_of_first}
use Rattle.replay.proofs.words.Reader.hex.Goals as goal

pub loop-byte-preserved : goal.loop-byte-preserved
loop-byte-preserved c =
    let turn = c.loop-byte in
    let text = c.args.self.now.text.now in
    let start = c.args.self.now.pos in
    let i = turn.byte-index in
    let d = c.in-Some-digit.digit in
    let first = c.in-Some.ensures.cases in
    let digit = c.in-Some-digit.ensures in
    let left : i < length c.rest.result.now = omega (arith, first.enough, c.loop-byte-test.true) in
    let read : hex_digit_ascii d ≡ get_or text (start + i) 0 = digit.2 ∙ byte_of_first _ _ i 8 first.same c.loop-byte-test.true ∙ byte_of_rest text _ start i c.rest.ensures in
    let further : start + (i + 1) ≡ start + i + 1 = omega arith in
    (rw c.from.ensures (hex_bound turn.value d i turn.invariant.0 digit.0), rw (c.from.ensures, further) (hex_more text start (start + i) turn.value d (omega arith) (within_text text _ start i c.rest.ensures left) read digit.0 turn.invariant.1))
