-- One digit more.
use Rattle.std.proofs.Common.{◌≡◌, ◌∙◌, get_or, length, arith, ◌<◌}
use Rattle.replay.specs.Words.{hex_digit_ascii}
use Rattle.replay.proofs.Spelling.{decimal_more, within_text, byte_of_rest}
use Rattle.replay.proofs.words.Reader.decimal.Goals as goal

pub loop-byte-preserved : goal.loop-byte-preserved
loop-byte-preserved c =
    let turn = c.loop-byte in
    let text = c.args.self.now.text.now in
    let start = c.args.self.now.pos in
    let left = c.rest-byte-items.ensures in
    let digit = c.in-Some.ensures in
    let longer = c.in-Some-with_digit.ensures in
    let within : turn.pos < length text = rw turn.invariant.0 (within_text text _ start _ left c.loop-byte-test.true) in
    let read : hex_digit_ascii c.in-Some.digit ≡ get_or text turn.pos 0 = rw turn.invariant.0 (digit.2 ∙ byte_of_rest text _ start _ left) in
    (omega arith, longer.0, rw longer.1 (decimal_more text start turn.pos turn.value c.in-Some.digit (omega arith) within read digit.0 turn.invariant.2))
