-- `put_line` puts the parts of the line one behind the other from the front. Assumes nothing.
use Rattle.std.proofs.Common.{arith}
use Rattle.records.specs.Answers.{answer_of}
use Rattle.captures.specs.Listing.{line_text}
use Rattle.text.proofs.Puts.{then}
use Rattle.captures.proofs.Puts.{no_line, whole}
use Rattle.captures.proofs.listing.put_line.Goals as goal

pub returns-then-out-lt-LINE_ROOM : goal.returns-then-out-lt-LINE_ROOM
returns-then-out-lt-LINE_ROOM c = no_line _ _ c.if-out-lt-LINE_ROOM.true

pub returns : goal.returns
unfolding line_text
returns c =
    let a = c.args in
    whole a.ordinal a.offset (answer_of a.reading) a.out.now _ _ (omega arith) (omega arith) (omega arith) c.put_answer.ensures.1
    (then _ _ _ _ _ _ _ _ c.put_number-a.ensures (then _ _ _ _ _ _ _ _ c.put_byte-b.ensures (then _ _ _ _ _ _ _ _ c.put_number-c.ensures c.put_answer.ensures.0)))
