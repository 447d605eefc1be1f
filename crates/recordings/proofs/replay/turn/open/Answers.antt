-- `open` refuses too little room, starts a desk of the line, or says that there is none. Assumes nothing.
use Rattle.std.proofs.Common.{arith}
use Rattle.recordings.proofs.Turning.{unroomed-open, unnamed-open, named-open}
use Rattle.recordings.proofs.replay.turn.open.Goals as goal

pub returns-then-out-lt-ROW_ROOM : goal.returns-then-out-lt-ROW_ROOM
returns-then-out-lt-ROW_ROOM c = unroomed-open c.args.first.now c.args.out.now _ c.if-out-lt-ROW_ROOM.true c.begun.ensures

pub returns-then-line-eq0 : goal.returns-then-line-eq0
returns-then-line-eq0 c =
    unnamed-open c.args.first.now c.args.out.now _ _ c.byte_at.ensures c.line_named-line.ensures (omega arith) _ _ _ _ _
    c.if-line-eq0.true c.bad_line.ensures c.put_text-filled.ensures c.begun-then-line-eq0.ensures c.ended.ensures

pub returns : goal.returns
returns c =
    named-open c.args.first.now c.args.out.now _ _ c.byte_at.ensures c.line_named-line.ensures (omega arith) _ c.if-line-eq0.false c.begun-2.ensures
