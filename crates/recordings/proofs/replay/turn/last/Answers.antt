-- `last` says a record cut off where bytes are held. Assumes nothing.
use Rattle.std.proofs.Common.{arith, rules}
use Rattle.recordings.proofs.Bounds.{last_fits}
use Rattle.recordings.proofs.Turning.{none-held, some-held}
use Rattle.recordings.proofs.replay.turn.last.Goals as goal

pub returns-then-replayer-eq0 : goal.returns-then-replayer-eq0
returns-then-replayer-eq0 c = none-held c.args.replayer c.args.out.now _ c.if-replayer-eq0.true c.ended.ensures

pub returns : goal.returns
returns c =
    let a = c.args in
    let fits = last_fits 20 a.replayer.base (omega arith) (search rules) in
    some-held a.replayer a.out.now _ _ _ c.if-replayer-eq0.false c.requires fits c.ended-2.ensures c.put_refused-filled.ensures
