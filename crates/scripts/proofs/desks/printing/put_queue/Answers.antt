-- `put_queue` goes from record to record. Assumes nothing.
use Rattle.std.proofs.Common.{arith}
use Rattle.text.proofs.Puts.{part-on, put_all}
use Rattle.scripts.proofs.Queue.{waiting-here, queue-end}
use Rattle.scripts.proofs.desks.printing.put_queue.Goals as goal

pub loop-waiting-preserved : goal.loop-waiting-preserved
loop-waiting-preserved c =
    let here = waiting-here c.args.queue.now c.args.queued _ _ _ (omega arith) c.loop-waiting-test.true in
    part-on _ _ _ _ _ _ c.put_waiting-place.ensures here c.loop-waiting.invariant

pub returns : goal.returns
returns c = put_all _ _ _ _ _ _ (queue-end c.args.queue.now c.args.queued c.min.result _ (omega arith) c.loop-waiting-test.false) c.loop-waiting.invariant
