-- `put_queue` goes from record to record. Assumes nothing.
use Rattle.std.proofs.Common.{◌≡◌, ◌-◌, drop}
use Rattle.text.specs.Putting.{puts}
use Rattle.scripts.specs.Desks.Printing.{queue_text}
use Rattle.scripts.proofs.desks.printing.put_queue.Given as goal

abbrev pub invariant-loop-waiting : goal.invariant-loop-waiting
invariant-loop-waiting l = puts (queue_text (l.queued - l.waiting-index) (drop l.waiting-index l.queue)) l.place l.out ≡ puts (queue_text l.queued l.queue) l.at l.fn.out
