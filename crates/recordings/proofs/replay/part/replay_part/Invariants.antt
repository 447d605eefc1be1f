-- `replay_part` goes from record to record: what the rows come to from the loop's place on is what they come to from the first. Assumes nothing.
use Rattle.std.proofs.Common.{◌≡◌, ◌-◌, ◌≤◌, length}
use Rattle.recordings.specs.declared.replay.part.Stop.TheVariants.{Full}
use Rattle.recordings.specs.Replay.Part.{log_from, part_of}
use Rattle.recordings.proofs.Step.{on_from}
use Rattle.recordings.proofs.replay.part.replay_part.Given as goal

abbrev pub invariant-loop-out : goal.invariant-loop-out
invariant-loop-out l =
    (l.at.filled ≤ length l.out) × (l.at.stop ≡ Full)
    × (on_from l.replayer.base (log_from l.s l.at.next) l.at.desk l.at.ordinal l.at.next l.at.filled l.out
    ≡ part_of l.replayer.desk l.replayer.ordinal l.replayer.base l.s l.fn.out)

abbrev pub decreases-loop-out : goal.decreases-loop-out
decreases-loop-out l = length l.s - l.at.next
