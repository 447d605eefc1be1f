-- `carry_on` replays the bytes at hand, and keeps those behind their records. Assumes nothing.
use Rattle.recordings.proofs.Turning.{kept}
use Rattle.recordings.proofs.replay.turn.carry_on.Goals as goal

pub returns : goal.returns
returns c =
    let a = c.args in
    kept a.replayer a.buf.now a.n a.out.now _ c.replay_part-replayed.result _ _ _ _ _ _ c.part.ensures c.replay_part-replayed.ensures
    c.keep_tail.ensures c.wants_for.ensures c.wrapping_add_u64.ensures.value c.saturating_sub.ensures
