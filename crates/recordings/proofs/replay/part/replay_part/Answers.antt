-- `replay_part`: each row goes on with what is left of the output. Assumes nothing.
use Rattle.std.proofs.Common.{◌+◌, ◌-◌, ℕ, List, sym, refl, ap, ◌∙◌, arith}
use Rattle.recordings.specs.declared.replay.part.Stop.{Stop}
use Rattle.recordings.specs.declared.replay.part.Replayed.{Replayed}
use Rattle.recordings.specs.Replay.Part.{stopped, log_from, part_of}
use Rattle.recordings.proofs.Step.{no_room, put-told, stop-told}
use Rattle.recordings.proofs.replay.part.replay_part.Goals as goal

pub loop-out-init : goal.loop-out-init
unfolding part_of
loop-out-init c = (omega arith, refl, refl)

pub overflow_add-at : goal.overflow_add-at
overflow_add-at c = omega (arith, c.put_next-put.ensures.1)

pub returns-then-not-goes : goal.returns-then-not-goes
returns-then-not-goes c =
    let l = c.loop-out in
    let a = l.at in
    stop-told c.args.replayer.base c.args.s.now a.desk a.ordinal a.next a.filled l.out (a.filled + 1024 - a.filled) (omega arith) (omega arith) _
    c.wrapping_add_u64-offset.ensures.value c.put_next-put.result _ c.put_next-put.ensures.0 c.put_next-put.ensures.1
    (sym c.goes.ensures ∙ c.if-not-goes.true)
    ∙ l.invariant.2

pub loop-out-smaller : goal.loop-out-smaller
loop-out-smaller c =
    let l = c.loop-out in
    let a = l.at in
    let p =
    put-told c.args.replayer.base c.args.s.now a.desk a.ordinal a.next a.filled l.out (a.filled + 1024 - a.filled) (omega arith) (omega arith) _
    c.wrapping_add_u64-offset.ensures.value c.put_next-put.result _ c.put_next-put.ensures.0 c.put_next-put.ensures.1
    (sym c.goes.ensures ∙ c.if-not-goes.false) in
    omega (arith, p.0, p.1)

pub loop-out-preserved : goal.loop-out-preserved
loop-out-preserved c =
    let l = c.loop-out in
    let a = l.at in
    let p =
    put-told c.args.replayer.base c.args.s.now a.desk a.ordinal a.next a.filled l.out (a.filled + 1024 - a.filled) (omega arith) (omega arith) _
    c.wrapping_add_u64-offset.ensures.value c.put_next-put.result _ c.put_next-put.ensures.0 c.put_next-put.ensures.1
    (sym c.goes.ensures ∙ c.if-not-goes.false) in
    (omega (arith, c.put_next-put.ensures.1), l.invariant.1, rw c.wrapping_add_u64.ensures.value (p.2 ∙ l.invariant.2))

pub returns : goal.returns
returns c =
    let l = c.loop-out in
    let a = l.at in
    ap {B = Replayed × List ℕ} (λ (t : Stop). (stopped a.desk a.ordinal a.next a.filled t, l.out)) l.invariant.1
    ∙ (no_room c.args.replayer.base (log_from c.args.s.now a.next) a.desk a.ordinal a.next a.filled l.out (omega arith) ∙ l.invariant.2)
