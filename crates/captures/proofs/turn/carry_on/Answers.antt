-- `carry_on` lists the bytes, and keeps the last of them where it has listed all. Assumes nothing.
use Rattle.std.proofs.Common.{refl}
use Rattle.laws.proofs.Truths.{not-true, not-false}
use Rattle.captures.proofs.Turning.{full, kept}
use Rattle.captures.proofs.turn.carry_on.Goals as goal

pub returns-then-not-listed : goal.returns-then-not-listed
returns-then-not-listed c =
    let a = c.args in
    full a.lister a.line a.buf.now a.n a.out.now _ c.list_part-listed.result _ c.part.ensures c.list_part-listed.ensures _ (not-true _ c.if-not-listed.true) refl

pub returns : goal.returns
returns c =
    let a = c.args in
    kept a.lister a.line a.buf.now a.n a.out.now _ c.list_part-listed.result _ c.part.ensures c.list_part-listed.ensures _ c.kept_from-from.result _ _
    (not-false _ c.if-not-listed.false) c.kept_from-from.ensures c.keep_tail.ensures (rw (c.wrapping_add_u64.ensures.value, c.saturating_sub.ensures))
