-- `put_cut` copies as much as has room. Assumes nothing.
use Rattle.std.proofs.Common.{sym, arith}
use Rattle.text.proofs.Puts.{full, in-stretch}
use Rattle.text.proofs.putting.put_cut.Goals as goal

pub returns-then-out-at : goal.returns-then-out-at
returns-then-out-at c = let a = c.args in sym (full a.text.now a.at a.out.now (omega arith))

pub returns : goal.returns
returns c =
    let a = c.args in
    in-stretch a.text.now a.at c.min-n.result _ a.out.now _ (omega arith) c.min-n.ensures (omega arith) c.copy_from_slice.ensures.after
