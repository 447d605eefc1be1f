-- `put_text` copies a text that all has room. Assumes nothing.
use Rattle.std.proofs.Common.{◌∙◌, sym, arith, take_all}
use Rattle.text.proofs.Puts.{full, in-stretch}
use Rattle.text.proofs.putting.put_text.Goals as goal

pub returns-then-out-at : goal.returns-then-out-at
returns-then-out-at c = let a = c.args in sym (full a.text.now a.at a.out.now (omega arith))

pub returns : goal.returns
returns c =
    let a = c.args in
    in-stretch a.text.now a.at _ _ a.out.now _ (omega arith) (omega arith) (omega arith) (c.copy_from_slice.ensures.after ∙ sym (take_all _ a.text.now (omega arith)))
