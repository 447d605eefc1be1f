-- `put_numbers` puts number after number. Assumes nothing.
use Rattle.std.proofs.Common.{refl, arith}
use Rattle.text.proofs.Puts.{part-on, put_all}
use Rattle.text.proofs.Values.{value-here, values-done}
use Rattle.text.proofs.items.put_numbers.Goals as goal

pub loop-n-preserved : goal.loop-n-preserved
loop-n-preserved c =
    let l = c.loop-n in
    part-on _ _ _ _ _ _ c.put_value-place.ensures (value-here _ l.n-index _ (omega arith) refl) l.invariant

pub returns : goal.returns
returns c = let l = c.loop-n in put_all _ _ _ _ _ _ (values-done _ l.n-index (omega arith)) l.invariant
