-- The last digit stands behind what stands before it. Assumes nothing.
use Rattle.std.proofs.Common.{arith}
use Rattle.text.proofs.Counts.{decimal-small, decimal-more}
use Rattle.text.proofs.Puts.{then}
use Rattle.text.proofs.numbers.+put_number.Goals as goal

pub returns-then-n-lt10 : goal.returns-then-n-lt10
returns-then-n-lt10 t c = rw (decimal-small c.args.n (omega arith), ← c.digit.ensures) c.put_byte.ensures

pub returns : goal.returns
returns t c =
    rw (decimal-more c.args.n (omega arith), ← c.digit-2.ensures) (then _ _ _ _ _ _ _ _ c.put_number-a.ensures c.put_byte-2.ensures)
