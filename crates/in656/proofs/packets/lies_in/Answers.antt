-- `lies_in` asks for the place of the letter. Assumes nothing.
use Rattle.std.proofs.Common.{arith}
use Rattle.in656.proofs.Places.{lies-here, lies-nowhere}
use Rattle.in656.proofs.packets.lies_in.Goals as goal

pub returns-in_default : goal.returns-in_default
returns-in_default c = lies-nowhere c.args.form c.args.letter c.in_default.ensures

pub overflow_mul-result : goal.overflow_mul-result
overflow_mul-result c = omega (arith, (lies-here c.args.form c.args.letter _ c.in-Some.ensures).0)

pub overflow_add-result : goal.overflow_add-result
overflow_add-result c = omega (arith, (lies-here c.args.form c.args.letter _ c.in-Some.ensures).0)

pub returns : goal.returns
returns c = (lies-here c.args.form c.args.letter _ c.in-Some.ensures).1
