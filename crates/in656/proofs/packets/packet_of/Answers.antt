-- `packet_of` reads letter and length at the index. Assumes nothing.
use Rattle.std.proofs.Common.{arith}
use Rattle.forms.proofs.Slots.{count_small}
use Rattle.in656.proofs.Places.{packet-none, packet-here}
use Rattle.in656.proofs.packets.packet_of.Goals as goal

pub overflow_cast-count : goal.overflow_cast-count
overflow_cast-count c = omega (arith, c.count_of-count.ensures, count_small c.args.form)

pub returns-then-count-i : goal.returns-then-count-i
returns-then-count-i c = packet-none c.args.form _ _ _ c.count_of-count.ensures c.if-count-i.true (rw (c.with_count.ensures, c.done.ensures))

pub bounds-form-i : goal.bounds-form-i
bounds-form-i c = omega (arith, c.if-count-i.false, c.count_of-count.ensures, count_small c.args.form)

pub bounds-form-i-2 : goal.bounds-form-i-2
bounds-form-i-2 c = omega (arith, c.if-count-i.false, c.count_of-count.ensures, count_small c.args.form)

pub overflow_cast-count-2 : goal.overflow_cast-count-2
overflow_cast-count-2 c = omega (arith, c.count_of-count.ensures, count_small c.args.form)

pub returns : goal.returns
returns c =
    packet-here c.args.form _ _ _ c.count_of-count.ensures _ c.if-count-i.false c.sender_of.ensures
    (rw (c.with_count-2.ensures, c.with_written.ensures, c.say.ensures, c.from.ensures, c.from-2.ensures))
