-- `reading::frame::end_check` meets its contract: checks 5, 6 and 7 in their order.
use Rattle.std.proofs.Common.{true, false, sym, ◌∙◌}
use Rattle.reading.specs.Frame.{summed_of}
use Rattle.reading.proofs.Framing.{no_end, bad_sum, to_number}
use Rattle.reading.proofs.frame.end_check.Goals as goal

pub returns-then-byte_at-ne-CR : goal.returns-then-byte_at-ne-CR
returns-then-byte_at-ne-CR c = no_end c.args.s.now (λ e. c.if-byte_at-ne-CR.true (c.byte_at.ensures ∙ e))

pub returns-then-not-is_two : goal.returns-then-not-is_two
unfolding summed_of
returns-then-not-is_two c =
    bad_sum c.args.s.now c.byte_at.ensures c.if-byte_at-ne-CR.false c.part.ensures c.checksum-sum.ensures c.hex.ensures c.hex-2.ensures c.is_two.ensures
    c.if-not-is_two.true

pub returns-then-not-is_number : goal.returns-then-not-is_number
unfolding summed_of
returns-then-not-is_number c =
    to_number c.args.s.now c.byte_at.ensures c.if-byte_at-ne-CR.false c.part.ensures c.checksum-sum.ensures c.hex.ensures c.hex-2.ensures c.is_two.ensures
    c.if-not-is_two.false false (rw (← c.byte_at-2.ensures) (sym c.is_number.ensures ∙ c.if-not-is_number.true))

pub returns : goal.returns
unfolding summed_of
returns c =
    to_number c.args.s.now c.byte_at.ensures c.if-byte_at-ne-CR.false c.part.ensures c.checksum-sum.ensures c.hex.ensures c.hex-2.ensures c.is_two.ensures
    c.if-not-is_two.false true (rw (← c.byte_at-2.ensures) (sym c.is_number.ensures ∙ c.if-not-is_number.false))
