-- `next_reading` tests the line, cuts and reads as its definition does.
use Rattle.std.proofs.Common.{sym, ◌∙◌}
use Rattle.cutting.proofs.Readings.{bad-line, nothing_left, cut-and-read}
use Rattle.cutting.proofs.cutting.next_reading.Goals as goal

pub returns-then-not-is_line : goal.returns-then-not-is_line
returns-then-not-is_line c = bad-line c.args.line c.args.s.now c.args.from (sym c.is_line.ensures ∙ c.if-not-is_line.true)

pub returns-in_default : goal.returns-in_default
returns-in_default c =
    nothing_left c.args.line c.args.s.now c.args.from (sym c.is_line.ensures ∙ c.if-not-is_line.false) (sym c.in_default.ensures)

pub returns : goal.returns
returns c =
    cut-and-read c.args.line c.args.s.now c.args.from _ _ _ c.read.result (sym c.is_line.ensures ∙ c.if-not-is_line.false) (sym c.in-Some.ensures)
    c.part_of.ensures c.read.ensures
